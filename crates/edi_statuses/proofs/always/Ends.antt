-- How a command may end, from what its steps come to and from what its effect may be.
use Rattle.std.proofs.Common.{◌≡◌, ℕ, true, false, List, [], ◌++◌, Some, refl, sym, inl, inr}
use Rattle.std.specs.List.{list_all}
use Rattle.std.proofs.lemmas.List.{append-nil}
use Rattle.edi_host.specs.Blocks.{is_block}
use Rattle.edi_host.specs.Contents.{Contents}
use Rattle.edi_words.specs.Words.{Command}
use Rattle.edi_statuses.specs.declared.status.Status.{Status}
use Rattle.edi_statuses.specs.declared.status.Status.TheVariants as status
use Rattle.edi_statuses.specs.Outside.{Outside, Devices, Kept, KernelLeft, Lent, with_kept}
use Rattle.edi_statuses.specs.Steps.{AfterStep, goes, stops}
use Rattle.edi_statuses.specs.Facts.{Comes}
use Rattle.edi_statuses.specs.Commands.{CommandEffect, Does, IsDone, OnlyBlocks, OnlyKeeps, OnlyShows}
use Rattle.edi_statuses.specs.Decided.{IsDecisive}
use Rattle.edi_statuses.specs.EachObject.{KeepsImage, LeavesEach, formats}
use Rattle.edi_statuses.specs.Always.{MayCome, MayEnd, lent_from, told_outside}
use Rattle.edi_statuses.proofs.EachLeft.{each_same}
use Rattle.edi_statuses.proofs.always.Steps.{ComesTo}

module _ (c : Command) (files : Contents) (d : Devices) (kernel : KernelLeft) where
  -- nothing is touched
  each_stays : LeavesEach (Some c) (told_outside files d) (told_outside files d)
  each_stays = each_same (Some c) (told_outside files d) (told_outside files d) refl refl refl

  -- a step stops the command
  pub stopped : {A : Type 0} (steps : AfterStep A → Type 0) (effect : A → CommandEffect) (s : Status) → IsDecisive s → steps (stops s)
      → MayCome c (Does steps effect) files d kernel
  stopped steps effect s decisive h = record {
    answer = s;
    decisive = decisive;
    files_after = files;
    devices_after = d;
    sized = λ h. h;
    shown = [];
    left = kernel;
    comes = inl (h, record { shown_ = refl; same = record { files = refl; blocks = refl; input = refl; printed = refl }; kernel_same = refl });
    shows = sym (append-nil d.shown);
    each = each_stays;
  }

  -- its steps go on, and it has its effect
  pub effected : {A : Type 0} (steps : AfterStep A → Type 0) (effect : A → CommandEffect) (a : A) → steps (goes a)
      → MayCome c (effect a) files d kernel → MayCome c (Does steps effect) files d kernel
  effected steps effect a h may = record {
    answer = may.answer;
    decisive = may.decisive;
    files_after = may.files_after;
    devices_after = may.devices_after;
    sized = may.sized;
    shown = may.shown;
    left = may.left;
    comes = inr (a, h, may.comes);
    shows = may.shows;
    each = may.each;
  }

  pub does_some : {A : Type 0} (steps : AfterStep A → Type 0) (effect : A → CommandEffect) → ComesTo steps
      → ((a : A) → steps (goes a) → MayCome c (effect a) files d kernel) → MayCome c (Does steps effect) files d kernel
  does_some steps effect (stops s, h, fine) each = stopped steps effect s fine h
  does_some steps effect (goes a, h, fine) each = effected steps effect a h (each a h)

  -- what the table of commands says of this command
  pub of_table : (effect : CommandEffect) → MayCome c effect files d kernel
      → ((s : Status) (after : Outside) (shown : List ℕ) (k : Lent) → effect s (told_outside files d) after shown k
      → Comes c s (told_outside files d) after shown k) → MayEnd c files d kernel
  of_table effect may is = record {
    answer = may.answer;
    decisive = may.decisive;
    files_after = may.files_after;
    devices_after = may.devices_after;
    sized = may.sized;
    shown = may.shown;
    left = may.left;
    comes = is may.answer (told_outside may.files_after may.devices_after) may.shown (lent_from kernel may.left) may.comes;
    shows = may.shows;
    each = may.each;
  }

  -- ---- effects that touch one object

  pub keeps_some : (kept : List Kept) → MayCome c (IsDone (OnlyKeeps kept)) files d kernel
  keeps_some kept = record {
    answer = status.Ok;
    decisive = tt;
    files_after = with_kept kept files;
    devices_after = d;
    sized = λ h. h;
    shown = [];
    left = kernel;
    comes = (refl, record { shown_ = refl; keeps = refl; blocks = refl; input = refl; printed = refl; kernel_same = refl });
    shows = sym (append-nil d.shown);
    each = each_same (Some c) (told_outside files d) (told_outside (with_kept kept files) d) refl refl refl;
  }

  abbrev pub showing : List ℕ → Devices
  showing bytes = record d { shown = d.shown ++ bytes }

  pub only_shows : (bytes : List ℕ) → OnlyShows bytes (told_outside files d) (told_outside files (showing bytes)) bytes (lent_from kernel kernel)
  only_shows bytes =
      record { shown_ = refl; same = record { files = refl; blocks = refl; input = refl; printed = refl }; kernel_same = refl }

  pub each_shows : (bytes : List ℕ) → LeavesEach (Some c) (told_outside files d) (told_outside files (showing bytes))
  each_shows bytes = each_same (Some c) (told_outside files d) (told_outside files (showing bytes)) refl refl refl

  pub shows_some : (bytes : List ℕ) → MayCome c (IsDone (OnlyShows bytes)) files d kernel
  shows_some bytes = record {
    answer = status.Ok;
    decisive = tt;
    files_after = files;
    devices_after = showing bytes;
    sized = λ h. h;
    shown = bytes;
    left = kernel;
    comes = (refl, only_shows bytes);
    shows = refl;
    each = each_shows bytes;
  }

  -- the drive has other blocks: a format, or blocks that are a valid image
  pub blocks_some : (P : List (List ℕ) → List (List ℕ) → Type 0) (new : List (List ℕ)) → P d.blocks new
      → (list_all is_block d.blocks ≡ true → list_all is_block new ≡ true) → (formats c ≡ false → KeepsImage d.blocks new) → MayCome c (IsDone (OnlyBlocks P)) files d kernel
  blocks_some P new is sized valid = record {
    answer = status.Ok;
    decisive = tt;
    files_after = files;
    devices_after = record d { blocks = new };
    sized = sized;
    shown = [];
    left = kernel;
    comes = (refl, record { shown_ = refl; blocks = is; files = refl; input = refl; printed = refl; kernel_same = refl });
    shows = sym (append-nil d.shown);
    each = record { drive = valid; input = each_stays.input; printer = each_stays.printer };
  }
