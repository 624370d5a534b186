-- From what files and drive tell of a call to what its status means.
use Rattle.std.proofs.Common.{◌≡◌, ◌⊎◌, inl, ℕ, List, [], Option, Some, None, refl, sym, subst}
use Rattle.edi_told.specs.Told.{WhereTold}
use Rattle.edi_host.specs.Contents.{Contents}
use Rattle.edi_words.specs.Words.{Command}
use Rattle.edi_statuses.specs.declared.status.Status.{Status}
use Rattle.edi_statuses.specs.Outside.{Outside, Kept, Keeps, Lent, SameInput, SamePrinted, seen}
use Rattle.edi_statuses.specs.Commands.{IsNothing, OnlyBlocks, OnlyKeeps}
use Rattle.edi_statuses.specs.Broken.{ChangesDrive, HasNotBegun}
use Rattle.edi_statuses.specs.Means.{Means}
use Rattle.edi_statuses.proofs.Told.{same_told, still}
use Rattle.edi_main.specs.disk.OnDisk.{MeansOnDisk, RestStays}

abbrev pub Same : {A : Type 0} → Option A → Option A → Type 0
Same old new = WhereTold old new (λ old new. new ≡ old)

-- one of two is so, and so of what is told, or nothing is told
pub one_told : {A : Type 0} (P Q : A → A → Type 0) (old new : Option A) → WhereTold old new (λ x y. P x y ⊎ Q x y)
    → WhereTold old new P ⊎ WhereTold old new Q
one_told P Q old None told = inl tt
one_told P Q None (Some y) told = absurd told
one_told P Q (Some x) (Some y) told = told

module _ (before after : Outside) (kernel : Lent) (rest : RestStays before after kernel) where
  input_same : SameInput (seen before after) after
  input_same = same_told before.input after.input rest.input

  printed_same : SamePrinted (seen before after) after
  printed_same = same_told before.printed after.printed rest.printed

  pub nothing : Same before.files after.files → Same before.blocks after.blocks → IsNothing (seen before after) after [] kernel
  nothing files blocks = record {
    shown_ = refl;
    same = record {
      files = still (λ old new. new ≡ old) before.files after.files files;
      blocks = still (λ old new. new ≡ old) before.blocks after.blocks blocks;
      input = input_same;
      printed = printed_same;
    };
    kernel_same = rest.kernel_same;
  }

  pub not_begun : Same before.blocks after.blocks → HasNotBegun (seen before after) after [] kernel
  not_begun blocks = record {
    shown_ = refl;
    blocks = still (λ old new. new ≡ old) before.blocks after.blocks blocks;
    input = input_same;
    printed = printed_same;
    kernel_same = rest.kernel_same;
  }

  pub only_blocks : (P : List (List ℕ) → List (List ℕ) → Type 0) → Same before.files after.files → WhereTold before.blocks after.blocks P
      → OnlyBlocks P (seen before after) after [] kernel
  only_blocks P files blocks = record {
    shown_ = refl;
    blocks = still P before.blocks after.blocks blocks;
    files = still (λ old new. new ≡ old) before.files after.files files;
    input = input_same;
    printed = printed_same;
    kernel_same = rest.kernel_same;
  }

  pub changes_drive : (P : List (List ℕ) → List (List ℕ) → Type 0) → WhereTold before.blocks after.blocks P
      → ChangesDrive P (seen before after) after [] kernel
  changes_drive P blocks = record {
    shown_ = refl;
    blocks = still P before.blocks after.blocks blocks;
    input = input_same;
    printed = printed_same;
    kernel_same = rest.kernel_same;
  }

  pub only_keeps : (kept : List Kept) → Keeps (seen before after) after kept → Same before.blocks after.blocks
      → OnlyKeeps kept (seen before after) after [] kernel
  only_keeps kept keeps blocks = record {
    shown_ = refl;
    keeps = keeps;
    blocks = still (λ old new. new ≡ old) before.blocks after.blocks blocks;
    input = input_same;
    printed = printed_same;
    kernel_same = rest.kernel_same;
  }

-- what holds of the contents of files and drive holds of the outside that has them
pub meant : (H : Option Contents → Option Contents → Option (List (List ℕ)) → Option (List (List ℕ)) → Type 0) (c : Command) (s : Status)
    (old new : Option Contents) (was now : Option (List (List ℕ))) → H old new was now
    → ((before after : Outside) (kernel : Lent) → RestStays before after kernel → H before.files after.files before.blocks after.blocks
    → Means s (Some c) before after [] kernel)
    → MeansOnDisk c s old new was now
meant H c s old new was now h so = λ before after kernel e d f g rest.
    so before after kernel rest
    (subst (λ x. H x after.files before.blocks after.blocks) (sym e)
    (subst (λ x. H old x before.blocks after.blocks) (sym d)
    (subst (λ x. H old new x after.blocks) (sym f)
    (subst (λ x. H old new was x) (sym g) h))))
