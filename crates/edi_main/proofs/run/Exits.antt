-- A command has done nothing, and the status says why.
use Rattle.std.proofs.Common.{◌≡◌, ℕ, List, [], Option, refl, sym, subst, inl, inr}
use Rattle.std.specs.Prelude.{⊤}
use Rattle.edi_told.specs.Told.{WhereTold}
use Rattle.edi_host.specs.Contents.{Contents}
use Rattle.edi_words.specs.Words.{ChoicesFrom, nowhere, file, seed}
use Rattle.edi_trace.specs.Lines.{Reading, values, bad_line, read_of}
use Rattle.edi_statuses.specs.declared.status.Status.{Status}
use Rattle.edi_statuses.specs.declared.status.Status.TheVariants as status
use Rattle.edi_statuses.specs.Outside.{Outside, seen, Lent}
use Rattle.edi_statuses.specs.Steps.{stops, Fetches, GivesChoices, ReadsChoices}
use Rattle.edi_statuses.specs.Commands.{IsNothing}
use Rattle.edi_statuses.specs.Broken.{HasNotBegun}
use Rattle.edi_statuses.proofs.Told.{same_told, still}

-- ---- nothing was done

abbrev pub with_files : Outside → Option Contents → Outside
with_files o files = record o { files = files }

module _ (o : Outside) (new : Option Contents) (kernel : Lent) (kept : kernel.after ≡ kernel.before) where
  pub nothing : WhereTold o.files new (λ a b. b ≡ a) → IsNothing (seen o (with_files o new)) (with_files o new) [] kernel
  nothing same = record {
    shown_ = refl;
    same = record {
      files = still _ o.files new same;
      blocks = same_told o.blocks o.blocks refl;
      input = same_told o.input o.input refl;
      printed = same_told o.printed o.printed refl;
    };
    kernel_same = kept;
  }

  pub not_begun : HasNotBegun (seen o (with_files o new)) (with_files o new) [] kernel
  not_begun = record {
    shown_ = refl;
    blocks = same_told o.blocks o.blocks refl;
    input = same_told o.input o.input refl;
    printed = same_told o.printed o.printed refl;
    kernel_same = kept;
  }

-- ---- refusals

-- the statuses at which a command stops before the drive is looked at
abbrev pub IsRefusal : Status → Type 0
IsRefusal status.Absent = ⊤
IsRefusal (status.BadChoices n) = ⊤
IsRefusal (status.Refused kind line) = ⊤
IsRefusal (status.BadCode broken) = ⊤
IsRefusal _ = ⊥

fetch_refusal : (o : Outside) (name : List ℕ) (s : Status) → Fetches o name (stops s) → IsRefusal s
fetch_refusal o name s h = subst IsRefusal (sym h.0) tt

pub choices_refusal : (o : Outside) (from : ChoicesFrom) (s : Status) → ReadsChoices o from (stops s) → IsRefusal s
choices_refusal o nowhere s h = absurd h
choices_refusal o (seed n) s h = absurd h
choices_refusal o (file name) s (inl h) = fetch_refusal o name s h
choices_refusal o (file name) s (inr h) = go (read_of h.0) h.2
  where
    go : (reading : Reading) → GivesChoices reading (stops s) → IsRefusal s
    go (values list) k = absurd k
    go (bad_line n) k = subst IsRefusal (sym k) tt
