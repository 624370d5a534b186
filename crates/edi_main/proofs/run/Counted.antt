-- No count falls where none falls of the files and of the four objects of a run; and a fault has its cause.
use Rattle.std.proofs.Common.{◌≡◌, ◌⊎◌, ℕ, List, Option, refl, sym, subst, inl, inr}
use Rattle.std.specs.Prelude.{◌≤◌}
use Rattle.edi_told.specs.Faults.{CountRose}
use Rattle.edi_host.specs.Contents.{Contents}
use Rattle.edi_trace.specs.Drawn.{Drawn}
use Rattle.edi_statuses.specs.declared.status.Status.{Status}
use Rattle.edi_statuses.specs.declared.status.Status.TheVariants as status
use Rattle.edi_main.specs.steps.OnFiles.{RecordEnd}
use Rattle.edi_calls.specs.declared.ends.Outside.TheVariants as object
use Rattle.edi_execute.specs.Objects as execute
use Rattle.edi_execute.specs.Objects.{Objects}
use Rattle.edi_statuses.specs.Counts.{Counts, HasCause, NoneFalls, counts_of}

pub none_falls : {F D S T P : Type 0} (files : F → ℕ) (drive : D → ℕ) (input : S → ℕ) (terminal : T → ℕ) (printer : P → ℕ) (f f' : F) (o o' : Objects D S T P)
    → files f ≤ files f' → execute.NoneFalls drive input terminal printer o o'
    → NoneFalls (counts_of files drive input terminal printer f o.drive o.input o.terminal o.printer)
    (counts_of files drive input terminal printer f' o'.drive o'.input o'.terminal o'.printer)
none_falls files drive input terminal printer f f' o o' first l = record {
  files = first;
  drive = l.later object.Drive;
  input = l.later object.Input;
  terminal = l.later object.Terminal;
  printer = l.later object.Printer;
}

-- the status behind the record
pub record_cause : (name : Option (List ℕ)) (drawn : Drawn) (s t : Status) (old new : Option Contents) (had has : Counts) → HasCause s had has
    → (t ≡ status.FileFault → (s ≡ status.FileFault) ⊎ CountRose had.files has.files) → RecordEnd name drawn s t old new → HasCause t had has
record_cause name drawn s t old new had has h cause (inl kept) = subst (λ x. HasCause x had has) (sym kept.0) h
record_cause name drawn s status.NoMemory old new had has h cause (inr why) = tt
record_cause name drawn s status.FileFault old new had has h cause (inr why) =
    let how = cause refl in
    elim how [
      | inl is ↦ subst (λ x. HasCause x had has) is h
      | inr rose ↦ rose
    ]
record_cause name drawn s t old new had has h cause (inr why) = absurd why
