-- Words of contracts. What is left where a program is watched on a drive that is mounted for it, and its log and the record of its choices are kept.
use Rattle.std.specs.Prelude.{◌≡◌, ◌⊎◌, ℕ, Bool, List, [], ◌∷◌, Option, None, IsSome}
use Rattle.edi_told.specs.Told.{WhereTold}
use Rattle.edi_host.specs.Contents.{Contents}
use Rattle.edi_calls.specs.Choice.{Choices}
use Rattle.edi_trace.specs.Drawn.{Drawn}
use Rattle.edi_debug.specs.stops.Stops.{Watched}
use Rattle.edi_runs.specs.declared.watch.source.Watchable.{Watchable}
use Rattle.edi_runs.specs.watch.Watchable.{IsWatchable}
use Rattle.edi_statuses.specs.declared.status.Status.{Status}
use Rattle.edi_statuses.specs.declared.status.Status.TheVariants as status
use Rattle.edi_statuses.specs.EachObject.{LeavesEach}
use Rattle.edi_statuses.specs.Outside.{Outside, SameBut, SameFiles, Lent, Shows, seen, with_kept, without_names}
use Rattle.edi_statuses.specs.Lines.{is_due}
use Rattle.edi_statuses.specs.Executions.{text, BrokeRun, record_of}
use Rattle.edi_statuses.specs.Commands.{Watches}
use Rattle.edi_main.specs.run.OnKept.{OnKept}
use Rattle.edi_statuses.specs.Broken.{KeepsLog, LosesRecord, RanWhole, names_in}

-- ---- the files

-- The log was not kept, and then no record was; or the log was kept, and the record was not. Memory ran out, or the files failed.
abbrev pub LogUnkept : (out log : List ℕ) → (name : Option (List ℕ)) → Status → (before after : Option Contents) → Type 0
LogUnkept out log name status.NoMemory before after =
    WhereTold before after (λ old new. new ≡ old) ⊎ (IsSome name × WhereTold before after (λ old new. new ≡ with_kept ((out, log) ∷ []) old))
LogUnkept out log name status.FileFault before after =
    WhereTold before after (λ old new. without_names (out ∷ []) new ≡ without_names (out ∷ []) old)
    ⊎ (IsSome name × WhereTold before after (λ old new. without_names (names_in name) new ≡ without_names (names_in name) (with_kept ((out, log) ∷ []) old)))
LogUnkept out log name s before after = ⊥

-- A command that came to this status keeps its log, and then its record, and ends by it, or by the status that tells why they are not kept.
abbrev pub LogEnd : (out log : List ℕ) → (name : Option (List ℕ)) → Drawn → (came ends : Status) → (before after : Option Contents) → Type 0
LogEnd out log name choices came ends before after =
    ((ends ≡ came) × WhereTold before after (λ old new. new ≡ with_kept ((out, log) ∷ record_of name choices.source choices.drawn) old))
    ⊎ LogUnkept out log name ends before after

-- ---- all of it

-- The drive was not mounted; or the run was broken off; or it came to its end, and then the log or the record wanted memory, where the log may be kept,
-- or the files failed, where the record may be lost; or both were kept. So it is of a text with these points.
abbrev pub TextWatched : (bytes : List ℕ) → List Watched → (bound : ℕ) → Choices → (out : List ℕ) → (record_file : Option (List ℕ)) → Status
    → Outside → Outside → (shown : List ℕ) → Lent → Type 0
TextWatched bytes points bound choices out name s before after shown kernel =
    OnKept (out ∷ names_in name) (BrokeRun s kernel.failed (text bytes) bound choices before after shown)
    (RanWhole (text bytes) bound choices before after shown kernel × (SameFiles before after ⊎ KeepsLog bytes points bound choices out name before after))
    (RanWhole (text bytes) bound choices before after shown kernel
    × (SameBut (out ∷ []) before after ⊎ LosesRecord bytes points bound choices out name before after))
    (λ end. Watches bytes points bound choices out name end before after shown kernel) s before after shown kernel

-- And so of every text of this program; a line feed is due before the line of the status, or not.
pub record RanWatched (w : Watchable) (points : List Watched) (bound : ℕ) (choices : Choices) (out : List ℕ) (name : Option (List ℕ)) (s : Status)
    (due : Bool) (before after : Outside) (kernel : Lent) : Type 0 where
  pub shown : List ℕ
  pub ran : (bytes : List ℕ) → IsWatchable bytes w → TextWatched bytes points bound choices out name s (seen before after) after shown kernel
  pub shows : Shows before after shown
  pub due_is : due ≡ is_due shown
  pub each : LeavesEach None before after
