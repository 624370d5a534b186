-- A watched run that has ended without a fault has the log of the text.
use Rattle.std.proofs.Common.{◌≡◌, ℕ, Bool, false, List, length, drop, Option, refl}
use Rattle.edi_told.specs.Told.{WhereTold}
use Rattle.edi_system.specs.AsCalls.{KeepsDue}
use Rattle.edi_system.specs.Parts.{due_after, KeepsTold, SystemBegins, ToldStays}
use Rattle.edi_system.specs.State.{due_in}
use Rattle.edi_system.specs.declared.system.System.{System}
use Rattle.edi_execute.specs.Objects.{Objects}
use Rattle.edi_execute.proofs.Runs.{AreOf, AreUnder, due_run, told_run}
use Rattle.edi_calls.specs.State.{State, fresh}
use Rattle.edi_tree.specs.Whole.{program_of}
use Rattle.edi_trace.specs.Drawn.{Drawn}
use Rattle.edi_unit.specs.Tree.{ProgramUnit}
use Rattle.edi_kernel.specs.declared.ends.Ending.{Ending}
use Rattle.edi_kernel.specs.declared.ends.Ending.TheVariants as ending
use Rattle.edi_kernel.specs.declared.state.KernelState.{KernelState}
use Rattle.edi_debug.specs.Points.{ArePoints, watched_in}
use Rattle.edi_debug.specs.declared.answer.Points.{Points}
use Rattle.edi_debug.specs.stops.Kept.{Kept, nothing_kept}
use Rattle.edi_debug.specs.stops.Stops.{Watched}
use Rattle.edi_debug.specs.stops.Underway.{Ended}
use Rattle.edi_debug.specs.stops.Watching.{LogsAll, LogsRun}
use Rattle.edi_runs.specs.declared.watch.source.Watchable.{Watchable}
use Rattle.edi_runs.specs.watch.Logs.{IsLogOf}
use Rattle.edi_runs.specs.watch.Watchable.{IsWatchable}
use Rattle.edi_runs.proofs.watch.Meant.{log_is}

logs_all : (unit : ProgramUnit) (s : State) (bound : ℕ) (choices : Drawn) (e : Ending) (used : ℕ) (now : State) (after : Drawn) (points : List Watched)
    (old new : Kept) → (e ≡ ending.Fault → ⊥) → LogsRun unit s bound choices e used now after points old new
    → LogsAll unit s bound choices points old new
logs_all unit s bound choices ending.Fault used now after points old new unfailed h = absurd (unfailed refl)
logs_all unit s bound choices e used now after points old new unfailed h = h

pub logged : (text : List ℕ) (w : Watchable) (is : IsWatchable text w) (points : Points) → ArePoints (program_of w.tree) points
    → (system : State) (bound : ℕ) (choices : Drawn) (start : Kept) (e : Ending) (k : KernelState) (now : State) (after : Drawn) (new : Kept)
    → choices.drawn ≡ 0 → start ≡ nothing_kept → (e ≡ ending.Fault → ⊥)
    → Ended is.whole.unit (watched_in points) (fresh system) bound choices start e k now after new
    → IsLogOf text system bound choices.source (watched_in points) new.bytes
logged text w is points are system bound choices start e k now after new none empty unfailed h =
    log_is text w is points are system bound choices start new none empty
    (logs_all is.whole.unit (fresh system) bound choices e k.used now after (watched_in points) start new unfailed h.logs)

-- What is told of the objects of a system, and whether a line is due.
pub told_due : {D S T P : Type 0} (contents : D → Option (List (List ℕ))) (left : S → Option (List ℕ)) (shown : T → Option (List ℕ))
    (printed : P → Option (List ℕ)) (before after : System D S T P) (o o' : Objects D S T P) → AreUnder contents before o → AreOf after o' → (due : Bool)
    → SystemBegins before → due ≡ due_in after → KeepsTold contents left shown printed before after → KeepsDue shown before after
    → ToldStays (contents o.drive) (contents o'.drive) (left o.input) (left o'.input) (shown o.terminal) (shown o'.terminal) (printed o.printer)
    (printed o'.printer)
    × WhereTold (shown o.terminal) (shown o'.terminal) (λ taken now. due ≡ due_after false (drop (length taken) now))
told_due contents left shown printed before after o o' are are' due begins is told keeps = (
  told_run contents left shown printed before after o o' are are' told,
  due_run contents left shown printed before after o o' are are' due begins is told keeps,
)
