-- A frame that makes no call has no fault; what calls in a row leave.
use Rattle.std.proofs.Common.{ℕ, ◌≤◌, [], None, Option, Result, Ok, Err, ◌∙◌, arith}
use Rattle.edi_told.specs.Faults.{CountRose}
use Rattle.edi_calls.specs.declared.ends.Outside.{Outside}
use Rattle.edi_calls.specs.Ends.{CallsLast}
use Rattle.edi_calls.specs.State.{State}
use Rattle.edi_walk.specs.declared.evaluation.Evaluation as code
use Rattle.edi_walk.specs.declared.stop.Stop.{Stop}
use Rattle.edi_walk.specs.declared.stop.Stop.TheVariants as stop
use Rattle.edi_walk.specs.Ends.{ErrBlames, PartBlames, StopBlames}
use Rattle.edi_walk.specs.Frames.{Given, Frame}
use Rattle.edi_walk.specs.Machine.{Resumes}

some_state : State
some_state = record { input = []; shown = []; printed = []; slots = []; blocks = 0; found = None; buffer = None }

pub resume_blames : (f : Frame) (g : Given) (result : Result (Unit {0}) Stop) (old new : code.Evaluation) → Resumes f g result old new →
    (failed : Option Outside → Type 0) (before now : Outside → ℕ) → failed None → StopBlames result failed before now
resume_blames f g (Ok x) old new r failed before now h = h
resume_blames f g (Err stop.Done) old new r failed before now h = h
resume_blames f g (Err (stop.Halted line)) old new r failed before now h = h
resume_blames f g (Err (stop.Failed c line)) old new r failed before now h = h
resume_blames f g (Err stop.Turns) old new r failed before now h = h
resume_blames f g (Err (stop.Fault number)) old new r failed before now h = absurd (r old.turns (record { now = some_state; past = [] }) (omega arith))
resume_blames f g (Err stop.NoMemory) old new r failed before now h = h

pub lasts_on : {C R : Type 0} (faults : C → Outside → ℕ) (references : C → R) (leads : C → C → Type 0) (a b c : C) → CallsLast faults references leads a b →
    CallsLast faults references leads b c → CallsLast faults references leads a c
lasts_on faults references leads a b c h k = (λ o. omega (arith, h.0 o, k.0 o), k.1 ∙ h.1, λ s l. k.2 s (h.2 s l))

-- what has failed after other calls has failed in all of them, and its count has risen since the first of them
rose_on : (a b c : ℕ) → a ≤ b → CountRose b c → CountRose a c
rose_on a b c h k = omega (arith, h, k)

pub err_blames_on : (x : Stop) (failed : Option Outside → Type 0) (first before now : Outside → ℕ) → ((outside : Outside) → first outside ≤ before outside) →
    ErrBlames x failed before now → ErrBlames x failed first now
err_blames_on stop.Done failed first before now less h = h
err_blames_on (stop.Halted line) failed first before now less h = h
err_blames_on (stop.Failed c line) failed first before now less h = h
err_blames_on stop.Turns failed first before now less h = h
err_blames_on (stop.Fault number) failed first before now less h = (h.0, h.1, rose_on (first h.0) (before h.0) (now h.0) (less h.0) h.2, h.3)
err_blames_on stop.NoMemory failed first before now less h = h

pub blames_on : {T : Type 0} (result : Result T Stop) (failed : Option Outside → Type 0) (first before now : Outside → ℕ) →
    ((outside : Outside) → first outside ≤ before outside) → PartBlames result failed before now → PartBlames result failed first now
blames_on (Ok x) failed first before now less h = h
blames_on (Err x) failed first before now less h = err_blames_on x failed first before now less h
