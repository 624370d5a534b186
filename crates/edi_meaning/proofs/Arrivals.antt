-- Of a step that leaves its process to go on by itself there is no arrival.
use Rattle.std.proofs.Common.{◌≡◌, ℕ, zero, suc, ◌+◌, ◌-◌, Bool, true, false, if◌then◌else◌, List, [], ◌∷◌, ◌++◌, length, Option, Some, None, refl, sym, subst, ap}
use Rattle.std.specs.Prelude.{⊤, nat_lt}
use Rattle.std.specs.List.{list_any}
use Rattle.edi_calls.specs.Forks.{most_processes, equal_share}
use Rattle.edi_calls.specs.declared.kinds.Cause.TheVariants as cause
use Rattle.edi_calls.specs.Names.{Name, find, without}
use Rattle.edi_calls.specs.Outcome as outcome
use Rattle.edi_calls.specs.Outcome.{Ending}
use Rattle.edi_calls.specs.Ready.{parent_of, Next, stays, joins, freed}
use Rattle.edi_calls.specs.State.{Traced}
use Rattle.edi_calls.proofs.Tables.{find-with_at-same}
use Rattle.edi_unit.specs.Tree.{ProgramUnit}
use Rattle.edi_meaning.specs.Store.{shape, room}
use Rattle.edi_meaning.specs.Evaluation.{World, Evaluation, gives, ends}
use Rattle.edi_meaning.specs.Step.{Process, Processes, Standing, ready, at_when, waiting, Work, Asks, goes, arrives, again, forks, leaves, Stepped, went, ended}
use Rattle.edi_meaning.specs.Step.{awaits, back, exceeds, fork_taken, forked, one_less, notified, exited, kernel, step_of, step, local_step}
use Rattle.edi_meaning.specs.Arrivals.{Arrival, arrival_of}

module _ (unit : ProgramUnit) (p : Name) where
  abbrev pub NotThere : Processes → Type 0
  NotThere s = arrival_of p s.world (find s.live p) ≡ []

  abbrev StaysReady : Stepped → Type 0
  StaysReady (went s stays quiet) = NotThere s
  StaysReady (went s (joins ps) quiet) = ⊤
  StaysReady (ended ending system turns) = ⊤

  freed_ready : (n : ℕ) (s : Processes) (q : Name) (quiet : Bool) → StaysReady (went s (freed n q) quiet)
  freed_ready zero s q quiet = tt
  freed_ready (suc n) s q quiet = tt

  less_ready : (s : Processes) (r : Name) (q : Process) (st : Standing) → StaysReady (one_less s r q st)
  less_ready s r q (waiting n) = freed_ready (n - 1) (back s r (record q { standing = awaits (n - 1) }) s.world) r false
  less_ready s r q ready = tt
  less_ready s r q (at_when cs position) = tt

  told_ready : (s : Processes) (r : Name) (q : Option Process) → StaysReady (notified s r q)
  told_ready s r None = tt
  told_ready s r (Some q) = less_ready s r q q.standing

  taken_ready : (s : Processes) (q : Process) (bs : List ℕ) (work : List Work) (w : World) (turns share : ℕ) →
      StaysReady (fork_taken unit s p q bs work w turns share)
  taken_ready s q bs work w zero share = tt
  taken_ready s q bs work w (suc n) share = tt

  either_ready : (b : Bool) (ending : Ending) (system : Traced) (turns : ℕ) (x : Stepped) → StaysReady x →
      StaysReady (if b then ended ending system turns else x)
  either_ready true ending system turns x h = tt
  either_ready false ending system turns x h = h

  fork_ready : (s : Processes) (q : Process) (bs : List ℕ) (line : ℕ) (work : List Work) (w : World) → StaysReady (forked unit s p q bs line work w)
  fork_ready s q bs line work w =
      let share : ℕ = equal_share (room q.size (shape w.store p)) (length bs) in
      either_ready (nat_lt most_processes (length s.live + length bs)) _ _ _ _
      (either_ready (list_any (exceeds unit share) bs) _ _ _ _ (taken_ready s q bs work w w.turns share))

  kernel_ready : (s : Processes) (q : Process) (a : Evaluation Asks) → StaysReady (kernel unit s p q a)
  kernel_ready s q (ends ending system turns) = tt
  kernel_ready s q (gives (goes work) w) =
      ap (arrival_of p w) (find-with_at-same s.live p (record q { work = work; standing = ready }))
  kernel_ready s q (gives (arrives cs position work) w) = tt
  kernel_ready s q (gives (again cs position quiet work) w) = tt
  kernel_ready s q (gives (forks bs line work) w) = fork_ready s q bs line work w
  kernel_ready s q (gives leaves w) = told_ready _ (parent_of p) (find (without s.live p) (parent_of p))

  step_of_ready : (s : Processes) (o : Option Process) → StaysReady (step_of unit s p o)
  step_of_ready s None = tt
  step_of_ready s (Some q) = kernel_ready s q (local_step unit p q.size q.standing q.work s.world)

  pub step_stays_ready : (s t : Processes) (quiet : Bool) → step unit s p ≡ went t stays quiet → NotThere t
  step_stays_ready s t quiet e = subst StaysReady e (step_of_ready s (find s.live p))
