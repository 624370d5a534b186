-- The text of the end of a run that has ended without a fault is the dump of what is run.
use Rattle.std.proofs.Common.{◌≡◌, ◌∙◌, ℕ, List, Option, Some, refl, sym, ap, subst}
use Rattle.edi_calls.specs.Choice.{Choices}
use Rattle.edi_calls.specs.Names.{Name}
use Rattle.edi_calls.specs.Outcome as outcome
use Rattle.edi_calls.specs.State.{State, fresh}
use Rattle.edi_target.specs.Check.{CodeParts}
use Rattle.edi_target.specs.Fetch.{fetch}
use Rattle.edi_target.specs.Mach.{Machine, finished, run_from_start}
use Rattle.edi_trace.specs.Drawn.{Drawn}
use Rattle.edi_kernel.specs.declared.ends.Ending.{Ending}
use Rattle.edi_kernel.specs.declared.ends.Ending.TheVariants as ending
use Rattle.edi_waits.specs.Ended.{RanLast}
use Rattle.edi_waits.specs.Ends.{AreAtEnd, AtEnd, IsSeen, has_broken}
use Rattle.edi_dump.specs.Frames.{Program}
use Rattle.edi_dump.specs.Text.{dump_text}
use Rattle.edi_dump.specs.Told.{Tells, TellsOr}
use Rattle.edi_timed.specs.Ran.{stints_of_code}
use Rattle.edi_timed.specs.on.Laws.{EndWith}
use Rattle.edi_timed.specs.on.Timelines.{IsOf}
use Rattle.edi_timed.proofs.Rounds.{meant_is}
use Rattle.edi_timed.proofs.on.Last.{stints_of_code_end}
use Rattle.edi_dumped.specs.Dumps.{IsDumpOf, TellsEnd}
use Rattle.edi_dumped.specs.Given.{IsKnown, program_given}
use Rattle.edi_dumped.proofs.Programs.{run_by_given}
use Rattle.edi_dumped.proofs.Last.{LastBy, last_by}

-- ---- the end of a run, from the state with no file open

module _ (parts : CodeParts) (known : Option Program) (system : State) (bound : ℕ) (choices : Choices) (n : ℕ) (end : outcome.Ending) (m : Machine) (drawn : ℕ)
    (ends : run_from_start (fetch parts.words) parts.entry parts.calls (fresh system) bound choices n ≡ finished end m drawn) where
  -- the text of these processes, where the last stint is that of p
  pub tells_end : (p : Name) → LastBy p (stints_of_code parts (fresh system) bound choices 0 n) → (seen : Machine) → IsSeen parts.words end m seen p
      → (xs : List AtEnd) → AreAtEnd seen (has_broken end p) xs → TellsEnd parts known system bound choices (dump_text known parts.words seen.memory end xs)
  tells_end p l seen is xs are = record {
    earlier = l.earlier;
    last = l.last;
    run = record { steps = n; ending = end; machine = m; drawn = drawn; ends = ends; are = sym l.last_is };
    seen = seen;
    is_seen = subst (IsSeen parts.words end m seen) (sym l.process) is;
    processes = xs;
    are = subst (λ q. AreAtEnd seen (has_broken end q) xs) (sym l.process) are;
    text_is = refl;
  }

  -- a run that has ended has a last stint
  pub last_stint : (p : Name) × LastBy p (stints_of_code parts (fresh system) bound choices 0 n)
  last_stint =
      let e : EndWith end _ (stints_of_code parts (fresh system) bound choices 0 n) = stints_of_code_end parts (fresh system) bound choices n end m drawn ends in
      (e.one.process, record { earlier = e.first; last = e.one; last_is = e.are; process = refl })

module _ (parts : CodeParts) (known : Option Program) (system : State) (bound : ℕ) (choices : Choices) (n : ℕ) (m : Machine) (drawn : ℕ) (p : Name)
    (seen : Machine) (xs : List AtEnd) where
  abbrev Tells_by : outcome.Ending → Type 0
  Tells_by end =
      run_from_start (fetch parts.words) parts.entry parts.calls (fresh system) bound choices n ≡ finished end m drawn →
      RanLast parts (fresh system) bound choices 0 n end p → IsSeen parts.words end m seen p → AreAtEnd seen (has_broken end p) xs →
      TellsEnd parts known system bound choices (dump_text known parts.words seen.memory end xs)

  by_end : (end : outcome.Ending) → Tells_by end
  by_end outcome.standstill ends ran is are =
      let l = last_stint parts known system bound choices n outcome.standstill m drawn ends in
      tells_end parts known system bound choices n outcome.standstill m drawn ends l.0 l.1 seen is xs are
  by_end outcome.done ends ran is are =
      tells_end parts known system bound choices n outcome.done m drawn ends p (last_by parts (fresh system) bound choices n p ran) seen is xs are
  by_end (outcome.halted line) ends ran is are =
      tells_end parts known system bound choices n (outcome.halted line) m drawn ends p (last_by parts (fresh system) bound choices n p ran) seen is xs are
  by_end (outcome.failed cause line) ends ran is are =
      tells_end parts known system bound choices n (outcome.failed cause line) m drawn ends p (last_by parts (fresh system) bound choices n p ran) seen is xs are
  by_end outcome.turns ends ran is are =
      tells_end parts known system bound choices n outcome.turns m drawn ends p (last_by parts (fresh system) bound choices n p ran) seen is xs are
  by_end (outcome.bad at) ends ran is are =
      tells_end parts known system bound choices n (outcome.bad at) m drawn ends p (last_by parts (fresh system) bound choices n p ran) seen is xs are

-- ---- what the kernel's end is told by

unfailed_tells : (parts : CodeParts) (known : Option Program) (system : State) (bound : ℕ) (old : Drawn) (e : Ending) (told : List ℕ) → (e ≡ ending.Fault → ⊥)
    → TellsOr known parts system bound old e told → Tells known parts system bound old e told
unfailed_tells parts known system bound old ending.Fault told unfailed h = absurd (unfailed refl)
unfailed_tells parts known system bound old ending.Done told unfailed h = h
unfailed_tells parts known system bound old (ending.Halted line) told unfailed h = h
unfailed_tells parts known system bound old (ending.Failed cause line) told unfailed h = h
unfailed_tells parts known system bound old ending.Turns told unfailed h = h
unfailed_tells parts known system bound old ending.Standstill told unfailed h = h
unfailed_tells parts known system bound old (ending.Bad address) told unfailed h = h

from_kernel : (parts : CodeParts) (known : Option Program) (system : State) (bound : ℕ) (choices : Choices) (e : Ending) (told : List ℕ)
    → Tells known parts (fresh system) bound (record { source = choices; drawn = 0 }) e told → TellsEnd parts known system bound choices told
from_kernel parts known system bound choices e told t =
    let s = t.ends in
    let same : dump_text known parts.words s.seen.memory s.end t.processes ≡ told =
    ap (λ memory. dump_text known parts.words memory s.end t.processes) s.memory_is
    ∙ ap (λ end. dump_text known parts.words t.memory end t.processes) (sym (meant_is s.end e s.same)) ∙ sym t.text_is in
    subst (TellsEnd parts known system bound choices) same
    (by_end parts known system bound choices s.ends.0 s.machine s.drawn s.last s.seen t.processes s.end s.ends.1 s.ran_last s.is_seen s.are)

-- THE DUMP
pub is_dump : (given : Option (List ℕ)) (parts : CodeParts) (known : Option Program) → IsKnown given known → IsOf (program_given given parts) parts
    → (system : State) (bound : ℕ) (old : Drawn) → old.drawn ≡ 0 → (e : Ending) → (e ≡ ending.Fault → ⊥) → (told : List ℕ)
    → TellsOr known parts (fresh system) bound old e told → IsDumpOf (program_given given parts) system bound old.source told
is_dump given parts known k is system bound old none e unfailed told h = (
  parts,
  known,
  run_by_given given parts known k is,
  from_kernel parts known system bound old.source e told
      (subst (λ n. Tells known parts (fresh system) bound (record { source = old.source; drawn = n }) e told) none
      (unfailed_tells parts known (fresh system) bound old e told unfailed h)),
)
