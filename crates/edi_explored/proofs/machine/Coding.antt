-- The code of a unit that can be coded, as the laws of a search speak of it; and what a run of it reaches.
use Rattle.std.proofs.Common.{◌∙◌, ◌≡◌, ℕ, List, length, Some, None, sym, ap, subst, arith}
use Rattle.edi_calls.specs.Choice.{listed}
use Rattle.edi_calls.specs.Outcome as outcome
use Rattle.edi_calls.specs.Outcome.{Outcome, outcome_of}
use Rattle.edi_calls.specs.State.{State}
use Rattle.edi_calls.proofs.Names.{some_is}
use Rattle.edi_unit.specs.Tree.{ProgramUnit}
use Rattle.edi_meaning.specs.Select.{Select}
use Rattle.edi_target.specs.Reading.{AreWords}
use Rattle.edi_target.specs.Fetch.{fetch}
use Rattle.edi_target.specs.Mach.{Mach}
use Rattle.edi_target.proofs.Stands.{code_stands_below}
use Rattle.edi_target.proofs.segments.Reaching.{allowed_at}
use Rattle.edi_scheme.specs.Code.{code_of}
use Rattle.edi_scheme.proofs.Blocks.{code_stands, code_is_long}
use Rattle.edi_scheme.proofs.WordedBlocks.{code_is_words}
use Rattle.edi_follows.specs.places.Coded.{Coded}
use Rattle.edi_follows.specs.Theorem.{CanBeCoded}
use Rattle.edi_follows.proofs.Whole.{same_outcomes}
use Rattle.edi_target.specs.Check.{CodeParts}
use Rattle.edi_trace.specs.Drawn.{Drawn}
use Rattle.edi_kernel.specs.declared.ends.Ending.{Ending}
use Rattle.edi_kernel.specs.declared.ends.Ending.TheVariants as ending
use Rattle.edi_kernel.specs.Kernel.{EndsAs}
use Rattle.edi_kernel.specs.Runs.{RunsAs, RunsTo}
use Rattle.edi_kernel.proofs.Endings.{ends_as}
use Rattle.edi_kernel.proofs.Machines.{runs_are_the_machines}
use Rattle.edi_explored.specs.Reached.{IsReached, IsShown}
use Rattle.edi_explored.specs.machine.Kernels.{IsUnitCode, ReachesAs, ending_of}
use Rattle.edi_follows.proofs.Coding.{entry_up, fetched_long}

-- ---- the code

abbrev pub coded : (unit : ProgramUnit) → CanBeCoded unit → Coded
coded unit c =
    let words : AreWords (code_of unit) = code_is_words unit c.fits c.parts c.lines (omega (arith, c.short)) in
    record {
      unit = unit;
      fetched = fetch (code_of unit);
      fits = c.fits;
      parts = c.parts;
      stands = code_stands unit c.fits c.parts;
      rises = λ at found e. (code_stands_below (code_of unit) at found e).1;
      long = λ at found e. fetched_long (code_of unit) words at found e;
      allows = λ first last at. allowed_at (code_of unit) words first last at;
      low = λ n h. omega (arith, c.short, code_is_long unit, entry_up unit.types unit.blocks n (length unit.blocks) (omega (arith, h)));
    }

-- ---- what a run reaches

pub meant : (unit : ProgramUnit) → CanBeCoded unit → (system : State) (bound : ℕ) (choices : List ℕ) (o : Outcome) →
    Mach (fetch (code_of unit)) 0 unit.calls system bound (listed choices) o → Select unit system bound (listed choices) o
meant unit c system bound choices o m = (same_outcomes unit c system bound (listed choices) o).1 m

module _ (unit : ProgramUnit) (system : State) (bound : ℕ) (choices : List ℕ) (o : Outcome) (s : Select unit system bound (listed choices) o)
    (uncut : o.ending ≡ outcome.turns → ⊥) where
  pub reached : IsReached unit system choices o.ending
  reached = record {
    bound = bound;
    end = s.1;
    turns = s.2;
    drawn = s.3;
    order = s.4;
    ends = subst (λ (x : Outcome). Rattle.edi_meaning.specs.Select.Ends unit system bound (listed choices) x.ending s.1 s.2 s.3 s.4) (sym s.6) s.5;
    uncut = uncut;
  }

  pub shown : IsShown unit system choices o.ending o.shown
  shown = record {
    bound = bound;
    end = s.1;
    turns = s.2;
    drawn = s.3;
    order = s.4;
    ends = subst (λ (x : Outcome). Rattle.edi_meaning.specs.Select.Ends unit system bound (listed choices) x.ending s.1 s.2 s.3 s.4) (sym s.6) s.5;
    uncut = uncut;
    text = sym (ap (λ (x : Outcome). x.shown) s.6);
  }

pub run_reached : (unit : ProgramUnit) → CanBeCoded unit → (system : State) (bound : ℕ) (choices : List ℕ) (o : Outcome) →
    Mach (fetch (code_of unit)) 0 unit.calls system bound (listed choices) o → (o.ending ≡ outcome.turns → ⊥) → IsReached unit system choices o.ending
run_reached unit c system bound choices o m uncut = reached unit system bound choices o (meant unit c system bound choices o m) uncut

pub run_shown : (unit : ProgramUnit) → CanBeCoded unit → (system : State) (bound : ℕ) (choices : List ℕ) (o : Outcome) →
    Mach (fetch (code_of unit)) 0 unit.calls system bound (listed choices) o → (o.ending ≡ outcome.turns → ⊥) → IsShown unit system choices o.ending o.shown
run_shown unit c system bound choices o m uncut = shown unit system bound choices o (meant unit c system bound choices o m) uncut

-- ---- what a run of the kernel reaches

pub as_ending : (a : outcome.Ending) (e : Ending) → EndsAs a e → ending_of e ≡ Some a
as_ending = ends_as

module _ (unit : ProgramUnit) (c : CanBeCoded unit) (code : CodeParts) (is : IsUnitCode unit code) (system : State) (bound : ℕ) (choices : List ℕ)
    (old new : Drawn) (none : old.drawn ≡ 0) (source : old.source ≡ listed choices) where
  pub machine : (o : Outcome) → Mach (fetch code.words) code.entry code.calls system bound old.source o →
      Mach (fetch (code_of unit)) 0 unit.calls system bound (listed choices) o
  machine o m = subst (λ x. x) (λ i. Mach (fetch (is.words i)) (is.entry i) (is.calls i) system bound (source i) o) m

  runs_as : (e : Ending) (words : List ℕ) (used : ℕ) (now : State) → RunsAs code system bound old e words used now new →
      ReachesAs unit system choices e now.shown
  runs_as e words used now r end same uncut =
      let m : Mach (fetch (code_of unit)) 0 unit.calls system bound (listed choices) (outcome_of now r.end used new.drawn) =
      machine (outcome_of now r.end used new.drawn) (runs_are_the_machines code system bound old new e words used now none r) in
      let one : r.end ≡ end = some_is (sym (as_ending r.end e r.same) ∙ same) in
      subst (λ x. IsReached unit system choices x × IsShown unit system choices x now.shown) one (
        run_reached unit c system bound choices (outcome_of now r.end used new.drawn) m (λ t. uncut (sym one ∙ t)),
        run_shown unit c system bound choices (outcome_of now r.end used new.drawn) m (λ t. uncut (sym one ∙ t)),
      )

  pub runs_to : (e : Ending) (words : List ℕ) (used : ℕ) (now : State) → RunsTo code system bound old e words used now new →
      ReachesAs unit system choices e now.shown
  runs_to ending.Fault words used now r = λ end same uncut. absurd (none_some end same)
    where
      none_some : (end : outcome.Ending) → None ≡ Some end → ⊥
      none_some end same = absurd (cc)
  runs_to ending.Done words used now r = runs_as ending.Done words used now r
  runs_to (ending.Halted line) words used now r = runs_as (ending.Halted line) words used now r
  runs_to (ending.Failed cause line) words used now r = runs_as (ending.Failed cause line) words used now r
  runs_to ending.Turns words used now r = runs_as ending.Turns words used now r
  runs_to ending.Standstill words used now r = runs_as ending.Standstill words used now r
  runs_to (ending.Bad at) words used now r = runs_as (ending.Bad at) words used now r
