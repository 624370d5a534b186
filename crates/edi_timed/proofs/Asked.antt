-- The object that has failed is one that the call uses which failed.
use Rattle.std.proofs.Common.{◌≡◌, ◌∙◌, ◌≤◌, ℕ, ◌-◌, Bool, true, false, ◌==◌, if◌then◌else◌, List, Option, Some, None, refl, sym, arith, subst}
use Rattle.edi_told.specs.Told.{WhereTold}
use Rattle.edi_told.proofs.Told.{WhereTold-map, WhereTold-then}
use Rattle.edi_calls.specs.declared.ends.Outside.{Outside}
use Rattle.edi_calls.specs.Ends.{IsUsed}
use Rattle.edi_calls.specs.Names.{Name}
use Rattle.edi_calls.specs.State.{State}
use Rattle.edi_trace.specs.Drawn.{Drawn}
use Rattle.edi_target.specs.Check.{CodeParts}
use Rattle.edi_target.specs.Mach.{Machine}
use Rattle.edi_kernel.specs.declared.ends.Ending.{Ending}
use Rattle.edi_kernel.specs.declared.ends.Ending.TheVariants as ending
use Rattle.edi_kernel.specs.declared.ends.StintEnd.{StintEnd}
use Rattle.edi_kernel.specs.declared.ends.StintEnd.TheVariants as stint_end
use Rattle.edi_kernel.specs.declared.state.KernelState.{KernelState}
use Rattle.edi_kernel.specs.Kernel.{BreaksBy, BreaksOff, ended_by, used_in}
use Rattle.edi_kernel.specs.Moments.{moment_at}
use Rattle.edi_kernel.specs.Runs.{FailsInBy, FaultsBy, IsAt}
use Rattle.edi_timeline.specs.Timelines.{Told}
use Rattle.edi_timed.specs.declared.seats.Seated.{Seated}
use Rattle.edi_timed.specs.Leaving.{ended_as}
use Rattle.edi_timed.specs.Underway.{AsksFailed, Going}
use Rattle.edi_timed.proofs.Along.{breaks_here}

same_ending : {e f : Ending} → Some e ≡ Some f → e ≡ f
same_ending h = cc

module _ (code : CodeParts) (bound : ℕ) (old : KernelState) (now : Drawn) (seats : List Seated) (told : Told) (failed : Option Outside → Type 0) where
  abbrev pub GoingOn : Drawn → State → State → Type 0
  GoingOn first s x = Going code s bound first old x now seats told

  abbrev pub Asks : Option Ending → KernelState → Drawn → State → State → Type 0
  Asks result k next x y = (s : State) (first : Drawn) → first.source ≡ now.source → GoingOn first s x → AsksFailed code s bound first failed result k y next

  -- ---- one stint

  module _ (s : State) (first : Drawn) (k : KernelState) (x y : State) (small : k.used ≤ bound) (w : GoingOn first s x) where
    breaks_by : (h : BreaksOff code.words (bound - k.used) y w.machine w.name w.others) → IsUsed h.fails.number failed
        → FailsInBy failed code s bound first k.used y now
    breaks_by h uses =
        let r = breaks_here code first.source bound s first.drawn h.steps w.machine w.name w.others now.drawn w.begun w.stints h.machine w.underway h.is in (
          record {
            steps = r.0;
            at = moment_at h.machine w.name w.others now.drawn;
            is = r.1;
            fails = h.fails;
            drawn = refl;
            turns = omega (arith, h.turns, small);
          },
          uses,
        )

    abbrev Breaks : (left : ℕ) → Type 0
    Breaks left = (h : BreaksOff code.words left y w.machine w.name w.others) × IsUsed h.fails.number failed

    by_ending : (e : Ending) (used left : ℕ) → left - used ≡ bound - k.used
        → BreaksBy failed code.words (stint_end.Over used e) left y w.machine w.name w.others → FaultsBy failed code s bound first e k.used y now
    by_ending ending.Fault used left turns g = let h : Breaks (bound - k.used) = subst Breaks turns g in breaks_by h.0 h.1
    by_ending ending.Done used left turns g = tt
    by_ending (ending.Halted line) used left turns g = tt
    by_ending (ending.Failed cause line) used left turns g = tt
    by_ending ending.Turns used left turns g = tt
    by_ending ending.Standstill used left turns g = tt
    by_ending (ending.Bad at) used left turns g = tt

    -- a stint that has given way ends the run by a standstill alone
    given_way : (b : Bool) (end : StintEnd) (used : ℕ) (e : Ending) → ended_by end ≡ None
        → ended_by (if b then stint_end.Over used ending.Standstill else end) ≡ Some e → FaultsBy failed code s bound first e k.used y now
    given_way true end used e none is = subst (λ z. FaultsBy failed code s bound first z k.used y now) (same_ending is) tt
    given_way false end used e none is = let wrong : None ≡ Some e = sym none ∙ is in absurd (cc)

    by_end : (ready : ℕ) (end : StintEnd) (e : Ending) (left : ℕ) → left - used_in end ≡ bound - k.used → ended_by (ended_as ready end) ≡ Some e
        → BreaksBy failed code.words end left y w.machine w.name w.others → FaultsBy failed code s bound first e k.used y now
    by_end ready (stint_end.Over used z) e left turns is g =
        subst (λ z. FaultsBy failed code s bound first z k.used y now) (same_ending is) (by_ending z used left turns g)
    by_end ready (stint_end.Arrived used) e left turns is g = given_way (ready == 0) (stint_end.Arrived used) used e refl is
    by_end ready (stint_end.Forked used) e left turns is g = given_way (ready == 0) (stint_end.Forked used) used e refl is
    by_end ready (stint_end.Exited used) e left turns is g = given_way (ready == 0) (stint_end.Exited used) used e refl is

  -- ---- a round

  module _ (o n : Option State) where
    abbrev pub AnyBreak : StintEnd → (left : ℕ) → State → State → Type 0
    AnyBreak end left x y = (m : Machine) (p : Name) (others : List Name) → IsAt code old x left m p others → BreaksBy failed code.words end left y m p others

    pub asks_over : (k : KernelState) (ready : ℕ) (end : StintEnd) (e : Ending) (left : ℕ) → left ≡ bound - old.used → left - used_in end ≡ bound - k.used
        → k.used ≤ bound → ended_by (ended_as ready end) ≡ Some e → WhereTold o n (AnyBreak end left) → WhereTold o n (Asks (Some e) k now)
    asks_over k ready end e left all turns small is h =
        WhereTold-map (AnyBreak end left) (Asks (Some e) k now) o n
        (λ x y breaks s first source w.
        by_end s first k x y small w ready end e left turns is
        (breaks w.machine w.name w.others (subst (λ n. IsAt code old x n w.machine w.name w.others) (sym all) w.at))) h

    pub asks_on : (k : KernelState) (next : Drawn) (P : State → State → Type 0) → WhereTold o n P → WhereTold o n (Asks None k next)
    asks_on k next P h = WhereTold-map P (Asks None k next) o n (λ x y p s first source w. tt) h

  -- ---- the whole run

  pub asked_then : (a b c : Option State) (first : Drawn) (k : KernelState) (next : Drawn) (e : Ending) → now.source ≡ first.source
      → WhereTold a b (GoingOn first) → WhereTold b c (Asks (Some e) k next)
      → WhereTold a c (λ s t. FaultsBy failed code s bound first e k.used t next)
  asked_then a b c first k next e source h g =
      WhereTold-then (GoingOn first) (Asks (Some e) k next) (λ s t. FaultsBy failed code s bound first e k.used t next) a b c
      (λ s x y w round. round s first (sym source) w) h g

pub nothing_asked : (code : CodeParts) (bound : ℕ) (first : Drawn) (failed : Option Outside → Type 0) (o : Option State) (used : ℕ) (next : Drawn)
    → WhereTold o o (λ s t. FaultsBy failed code s bound first ending.Turns used t next)
nothing_asked code bound first failed None used next = tt
nothing_asked code bound first failed (Some s) used next = tt
