-- The object that has failed is one that the call uses which failed.
use Rattle.std.proofs.Common.{◌≡◌, ◌≤◌, ℕ, ◌-◌, List, Option, Some, None, refl, sym, subst}
use Rattle.edi_told.specs.Told.{WhereTold}
use Rattle.edi_told.proofs.Told.{WhereTold-map, WhereTold-then}
use Rattle.edi_calls.specs.declared.ends.Outside.{Outside}
use Rattle.edi_calls.specs.Ends.{IsUsed}
use Rattle.edi_calls.specs.Names.{Name}
use Rattle.edi_calls.specs.State.{State}
use Rattle.edi_trace.specs.Drawn.{Drawn}
use Rattle.edi_target.specs.Check.{CodeParts}
use Rattle.edi_target.specs.Mach.{Machine}
use Rattle.edi_kernel.specs.declared.ends.Ending.{Ending}
use Rattle.edi_kernel.specs.declared.ends.Ending.TheVariants as ending
use Rattle.edi_kernel.specs.declared.ends.StintEnd.{StintEnd}
use Rattle.edi_kernel.specs.declared.ends.StintEnd.TheVariants as stint_end
use Rattle.edi_kernel.specs.declared.state.KernelState.{KernelState}
use Rattle.edi_kernel.specs.Kernel.{BreaksBy, BreaksOff, IsKernel, ended_by, used_in}
use Rattle.edi_kernel.specs.Runs.{FaultsBy, IsAt}
use Rattle.edi_waits.specs.declared.births.Names.{Names}
use Rattle.edi_waits.specs.Runs.{AsksFailed, Going}
use Rattle.edi_waits.proofs.Lists.{some_is}
use Rattle.edi_waits.proofs.Rounds.{breaks}

module _ (code : CodeParts) (bound : ℕ) (old : KernelState) (now : Drawn) (names : Names) (failed : Option Outside → Type 0) where
  abbrev pub GoingOn : Drawn → State → State → Type 0
  GoingOn first s x = Going code s bound first old x now names

  abbrev pub Asks : Option Ending → KernelState → Drawn → State → State → Type 0
  Asks result k next x y = (s : State) (first : Drawn) → first.source ≡ now.source → GoingOn first s x → AsksFailed code s bound first failed result k y next

  -- ---- one stint

  module _ (s : State) (first : Drawn) (k : KernelState) (x y : State) (source : first.source ≡ now.source) (kernel : IsKernel k) (small : k.used ≤ bound)
      (w : GoingOn first s x) where
    abbrev Breaks : (left : ℕ) → Type 0
    Breaks left = (h : BreaksOff code.words left y w.machine w.name w.others) × IsUsed h.fails.number failed

    by_fault : Breaks (bound - k.used) → FaultsBy failed code s bound first ending.Fault k.used y now
    by_fault h =
        let r = breaks code s bound first old k x y now names names w source kernel small (bound - k.used) refl h.0 in
        (r.0, r.1 failed h.1)

    by_ending : (e : Ending) (used left : ℕ) → left - used ≡ bound - k.used
        → BreaksBy failed code.words (stint_end.Over used e) left y w.machine w.name w.others → FaultsBy failed code s bound first e k.used y now
    by_ending ending.Fault used left turns g = by_fault (subst Breaks turns g)
    by_ending ending.Done used left turns g = tt
    by_ending (ending.Halted line) used left turns g = tt
    by_ending (ending.Failed cause line) used left turns g = tt
    by_ending ending.Turns used left turns g = tt
    by_ending ending.Standstill used left turns g = tt
    by_ending (ending.Bad at) used left turns g = tt

    by_end : (end : StintEnd) (e : Ending) (left : ℕ) → left - used_in end ≡ bound - k.used → ended_by end ≡ Some e
        → BreaksBy failed code.words end left y w.machine w.name w.others → FaultsBy failed code s bound first e k.used y now
    by_end (stint_end.Over used z) e left turns is g =
        subst (λ z. FaultsBy failed code s bound first z k.used y now) (some_is is) (by_ending z used left turns g)
    by_end (stint_end.Arrived used) e left turns is g = absurd (cc)
    by_end (stint_end.Forked used) e left turns is g = absurd (cc)
    by_end (stint_end.Exited used) e left turns is g = absurd (cc)

  -- ---- a round

  module _ (o n : Option State) where
    abbrev pub AnyBreak : StintEnd → (left : ℕ) → State → State → Type 0
    AnyBreak end left x y = (m : Machine) (p : Name) (others : List Name) → IsAt code old x left m p others → BreaksBy failed code.words end left y m p others

    pub asks_over : (k : KernelState) (end : StintEnd) (e : Ending) (left : ℕ) → IsKernel k → left ≡ bound - old.used → left - used_in end ≡ bound - k.used
        → k.used ≤ bound → ended_by end ≡ Some e → WhereTold o n (AnyBreak end left) → WhereTold o n (Asks (Some e) k now)
    asks_over k end e left kernel all turns small is h =
        WhereTold-map (AnyBreak end left) (Asks (Some e) k now) o n
        (λ x y breaks s first source w.
        by_end s first k x y source kernel small w end e left turns is
        (breaks w.machine w.name w.others (subst (λ n. IsAt code old x n w.machine w.name w.others) (sym all) w.at))) h

    -- a run that goes on, or that ends since nobody is ready
    pub asks_on : (result : Option Ending) (k : KernelState) (next : Drawn) (P : State → State → Type 0) → (result ≡ Some ending.Fault → ⊥)
        → WhereTold o n P → WhereTold o n (Asks result k next)
    asks_on result k next P none h = WhereTold-map P (Asks result k next) o n (λ x y p s first source w. by_result result none s first k y next) h
      where
        by_result : (r : Option Ending) → (r ≡ Some ending.Fault → ⊥) → (s : State) (first : Drawn) (k : KernelState) (y : State) (next : Drawn) →
            AsksFailed code s bound first failed r k y next
        by_result None none s first k y next = tt
        by_result (Some ending.Fault) none s first k y next = absurd (none refl)
        by_result (Some ending.Done) none s first k y next = tt
        by_result (Some (ending.Halted line)) none s first k y next = tt
        by_result (Some (ending.Failed cause line)) none s first k y next = tt
        by_result (Some ending.Turns) none s first k y next = tt
        by_result (Some ending.Standstill) none s first k y next = tt
        by_result (Some (ending.Bad at)) none s first k y next = tt

  -- ---- the whole run

  pub asked_then : (a b c : Option State) (first : Drawn) (k : KernelState) (next : Drawn) (e : Ending) → now.source ≡ first.source
      → WhereTold a b (GoingOn first) → WhereTold b c (Asks (Some e) k next)
      → WhereTold a c (λ s t. FaultsBy failed code s bound first e k.used t next)
  asked_then a b c first k next e source h g =
      WhereTold-then (GoingOn first) (Asks (Some e) k next) (λ s t. FaultsBy failed code s bound first e k.used t next) a b c
      (λ s x y w round. round s first (sym source) w) h g

pub nothing_asked : (code : CodeParts) (bound : ℕ) (first : Drawn) (failed : Option Outside → Type 0) (o : Option State) (used : ℕ) (next : Drawn)
    → WhereTold o o (λ s t. FaultsBy failed code s bound first ending.Turns used t next)
nothing_asked code bound first failed None used next = tt
nothing_asked code bound first failed (Some s) used next = tt
