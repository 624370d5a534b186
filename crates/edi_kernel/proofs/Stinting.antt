-- A stint alone, where the turn of the program's entry may still be due.
use Rattle.std.proofs.Common.{◌≡◌, ℕ, suc, ◌+◌, ◌-◌, ◌<◌, ◌≤◌, Bool, true, false, if◌then◌else◌, List, [], ◌∷◌, ◌++◌, Option, Some, None, sym, ◌∙◌, ap, arith, subst}
use Rattle.edi_told.specs.Told.{WhereTold}
use Rattle.edi_told.proofs.Told.{WhereTold-map}
use Rattle.edi_calls.specs.declared.ends.Outside.{Outside}
use Rattle.edi_calls.specs.Names.{Name}
use Rattle.edi_calls.specs.Outcome as outcome
use Rattle.edi_calls.specs.Ready.{stays}
use Rattle.edi_calls.specs.State.{State}
use Rattle.edi_target.specs.Check.{CodeParts}
use Rattle.edi_target.specs.Fetch.{fetch}
use Rattle.edi_target.specs.Mach.{Machine, went, ended, entered}
use Rattle.edi_kernel.specs.declared.ends.Ending.{Ending}
use Rattle.edi_kernel.specs.declared.ends.Ending.TheVariants as ending
use Rattle.edi_kernel.specs.declared.ends.StintEnd.{StintEnd}
use Rattle.edi_kernel.specs.declared.ends.StintEnd.TheVariants as stint_end
use Rattle.edi_kernel.specs.declared.state.KernelState.{KernelState}
use Rattle.edi_kernel.specs.Kernel.{Holds, KeepsWords, Switches, EndsRun, BreaksOff, BreaksBy, StandsArrived, GoesTo, later_by}
use Rattle.edi_kernel.specs.Runs.{IsAtBy, IsAt}
use Rattle.edi_kernel.specs.TableIsMachine.{Naming}
use Rattle.edi_kernel.specs.declared.table.Table.{Table}
use Rattle.edi_kernel.specs.Table.{is_live}
use Rattle.edi_kernel.specs.Named.{BreaksRun, BreaksRunBy, HoldsBy, NamesGrow, SlotsStay, EndsBy, GoesBy}
use Rattle.edi_kernel.proofs.Starting.{Enters, NeverEnters, enters, never_enters}
use Rattle.edi_kernel.proofs.Rounds.{AnyBreak, AnyBroken, AnyStint, broken_naming, broken_same, holds_same, same_naming}
use Rattle.edi_kernel.proofs.Named.{AnyNamed}

-- so many turns before the stint, and what is kept beside the processes and the memory is free
module _ (words : List ℕ) (k new : KernelState) (left n : ℕ) (store : new.store ≡ k.store) (table : new.table ≡ k.table) (taken : new.taken ≡ k.taken)
    (arrived : new.arrived ≡ k.arrived) (failed : new.failed ≡ k.failed) where
  less : (used : ℕ) → left - n - used ≡ left - (used + n)
  less used = omega arith

  switches : (used : ℕ) (t : State) (m : Machine) (p : Name) (others : List Name) → Switches words (left - n - used) k t m p others
      → Switches words (left - (used + n)) new t m p others
  switches used t m p others h = record {
    steps = h.steps;
    machine = h.machine;
    joined = h.joined;
    is = h.is;
    holds = holds_same k new h.machine None (others ++ h.joined) store table taken h.holds;
    system = h.system;
    turns = h.turns ∙ less used;
  }

  ends : (used : ℕ) (e : Ending) (t : State) (m : Machine) (p : Name) (others : List Name) → EndsRun words (left - n - used) e k t m p others
      → EndsRun words (left - (used + n)) e new t m p others
  ends used e t m p others h = record {
    steps = h.steps;
    machine = h.machine;
    end = h.end;
    is = h.is;
    same = h.same;
    memory = subst (λ ws. KeepsWords e h.machine.memory ws) (sym store) h.memory;
    system = h.system;
    turns = h.turns ∙ less used;
  }

  breaks_off : (used : ℕ) (t : State) (m : Machine) (p : Name) (others : List Name) → BreaksOff words (left - n - used) t m p others
      → BreaksOff words (left - (used + n)) t m p others
  breaks_off used t m p others h =
      record { steps = h.steps; machine = h.machine; is = h.is; fails = h.fails; turns = h.turns ∙ less used }

  arrives : (m : Machine) (p : Name) → StandsArrived k m p → StandsArrived new m p
  arrives m p h = record { activity = h.activity; forks = h.forks; arrival = arrived ∙ h.arrival; found = h.found }

  pub goes_later : (end : StintEnd) (t : State) (m : Machine) (p : Name) (others : List Name) → GoesTo words end (left - n) k t m p others
      → GoesTo words (later_by n end) left new t m p others
  unfolding switches ends
  goes_later (stint_end.Arrived used) t m p others h = (switches used t m p others h.0, arrives h.0.machine p h.1)
  goes_later (stint_end.Forked used) t m p others h = (switches used t m p others h.0, h.1)
  goes_later (stint_end.Exited used) t m p others h = (switches used t m p others h.0, h.1)
  goes_later (stint_end.Over used ending.Done) t m p others h = ends used ending.Done t m p others h
  goes_later (stint_end.Over used (ending.Halted line)) t m p others h = ends used (ending.Halted line) t m p others h
  goes_later (stint_end.Over used (ending.Failed cause line)) t m p others h = ends used (ending.Failed cause line) t m p others h
  goes_later (stint_end.Over used ending.Turns) t m p others h = ends used ending.Turns t m p others h
  goes_later (stint_end.Over used ending.Standstill) t m p others h = (
    ends used ending.Standstill t m p others h.0,
    arrives h.0.machine p h.1,
    h.2 ∙ sym store,
    holds_same k new h.0.machine None (others ++ p ∷ []) store table taken h.3,
  )
  goes_later (stint_end.Over used (ending.Bad at)) t m p others h = ends used (ending.Bad at) t m p others h
  goes_later (stint_end.Over used ending.Fault) t m p others h = breaks_off used t m p others h

  pub breaks_later : (failed : Option Outside → Type 0) (end : StintEnd) (t : State) (m : Machine) (p : Name) (others : List Name)
      → BreaksBy failed words end (left - n) t m p others → BreaksBy failed words (later_by n end) left t m p others
  unfolding breaks_off
  breaks_later failed (stint_end.Over used ending.Fault) t m p others h = (breaks_off used t m p others h.0, h.1)
  breaks_later failed (stint_end.Over used ending.Done) t m p others h = tt
  breaks_later failed (stint_end.Over used (ending.Halted line)) t m p others h = tt
  breaks_later failed (stint_end.Over used (ending.Failed cause line)) t m p others h = tt
  breaks_later failed (stint_end.Over used ending.Turns) t m p others h = tt
  breaks_later failed (stint_end.Over used ending.Standstill) t m p others h = tt
  breaks_later failed (stint_end.Over used (ending.Bad at)) t m p others h = tt
  breaks_later failed (stint_end.Arrived used) t m p others h = tt
  breaks_later failed (stint_end.Forked used) t m p others h = tt
  breaks_later failed (stint_end.Exited used) t m p others h = tt

  switches_named : (used : ℕ) (t : State) (m : Machine) (p : Name) (others : List Name) (h : Switches words (left - n - used) k t m p others) →
      (switches used t m p others h).holds.naming ≡ h.holds.naming
  unfolding switches
  switches_named used t m p others h = same_naming k new h.machine None (others ++ h.joined) store table taken h.holds

  slots_same : (old mid : Table) → mid ≡ old → SlotsStay mid k.table → SlotsStay old new.table
  slots_same old mid e h = λ i l. ap (λ t. is_live t i) (sym e) ∙ h i (ap (λ t. is_live t i) (sym table) ∙ l)

  ends_same : (m : Machine) (p : Name) (others : List Name) (machine : Machine) (joined : List Name) → EndsBy words k.failed m p others machine joined
      → EndsBy words new.failed m p others machine joined
  ends_same m p others machine joined h = subst (λ f. EndsBy words f m p others machine joined) (sym failed) h

  -- by the same names, where these have grown from one table or from an equal one
  pub goes_by_later : (old mid : KernelState) → mid.table ≡ old.table → mid.taken ≡ old.taken → (end : StintEnd) (t : State) (m : Machine) (p : Name)
      (others : List Name) (names : Naming) → GoesBy words end (left - n) mid names k t m p others → GoesBy words (later_by n end) left old names new t m p others
  unfolding goes_later switches
  goes_by_later old mid e f (stint_end.Arrived used) t m p others names h = (
    goes_later (stint_end.Arrived used) t m p others h.0,
    switches_named used t m p others h.0.0 ∙ h.1,
    slots_same old.table mid.table e h.2,
    ends_same m p others h.0.0.machine h.0.0.joined h.3,
  )
  goes_by_later old mid e f (stint_end.Exited used) t m p others names h = (
    goes_later (stint_end.Exited used) t m p others h.0,
    switches_named used t m p others h.0.0 ∙ h.1,
    slots_same old.table mid.table e h.2,
    ends_same m p others h.0.0.machine h.0.0.joined h.3,
  )
  goes_by_later old mid e f (stint_end.Forked used) t m p others names h = (
    goes_later (stint_end.Forked used) t m p others h.0,
    subst (NamesGrow h.0.1.fork h.0.1.number old.taken old.table new.table names) (sym (switches_named used t m p others h.0.0))
        (subst (λ x. NamesGrow h.0.1.fork h.0.1.number old.taken old.table x names h.0.0.holds.naming) (sym table)
        (subst (λ x. NamesGrow h.0.1.fork h.0.1.number old.taken x k.table names h.0.0.holds.naming) e
        (subst (λ x. NamesGrow h.0.1.fork h.0.1.number x mid.table k.table names h.0.0.holds.naming) f h.1))),
    ends_same m p others h.0.0.machine h.0.0.joined h.2,
  )
  goes_by_later old mid e f (stint_end.Over used ending.Standstill) t m p others names h = (
    goes_later (stint_end.Over used ending.Standstill) t m p others h.0,
    same_naming k new h.0.0.machine None (others ++ p ∷ []) store table taken h.0.3 ∙ h.1,
    slots_same old.table mid.table e h.2,
  )
  goes_by_later old mid e f (stint_end.Over used ending.Done) t m p others names h = goes_later (stint_end.Over used ending.Done) t m p others h
  goes_by_later old mid e f (stint_end.Over used (ending.Halted line)) t m p others names h =
      goes_later (stint_end.Over used (ending.Halted line)) t m p others h
  goes_by_later old mid e f (stint_end.Over used (ending.Failed cause line)) t m p others names h =
      goes_later (stint_end.Over used (ending.Failed cause line)) t m p others h
  goes_by_later old mid e f (stint_end.Over used ending.Turns) t m p others names h = goes_later (stint_end.Over used ending.Turns) t m p others h
  goes_by_later old mid e f (stint_end.Over used (ending.Bad at)) t m p others names h = goes_later (stint_end.Over used (ending.Bad at)) t m p others h
  goes_by_later old mid e f (stint_end.Over used ending.Fault) t m p others names h = goes_later (stint_end.Over used ending.Fault) t m p others h

  -- the run has ended by an instruction of p
  broken_later : (used : ℕ) (e : Ending) (old mid : KernelState) → mid.table ≡ old.table → (names : Naming) (t : State) (m : Machine) (p : Name)
      (others : List Name) → BreaksRun words (left - n - used) e mid names k t m p others → BreaksRun words (left - (used + n)) e old names new t m p others
  unfolding ends
  broken_later used e old mid same names t m p others h = record {
    ends = ends used e t m p others h.ends;
    broken = broken_same words e k new h.ends.machine p others store table taken h.broken;
    by = broken_naming words e k new h.ends.machine p others store table taken h.broken ∙ h.by;
    slots = slots_same old.table mid.table same h.slots;
  }

  pub breaks_run_later : (old mid : KernelState) → mid.table ≡ old.table → (end : StintEnd) (t : State) (m : Machine) (p : Name) (others : List Name)
      (names : Naming) → BreaksRunBy words end (left - n) mid names k t m p others → BreaksRunBy words (later_by n end) left old names new t m p others
  breaks_run_later old mid same (stint_end.Over used ending.Done) t m p others names h = broken_later used ending.Done old mid same names t m p others h
  breaks_run_later old mid same (stint_end.Over used (ending.Halted line)) t m p others names h =
      broken_later used (ending.Halted line) old mid same names t m p others h
  breaks_run_later old mid same (stint_end.Over used (ending.Failed cause line)) t m p others names h =
      broken_later used (ending.Failed cause line) old mid same names t m p others h
  breaks_run_later old mid same (stint_end.Over used ending.Turns) t m p others names h = broken_later used ending.Turns old mid same names t m p others h
  breaks_run_later old mid same (stint_end.Over used (ending.Bad at)) t m p others names h =
      broken_later used (ending.Bad at) old mid same names t m p others h
  breaks_run_later old mid same (stint_end.Over used ending.Standstill) t m p others names h = tt
  breaks_run_later old mid same (stint_end.Over used ending.Fault) t m p others names h = tt
  breaks_run_later old mid same (stint_end.Arrived used) t m p others names h = tt
  breaks_run_later old mid same (stint_end.Forked used) t m p others names h = tt
  breaks_run_later old mid same (stint_end.Exited used) t m p others names h = tt

-- the machine behind the entry's turn
module _ (code : CodeParts) (k mid : KernelState) (left n : ℕ) (store : mid.store ≡ k.store) (table : mid.table ≡ k.table) (taken : mid.taken ≡ k.taken) where
  -- what the kernel is when the process goes on
  pub record Ready (s : State) (m : Machine) (p : Name) (others : List Name) : Type 0 where
    pub holds : Holds mid m (Some p) others
    pub system : m.system ≡ s
    pub turns : m.turns ≡ left - n

  pub ready_by : (b : Bool) → n ≡ (if b then 1 else 0) → n ≤ left → (s : State) (m : Machine) (p : Name) (others : List Name)
      → IsAtBy b code k s left m p others → Ready s m p others
  ready_by false e le s m p others h = record { holds = holds_same k mid m (Some p) others store table taken h.0; system = h.1; turns = h.2 ∙ omega (arith, e) }
  ready_by true e le s m p others h =
      let x : Enters code k s (left - 1) = enters code k h.0 s (left - 1) in
      let l : suc (left - 1) ≡ left = omega (arith, e, le) in
      let same : x.machine ≡ m = went_same (sym x.is ∙ ap (λ i. entered (fetch code.words code.entry) code.entry code.calls i s) l ∙ h.1) in
      let held : Holds mid x.machine (Some []) [] = holds_same k mid x.machine (Some []) [] store table taken x.holds in
      record {
        holds = subst (λ y. Holds mid y (Some p) others) same
            (subst (λ q. Holds mid x.machine (Some q) others) (sym h.2) (subst (λ qs. Holds mid x.machine (Some []) qs) (sym h.3) held));
        system = sym (ap (λ y. y.system) same) ∙ x.system_is;
        turns = sym (ap (λ y. y.turns) same) ∙ x.turns ∙ omega (arith, e);
      }
    where
      went_same : {a b : Machine} → went a stays ≡ went b stays → a ≡ b
      went_same e = cc

module _ (code : CodeParts) (k mid after new : KernelState) (left n : ℕ) (end : StintEnd) (store : mid.store ≡ k.store) (table : mid.table ≡ k.table)
    (taken : mid.taken ≡ k.taken)
    (store' : new.store ≡ after.store) (table' : new.table ≡ after.table) (taken' : new.taken ≡ after.taken) (arrived' : new.arrived ≡ after.arrived) (failed' : new.failed ≡ after.failed)
    (before later : Option State) (result : StintEnd) (is : result ≡ later_by n end) where
  abbrev AnyFrom : State → State → Type 0
  AnyFrom s t = (m : Machine) (p : Name) (others : List Name) → IsAt code k s left m p others → GoesTo code.words result left new t m p others

  pub told_stint : n ≡ (if k.entering then 1 else 0) → n ≤ left → WhereTold before later (AnyStint code.words end (left - n) mid after)
      → WhereTold before later AnyFrom
  told_stint e le h = WhereTold-map (AnyStint code.words end (left - n) mid after) AnyFrom before later
      (λ s t f m p others at. by_end s t m p others f (ready_by code k mid left n store table taken k.entering e le s m p others at)) h
    where
      by_end : (s t : State) (m : Machine) (p : Name) (others : List Name) → AnyStint code.words end (left - n) mid after s t → Ready code k mid left n store
          table taken s m p others → GoesTo code.words result left new t m p others
      by_end s t m p others f r =
          subst (λ x. GoesTo code.words x left new t m p others) (sym is)
          (goes_later code.words after new left n store' table' taken' arrived' failed' end t m p others (f m p others r.holds r.system r.turns))

  abbrev BreakFrom : (failed : Option Outside → Type 0) → State → State → Type 0
  BreakFrom failed s t = (m : Machine) (p : Name) (others : List Name) → IsAt code k s left m p others → BreaksBy failed code.words result left t m p others

  pub told_breaks : (failed : Option Outside → Type 0) → n ≡ (if k.entering then 1 else 0) → n ≤ left
      → WhereTold before later (AnyBreak failed code.words end (left - n) mid) → WhereTold before later (BreakFrom failed)
  told_breaks failed e le h = WhereTold-map (AnyBreak failed code.words end (left - n) mid) (BreakFrom failed) before later
      (λ s t f m p others at. by_end s t m p others f (ready_by code k mid left n store table taken k.entering e le s m p others at)) h
    where
      by_end : (s t : State) (m : Machine) (p : Name) (others : List Name) → AnyBreak failed code.words end (left - n) mid s t
          → Ready code k mid left n store table taken s m p others → BreaksBy failed code.words result left t m p others
      by_end s t m p others f r =
          subst (λ x. BreaksBy failed code.words x left t m p others) (sym is)
          (breaks_later code.words after new left n store' table' taken' arrived' failed' failed end t m p others
          (f m p others r.holds r.system r.turns))

  held : (m : Machine) (p : Name) (others : List Name) (names : Naming) → HoldsBy names k m (Some p) others → HoldsBy names mid m (Some p) others
  held m p others names h = record {
    holds = holds_same k mid m (Some p) others store table taken h.holds;
    by = same_naming k mid m (Some p) others store table taken h.holds ∙ h.by;
  }

  abbrev NamedFrom : State → State → Type 0
  NamedFrom s t =
      (m : Machine) (p : Name) (others : List Name) (names : Naming) → IsAt code k s left m p others → HoldsBy names k m (Some p) others →
      GoesBy code.words result left k names new t m p others

  pub told_names : n ≡ (if k.entering then 1 else 0) → n ≤ left → WhereTold before later (AnyNamed code.words end (left - n) mid after)
      → WhereTold before later NamedFrom
  told_names e le h = WhereTold-map (AnyNamed code.words end (left - n) mid after) NamedFrom before later
      (λ s t f m p others names at by. by_end s t m p others names f by (ready_by code k mid left n store table taken k.entering e le s m p others at)) h
    where
      by_end : (s t : State) (m : Machine) (p : Name) (others : List Name) (names : Naming) → AnyNamed code.words end (left - n) mid after s t
          → HoldsBy names k m (Some p) others → Ready code k mid left n store table taken s m p others
          → GoesBy code.words result left k names new t m p others
      by_end s t m p others names f by r =
          subst (λ x. GoesBy code.words x left k names new t m p others) (sym is)
          (goes_by_later code.words after new left n store' table' taken' arrived' failed' k mid table taken end t m p others names
          (f m p others names (held m p others names by) r.system r.turns))

  abbrev EndsFrom : State → State → Type 0
  EndsFrom s t =
      (m : Machine) (p : Name) (others : List Name) (names : Naming) → IsAt code k s left m p others → HoldsBy names k m (Some p) others →
      BreaksRunBy code.words result left k names new t m p others

  pub told_broken : n ≡ (if k.entering then 1 else 0) → n ≤ left → WhereTold before later (AnyBroken code.words end (left - n) mid after)
      → WhereTold before later EndsFrom
  told_broken e le h = WhereTold-map (AnyBroken code.words end (left - n) mid after) EndsFrom before later
      (λ s t f m p others names at by. by_end s t m p others names f by (ready_by code k mid left n store table taken k.entering e le s m p others at)) h
    where
      by_end : (s t : State) (m : Machine) (p : Name) (others : List Name) (names : Naming) → AnyBroken code.words end (left - n) mid after s t
          → HoldsBy names k m (Some p) others → Ready code k mid left n store table taken s m p others
          → BreaksRunBy code.words result left k names new t m p others
      by_end s t m p others names f by r =
          subst (λ x. BreaksRunBy code.words x left k names new t m p others) (sym is)
          (breaks_run_later code.words after new left n store' table' taken' arrived' failed' k mid table end t m p others names
          (f m p others names (held m p others names by) r.system r.turns))

-- no stint begins where no turn is left for the entry
pub told_none : (code : CodeParts) (k new : KernelState) (left n : ℕ) (o : Option State) → n ≡ (if k.entering then 1 else 0) → left < n →
    WhereTold o o (λ s t. (m : Machine) (p : Name) (others : List Name) (names : Naming) → IsAt code k s left m p others → HoldsBy names k m (Some p) others →
    BreaksRunBy code.words (stint_end.Over 0 ending.Turns) left k names new t m p others)
told_none code k new left n None e l = tt
told_none code k new left n (Some s) e l = λ m p others names at by. absurd (by_entering k.entering e m p others at)
  where
    by_entering : (b : Bool) → n ≡ (if b then 1 else 0) → (m : Machine) (p : Name) (others : List Name) → IsAtBy b code k s left m p others → ⊥
    by_entering false e m p others at = omega (arith, e, l)
    by_entering true e m p others at =
        let none : left ≡ 0 = omega (arith, e, l) in
        let x : NeverEnters code s = never_enters code k at.0 s in
        let no : went m stays ≡ ended outcome.turns x.machine =
        sym at.1 ∙ ap (λ i. entered (fetch code.words code.entry) code.entry code.calls i s) none ∙ x.is in
        absurd (cc)
