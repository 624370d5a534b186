-- Rounds of a run.
use Rattle.std.proofs.Common.{◌≡◌, ℕ, zero, suc, ◌-◌, false, List, [], ◌∷◌, ◌++◌, map, Option, Some, None, refl, sym, ◌∙◌, ap, subst}
use Rattle.std.specs.Prelude.{⊤}
use Rattle.std.specs.Option.{option_map}
use Rattle.edi_told.specs.Told.{WhereTold}
use Rattle.edi_told.proofs.Told.{WhereTold-map}
use Rattle.edi_calls.specs.declared.ends.Outside.{Outside}
use Rattle.edi_calls.specs.Choice.{Choices}
use Rattle.edi_calls.specs.Names.{Name}
use Rattle.edi_calls.specs.Outcome as outcome
use Rattle.edi_calls.specs.Ready.{stays, joins, take_next}
use Rattle.edi_calls.specs.State.{State}
use Rattle.edi_target.specs.Op.{Instruction}
use Rattle.edi_target.specs.Fetch.{fetch}
use Rattle.edi_target.specs.Mach.{Machine, Stepped, went, ended, MachineRun, finished, go_on, after_step, run, step}
use Rattle.edi_trace.specs.Drawn.{Drawn}
use Rattle.edi_kernel.specs.declared.ends.Ending.{Ending}
use Rattle.edi_kernel.specs.declared.ends.Ending.TheVariants as ending
use Rattle.edi_kernel.specs.declared.ends.StintEnd.{StintEnd}
use Rattle.edi_kernel.specs.declared.ends.StintEnd.TheVariants as stint_end
use Rattle.edi_kernel.specs.declared.state.KernelState.{KernelState}
use Rattle.edi_kernel.specs.Table.{ready_slots}
use Rattle.edi_kernel.specs.TableIsMachine.{Naming, TableIsMachine}
use Rattle.edi_kernel.specs.Stints as stints
use Rattle.edi_kernel.specs.Stints.{stint, stint_after}
use Rattle.edi_kernel.specs.Kernel.{Holds, HoldsBroken, KeepsWords, Switches, EndsRun, BreaksOff, BreaksBy, GoesTo, ended_by, going_on, is_over, used_in}
use Rattle.edi_kernel.specs.Named.{BreaksRun, BreaksRunBy, HoldsBy}
use Rattle.edi_kernel.specs.Runs.{Proceeds, EndsUnready, KeepsMachine, RunEnds, RunFails, Rounds, RoundsBy}
use Rattle.edi_kernel.specs.Runs.{EndsStint, RoundsBroken}
use Rattle.edi_kernel.specs.Moments.{moment, moment_on}
use Rattle.edi_kernel.proofs.Moments.{moment_switched, moment_followed}

-- ---- a stint is the run up to its switch

module _ (fetch : ℕ → Option (Instruction × ℕ)) (choices : Choices) where
  switched_same : {m n : Machine} {ps qs : List Name} → stints.switched m ps ≡ stints.switched n qs → (m ≡ n) × (ps ≡ qs)
  switched_same e = ((cc), (cc))

  over_same : {m n : Machine} {e f : outcome.Ending} → stints.over e m ≡ stints.over f n → (e ≡ f) × (m ≡ n)
  over_same e = ((cc), (cc))

  pub run_switched : (n : ℕ) (m : Machine) (p : Name) (others : List Name) (drawn : ℕ) (m' : Machine) (ps : List Name)
      → stint fetch n m p others ≡ stints.switched m' ps →
      (k : ℕ) (r : MachineRun) → go_on (take_next choices drawn (others ++ ps)) (run fetch choices k m') m' drawn ≡ r → (j : ℕ)
      × (run fetch choices j m p others drawn ≡ r)
  run_switched zero m p others drawn m' ps e k r h = absurd (cc)
  run_switched (suc n) m p others drawn m' ps e k r h = by_step (step fetch m p others) refl e (run_switched n)
    where
      by_step : (s : Stepped) → step fetch m p others ≡ s → stint_after (λ m. stint fetch n m p others) s ≡ stints.switched m' ps →
          ((m : Machine) (p : Name) (others : List Name) (drawn : ℕ) (m' : Machine) (ps : List Name) → stint fetch n m p others ≡ stints.switched m' ps →
          (k : ℕ) (r : MachineRun) → go_on (take_next choices drawn (others ++ ps)) (run fetch choices k m') m' drawn ≡ r → (j : ℕ)
          × (run fetch choices j m p others drawn ≡ r)) →
          (j : ℕ) × (run fetch choices j m p others drawn ≡ r)
      by_step (went l stays) f g more =
          let x : (j : ℕ) × (run fetch choices j l p others drawn ≡ r) = more l p others drawn m' ps g k r h in
          (suc x.0, ap (after_step choices (run fetch choices x.0) p others drawn) f ∙ x.1)
      by_step (went l (joins qs)) f g more =
          let x : (l ≡ m') × (qs ≡ ps) = switched_same g in (
            suc k,
            ap (after_step choices (run fetch choices k) p others drawn) f
                ∙ ap (λ qs. go_on (take_next choices drawn (others ++ qs)) (run fetch choices k l) l drawn) x.1
                ∙ ap (λ y. go_on (take_next choices drawn (others ++ ps)) (run fetch choices k y) y drawn) x.0 ∙ h,
          )
      by_step (ended e l) f g more = absurd (cc)

  pub run_over : (n : ℕ) (m : Machine) (p : Name) (others : List Name) (drawn : ℕ) (e : outcome.Ending) (m' : Machine)
      → stint fetch n m p others ≡ stints.over e m' → (j : ℕ) × (run fetch choices j m p others drawn ≡ finished e m' drawn)
  run_over zero m p others drawn e m' h = absurd (cc)
  run_over (suc n) m p others drawn e m' h = by_step (step fetch m p others) refl h (run_over n)
    where
      by_step : (s : Stepped) → step fetch m p others ≡ s → stint_after (λ m. stint fetch n m p others) s ≡ stints.over e m' →
          ((m : Machine) (p : Name) (others : List Name) (drawn : ℕ) (e : outcome.Ending) (m' : Machine) → stint fetch n m p others ≡ stints.over e m'
          → (j : ℕ) × (run fetch choices j m p others drawn ≡ finished e m' drawn)) →
          (j : ℕ) × (run fetch choices j m p others drawn ≡ finished e m' drawn)
      by_step (went l stays) f g more =
          let x : (j : ℕ) × (run fetch choices j l p others drawn ≡ finished e m' drawn) = more l p others drawn e m' g in
          (suc x.0, ap (after_step choices (run fetch choices x.0) p others drawn) f ∙ x.1)
      by_step (went l (joins qs)) f g more = absurd (cc)
      by_step (ended d l) f g more =
          let x : (d ≡ e) × (l ≡ m') = over_same g in
          (1, ap (after_step choices (run fetch choices 0) p others drawn) f ∙ ap (λ d. finished d l drawn) x.0 ∙ ap (λ y. finished e y drawn) x.1)

-- ---- the kernel is the same machine

-- what is kept beside the processes and the memory is free
pub holds_same : (k new : KernelState) (m : Machine) (taken : Option Name) (ready : List Name) → new.store ≡ k.store → new.table ≡ k.table
    → new.taken ≡ k.taken → Holds k m taken ready → Holds new m taken ready
holds_same k new m taken ready e f g h = record {
  naming = h.naming;
  stands = subst (λ t. TableIsMachine t h.naming m) (sym f) h.stands;
  memory = h.memory ∙ sym e;
  is_taken = h.is_taken ∙ sym (ap (option_map h.naming.name) g);
  is_ready = h.is_ready ∙ sym (ap (λ t. map h.naming.name (ready_slots t)) f);
}

-- by the same names
pub same_naming : (k new : KernelState) (m : Machine) (taken : Option Name) (ready : List Name) (e : new.store ≡ k.store) (f : new.table ≡ k.table)
    (g : new.taken ≡ k.taken) (h : Holds k m taken ready) → (holds_same k new m taken ready e f g h).naming ≡ h.naming
unfolding holds_same
same_naming k new m taken ready e f g h = refl

-- so after an end of the run by an instruction of p
pub broken_same : (words : List ℕ) (e : Ending) (k new : KernelState) (m : Machine) (p : Name) (others : List Name) → new.store ≡ k.store
    → new.table ≡ k.table → new.taken ≡ k.taken → HoldsBroken words e k m p others → HoldsBroken words e new m p others
broken_same words e k new m p others store table taken h = record {
  activity = h.activity;
  found = h.found;
  local = h.local;
  goes_on = h.goes_on;
  holds = holds_same k new (going_on m p h.local h.activity.forks) (Some p) others store table taken h.holds;
}

pub broken_naming : (words : List ℕ) (e : Ending) (k new : KernelState) (m : Machine) (p : Name) (others : List Name) (x : new.store ≡ k.store)
    (y : new.table ≡ k.table) (z : new.taken ≡ k.taken) (h : HoldsBroken words e k m p others) →
    (broken_same words e k new m p others x y z h).holds.naming ≡ h.holds.naming
unfolding broken_same holds_same
broken_naming words e k new m p others x y z h = refl

-- the same of a run that may go on
abbrev pub KeepsIf : Option Ending → KernelState → Machine → Type 0
KeepsIf None k m = ⊤
KeepsIf (Some e) k m = KeepsMachine e k m

-- ---- a round

module _ (words : List ℕ) (bound : ℕ) (k new : KernelState) (now : State) (old drawn : Drawn) (m : Machine) (p : Name) (others : List Name) (left used : ℕ)
    (turns : left - used ≡ bound - new.used) (store : new.store ≡ k.store) where
  -- the stint ended the run
  ends_run : (e : Ending) → drawn ≡ old → (h : EndsRun words (left - used) e k now m p others) → KeepsMachine e new h.machine
      → RunEnds words bound e new now old drawn m p others
  ends_run e same h stands =
      let j : (j : ℕ) × (run (fetch words) old.source j m p others old.drawn ≡ finished h.end h.machine old.drawn) = run_over (fetch words) old.source h.steps
      m p others old.drawn h.end h.machine h.is in
      record {
        steps = j.0;
        machine = h.machine;
        end = h.end;
        is = j.1 ∙ ap (λ d. finished h.end h.machine d.drawn) (sym same);
        same = h.same;
        memory = keeps e h.memory;
        system = h.system;
        turns = h.turns ∙ turns;
        stands = stands;
      }
    where
      keeps : (e : Ending) → KeepsWords e h.machine.memory k.store → KeepsWords e h.machine.memory new.store
      keeps ending.Done x = x ∙ sym store
      keeps (ending.Halted line) x = x ∙ sym store
      keeps (ending.Failed cause line) x = x ∙ sym store
      keeps ending.Turns x = tt
      keeps ending.Standstill x = tt
      keeps (ending.Bad at) x = tt
      keeps ending.Fault x = tt

  -- the stint switched
  goes_on : (result : Option Ending) → (h : Switches words (left - used) k now m p others) → KeepsIf result new h.machine
      → Proceeds result new h.machine old drawn (others ++ h.joined) → Rounds words bound result new now old drawn m p others
  goes_on None h stands c = record {
    machine = h.machine;
    name = c.name;
    rest = c.others;
    comes = λ n r e. run_switched (fetch words) old.source h.steps m p others old.drawn h.machine h.joined h.is n r
        (ap (λ t. go_on t (run (fetch words) old.source n h.machine) h.machine old.drawn) c.is ∙ e);
    passes = λ n x e. moment_switched (fetch words) old.source h.steps m p others old.drawn h.machine h.joined h.is n x
        (ap (λ t. moment_on t (moment (fetch words) old.source n h.machine)) c.is ∙ e);
    holds = c.holds;
    system = h.system;
    turns = h.turns ∙ turns;
  }
  goes_on (Some ending.Standstill) h stands c =
      let j : (j : ℕ) × (run (fetch words) old.source j m p others old.drawn ≡ finished outcome.standstill h.machine old.drawn) =
      run_switched (fetch words) old.source h.steps m p others old.drawn h.machine h.joined h.is 0 (finished outcome.standstill h.machine old.drawn)
      (ap (λ ps. go_on (take_next old.source old.drawn ps) (run (fetch words) old.source 0 h.machine) h.machine old.drawn) c.0) in
      record {
        steps = j.0;
        machine = h.machine;
        end = outcome.standstill;
        is = j.1 ∙ ap (λ d. finished outcome.standstill h.machine d.drawn) (sym c.1);
        same = tt;
        memory = tt;
        system = h.system;
        turns = h.turns ∙ turns;
        stands = stands;
      }
  goes_on (Some ending.Done) h stands c = absurd c
  goes_on (Some (ending.Halted line)) h stands c = absurd c
  goes_on (Some (ending.Failed cause line)) h stands c = absurd c
  goes_on (Some ending.Turns) h stands c = absurd c
  goes_on (Some (ending.Bad at)) h stands c = absurd c
  goes_on (Some ending.Fault) h stands c = absurd c

  -- an object outside failed in the stint
  fails_then : drawn ≡ old → BreaksOff words (left - used) now m p others → RunFails words bound new now old drawn m p others
  fails_then same h = record {
    steps = h.steps;
    at = record { machine = h.machine; name = p; others = others; drawn = old.drawn };
    is = moment_followed (fetch words) old.source h.steps m p others old.drawn h.machine h.is;
    fails = h.fails;
    drawn = sym (ap (λ d. d.drawn) same);
    turns = h.turns ∙ turns;
  }

  pub round_over : (e : Ending) → drawn ≡ old → new.table ≡ k.table → new.taken ≡ k.taken → GoesTo words (stint_end.Over used e) left k now m p others
      → Rounds words bound (Some e) new now old drawn m p others
  round_over ending.Done same table taken h = ends_run ending.Done same h tt
  round_over (ending.Halted line) same table taken h = ends_run (ending.Halted line) same h tt
  round_over (ending.Failed cause line) same table taken h = ends_run (ending.Failed cause line) same h tt
  round_over ending.Turns same table taken h = ends_run ending.Turns same h tt
  round_over ending.Standstill same table taken h =
      ends_run ending.Standstill same h.0 (others ++ p ∷ [], holds_same k new h.0.machine None (others ++ p ∷ []) store table taken h.3)
  round_over (ending.Bad at) same table taken h = ends_run (ending.Bad at) same h tt
  round_over ending.Fault same table taken h = fails_then same h

  -- by a call that uses what has failed
  pub breaks_over : (failed : Option Outside → Type 0) (e : Ending) → drawn ≡ old → BreaksBy failed words (stint_end.Over used e) left now m p others
      → RoundsBy failed words bound (Some e) new now old drawn m p others
  unfolding fails_then
  breaks_over failed ending.Fault same h = (fails_then same h.0, h.1)
  breaks_over failed ending.Done same h = tt
  breaks_over failed (ending.Halted line) same h = tt
  breaks_over failed (ending.Failed cause line) same h = tt
  breaks_over failed ending.Turns same h = tt
  breaks_over failed ending.Standstill same h = tt
  breaks_over failed (ending.Bad at) same h = tt

  -- the stint ended the run by an instruction of p
  ends_broken : (e : Ending) (prior : KernelState) (n : Naming) → drawn ≡ old → new.table ≡ k.table → new.taken ≡ k.taken
      → (b : BreaksRun words (left - used) e prior n k now m p others) → KeepsMachine e new b.ends.machine
      → (h : RunEnds words bound e new now old drawn m p others) × HoldsBroken words e new h.machine p others
      × EndsStint words h.end h.machine m p others × (drawn.drawn ≡ old.drawn)
  unfolding ends_run
  ends_broken e prior n same table taken b stands = (
    ends_run e same b.ends stands,
    broken_same words e k new b.ends.machine p others store table taken b.broken,
    (b.ends.steps, b.ends.is),
    ap (λ d. d.drawn) same,
  )

  pub broken_over : (e : Ending) (prior : KernelState) (n : Naming) → drawn ≡ old → new.table ≡ k.table → new.taken ≡ k.taken
      → BreaksRunBy words (stint_end.Over used e) left prior n k now m p others → RoundsBroken words bound (Some e) new now old drawn m p others
  broken_over ending.Done prior n same table taken b = ends_broken ending.Done prior n same table taken b tt
  broken_over (ending.Halted line) prior n same table taken b = ends_broken (ending.Halted line) prior n same table taken b tt
  broken_over (ending.Failed cause line) prior n same table taken b = ends_broken (ending.Failed cause line) prior n same table taken b tt
  broken_over ending.Turns prior n same table taken b = ends_broken ending.Turns prior n same table taken b tt
  broken_over ending.Standstill prior n same table taken b = tt
  broken_over (ending.Bad at) prior n same table taken b = ends_broken (ending.Bad at) prior n same table taken b tt
  broken_over ending.Fault prior n same table taken b = tt

  pub round_on : (result : Option Ending) → Switches words (left - used) k now m p others
      → ((machine : Machine) (ready : List Name) → Holds k machine None ready → KeepsIf result new machine)
      → ((machine : Machine) (ready : List Name) → Holds k machine None ready → Proceeds result new machine old drawn ready) → Rounds words bound result new now
      old drawn m p others
  round_on result h keeps c = goes_on result h (keeps h.machine (others ++ h.joined) h.holds) (c h.machine (others ++ h.joined) h.holds)

-- the round by the end of its stint
module _ (words : List ℕ) (bound : ℕ) (k : KernelState) (old : Drawn) (left : ℕ) where
  pub round_ends : (end : StintEnd) (e : Ending) (new : KernelState) (now : State) (m : Machine) (p : Name) (others : List Name) → ended_by end ≡ Some e
      → left - used_in end ≡ bound - new.used → new.store ≡ k.store → new.table ≡ k.table → new.taken ≡ k.taken →
      GoesTo words end left k now m p others → Rounds words bound (Some e) new now old old m p others
  round_ends (stint_end.Over used e) d new now m p others h turns store table taken g =
      subst (λ x. Rounds words bound (Some x) new now old old m p others) (some h)
      (round_over words bound k new now old old m p others left used turns store e refl table taken g)
    where
      some : Some e ≡ Some d → e ≡ d
      some e = cc
  round_ends (stint_end.Arrived used) e new now m p others h turns store table taken g = absurd (cc)
  round_ends (stint_end.Forked used) e new now m p others h turns store table taken g = absurd (cc)
  round_ends (stint_end.Exited used) e new now m p others h turns store table taken g = absurd (cc)

  pub round_breaks : (failed : Option Outside → Type 0) (end : StintEnd) (e : Ending) (new : KernelState) (now : State) (m : Machine) (p : Name)
      (others : List Name) → ended_by end ≡ Some e → left - used_in end ≡ bound - new.used → new.store ≡ k.store →
      BreaksBy failed words end left now m p others → RoundsBy failed words bound (Some e) new now old old m p others
  round_breaks failed (stint_end.Over used e) d new now m p others h turns store b =
      subst (λ x. RoundsBy failed words bound (Some x) new now old old m p others) (some h)
      (breaks_over words bound k new now old old m p others left used turns store failed e refl b)
    where
      some : Some e ≡ Some d → e ≡ d
      some e = cc
  round_breaks failed (stint_end.Arrived used) e new now m p others h turns store b = absurd (cc)
  round_breaks failed (stint_end.Forked used) e new now m p others h turns store b = absurd (cc)
  round_breaks failed (stint_end.Exited used) e new now m p others h turns store b = absurd (cc)

  pub round_broken : (end : StintEnd) (e : Ending) (prior new : KernelState) (n : Naming) (now : State) (m : Machine) (p : Name) (others : List Name)
      → ended_by end ≡ Some e → left - used_in end ≡ bound - new.used → new.store ≡ k.store → new.table ≡ k.table → new.taken ≡ k.taken →
      BreaksRunBy words end left prior n k now m p others → RoundsBroken words bound (Some e) new now old old m p others
  round_broken (stint_end.Over used e) d prior new n now m p others h turns store table taken b =
      subst (λ x. RoundsBroken words bound (Some x) new now old old m p others) (some h)
      (broken_over words bound k new now old old m p others left used turns store e prior n refl table taken b)
    where
      some : Some e ≡ Some d → e ≡ d
      some e = cc
  round_broken (stint_end.Arrived used) e prior new n now m p others h turns store table taken b = absurd (cc)
  round_broken (stint_end.Forked used) e prior new n now m p others h turns store table taken b = absurd (cc)
  round_broken (stint_end.Exited used) e prior new n now m p others h turns store table taken b = absurd (cc)

  pub round_goes : (end : StintEnd) (result : Option Ending) (new : KernelState) (drawn : Drawn) (now : State) (m : Machine) (p : Name) (others : List Name)
      → ended_by end ≡ None → left - used_in end ≡ bound - new.used → new.store ≡ k.store →
      ((machine : Machine) (ready : List Name) → Holds k machine None ready → KeepsIf result new machine) →
      ((machine : Machine) (ready : List Name) → Holds k machine None ready → Proceeds result new machine old drawn ready) →
      GoesTo words end left k now m p others → Rounds words bound result new now old drawn m p others
  round_goes (stint_end.Over used e) result new drawn now m p others h turns store keeps c g = absurd (cc)
  round_goes (stint_end.Arrived used) result new drawn now m p others h turns store keeps c g = round_on words bound k new now old drawn m p others left used turns
      store result g.0 keeps c
  round_goes (stint_end.Forked used) result new drawn now m p others h turns store keeps c g = round_on words bound k new now old drawn m p others left used turns
      store result g.0 keeps c
  round_goes (stint_end.Exited used) result new drawn now m p others h turns store keeps c g = round_on words bound k new now old drawn m p others left used turns
      store result g.0 keeps c

-- a stint that does not end the run
pub going_free : (end : StintEnd) → ended_by end ≡ None → is_over end ≡ false
going_free (stint_end.Arrived used) h = refl
going_free (stint_end.Forked used) h = refl
going_free (stint_end.Exited used) h = refl
going_free (stint_end.Over used e) h = absurd (cc)

-- where a run ends since nobody is ready the kernel is the machine that it was
pub keeps_unready : (result : Option Ending) (k mid new : KernelState) → EndsUnready result mid new → mid.store ≡ k.store → mid.table ≡ k.table
    → mid.taken ≡ k.taken → (machine : Machine) (ready : List Name) → Holds k machine None ready → KeepsIf result new machine
keeps_unready None k mid new h e f g machine ready holds = tt
keeps_unready (Some ending.Standstill) k mid new h e f g machine ready holds = (
  ready,
  holds_same k new machine None ready (ap (λ (x : KernelState). x.store) h.0 ∙ e) (ap (λ (x : KernelState). x.table) h.0 ∙ f)
      (ap (λ (x : KernelState). x.taken) h.0 ∙ g) holds,
)
keeps_unready (Some ending.Done) k mid new h e f g machine ready holds = absurd h
keeps_unready (Some (ending.Halted line)) k mid new h e f g machine ready holds = absurd h
keeps_unready (Some (ending.Failed cause line)) k mid new h e f g machine ready holds = absurd h
keeps_unready (Some ending.Turns) k mid new h e f g machine ready holds = absurd h
keeps_unready (Some (ending.Bad at)) k mid new h e f g machine ready holds = absurd h
keeps_unready (Some ending.Fault) k mid new h e f g machine ready holds = absurd h

-- ---- the round where the state is told

-- the process goes on from any machine that the kernel is
abbrev pub AnyStint : List ℕ → StintEnd → (left : ℕ) → (prior k : KernelState) → State → State → Type 0
AnyStint words end left prior k s t =
    (m : Machine) (p : Name) (others : List Name) → Holds prior m (Some p) others → m.system ≡ s → m.turns ≡ left → GoesTo words end left k t m p others

abbrev pub AnyBreak : (failed : Option Outside → Type 0) → List ℕ → StintEnd → (left : ℕ) → (prior : KernelState) → State → State → Type 0
AnyBreak failed words end left prior s t =
    (m : Machine) (p : Name) (others : List Name) → Holds prior m (Some p) others → m.system ≡ s → m.turns ≡ left
    → BreaksBy failed words end left t m p others

-- where the stint ended the run by an instruction of its process
abbrev pub AnyBroken : List ℕ → StintEnd → (left : ℕ) → (prior k : KernelState) → State → State → Type 0
AnyBroken words end left prior k s t =
    (m : Machine) (p : Name) (others : List Name) (n : Naming) → HoldsBy n prior m (Some p) others → m.system ≡ s → m.turns ≡ left
    → BreaksRunBy words end left prior n k t m p others

pub nothing_told : (o : Option State) → WhereTold o o (λ s t. ⊤)
nothing_told None = tt
nothing_told (Some s) = tt

module _ (words : List ℕ) (bound : ℕ) (prior k new : KernelState) (old : Drawn) (left : ℕ) (end : StintEnd) (before after : Option State)
    (turns : left - used_in end ≡ bound - new.used) (store : new.store ≡ k.store) where
  pub told_round_ends : (e : Ending) → ended_by end ≡ Some e → new.table ≡ k.table → new.taken ≡ k.taken → WhereTold before after (AnyStint words end left prior k) →
      WhereTold before after (λ s t. (m : Machine) (p : Name) (others : List Name) → Holds prior m (Some p) others → m.system ≡ s → m.turns ≡ left
      → Rounds words bound (Some e) new t old old m p others)
  told_round_ends e over table taken h =
      WhereTold-map (AnyStint words end left prior k)
      (λ s t. (m : Machine) (p : Name) (others : List Name) → Holds prior m (Some p) others → m.system ≡ s → m.turns ≡ left
      → Rounds words bound (Some e) new t old old m p others) before after
      (λ s t f m p others a b c. round_ends words bound k old left end e new t m p others over turns store table taken (f m p others a b c)) h

  pub told_round_goes : (result : Option Ending) (drawn : Drawn) → ended_by end ≡ None
      → ((machine : Machine) (ready : List Name) → Holds k machine None ready → KeepsIf result new machine)
      → ((machine : Machine) (ready : List Name) → Holds k machine None ready → Proceeds result new machine old drawn ready) →
      WhereTold before after (AnyStint words end left prior k) →
      WhereTold before after (λ s t. (m : Machine) (p : Name) (others : List Name) → Holds prior m (Some p) others → m.system ≡ s → m.turns ≡ left
      → Rounds words bound result new t old drawn m p others)
  told_round_goes result drawn on keeps proceeds h =
      WhereTold-map (AnyStint words end left prior k)
      (λ s t. (m : Machine) (p : Name) (others : List Name) → Holds prior m (Some p) others → m.system ≡ s → m.turns ≡ left → Rounds words bound result new
      t old drawn m p others) before after
      (λ s t f m p others a b c. round_goes words bound k old left end result new drawn t m p others on turns store keeps proceeds (f m p others a b c)) h

  abbrev AnyEnd : Option Ending → Drawn → State → State → Type 0
  AnyEnd result drawn s t =
      (m : Machine) (p : Name) (others : List Name) → Holds prior m (Some p) others → m.system ≡ s → m.turns ≡ left
      → RoundsBroken words bound result new t old drawn m p others

  pub told_round_broken : (e : Ending) → ended_by end ≡ Some e → new.table ≡ k.table → new.taken ≡ k.taken
      → WhereTold before after (AnyBroken words end left prior k) → WhereTold before after (AnyEnd (Some e) old)
  told_round_broken e over table taken h =
      WhereTold-map (AnyBroken words end left prior k) (AnyEnd (Some e) old) before after
      (λ s t f m p others a b c.
      round_broken words bound k old left end e prior new a.naming t m p others over turns store table taken
      (f m p others a.naming (record { holds = a; by = refl }) b c)) h

  unbroken : (result : Option Ending) (drawn : Drawn) (mid later : KernelState) → EndsUnready result mid later → (s t : State) → AnyEnd result drawn s t
  unbroken None drawn mid later h s t m p others a b c = tt
  unbroken (Some ending.Standstill) drawn mid later h s t m p others a b c = tt
  unbroken (Some ending.Done) drawn mid later h s t m p others a b c = absurd h
  unbroken (Some (ending.Halted line)) drawn mid later h s t m p others a b c = absurd h
  unbroken (Some (ending.Failed cause line)) drawn mid later h s t m p others a b c = absurd h
  unbroken (Some ending.Turns) drawn mid later h s t m p others a b c = absurd h
  unbroken (Some (ending.Bad at)) drawn mid later h s t m p others a b c = absurd h
  unbroken (Some ending.Fault) drawn mid later h s t m p others a b c = absurd h

  pub told_unbroken : (result : Option Ending) (drawn : Drawn) (mid later : KernelState) → EndsUnready result mid later
      → WhereTold before after (AnyBroken words end left prior k) → WhereTold before after (AnyEnd result drawn)
  told_unbroken result drawn mid later nobody h =
      WhereTold-map (AnyBroken words end left prior k) (AnyEnd result drawn) before after (λ s t f. unbroken result drawn mid later nobody s t) h

  -- a call that failed in the round uses what has failed
  module _ (failed : Option Outside → Type 0) where
    abbrev AnyBy : Option Ending → Drawn → State → State → Type 0
    AnyBy result drawn s t =
        (m : Machine) (p : Name) (others : List Name) → Holds prior m (Some p) others → m.system ≡ s → m.turns ≡ left
        → RoundsBy failed words bound result new t old drawn m p others

    pub told_round_breaks : (e : Ending) → ended_by end ≡ Some e → WhereTold before after (AnyBreak failed words end left prior)
        → WhereTold before after (AnyBy (Some e) old)
    told_round_breaks e over h =
        WhereTold-map (AnyBreak failed words end left prior) (AnyBy (Some e) old) before after
        (λ s t f m p others a b c. round_breaks words bound k old left failed end e new t m p others over turns store (f m p others a b c)) h

    unready : (result : Option Ending) (drawn : Drawn) (mid later : KernelState) → EndsUnready result mid later → (s t : State) → AnyBy result drawn s t
    unready None drawn mid later h s t m p others a b c = tt
    unready (Some ending.Standstill) drawn mid later h s t m p others a b c = tt
    unready (Some ending.Done) drawn mid later h s t m p others a b c = absurd h
    unready (Some (ending.Halted line)) drawn mid later h s t m p others a b c = absurd h
    unready (Some (ending.Failed cause line)) drawn mid later h s t m p others a b c = absurd h
    unready (Some ending.Turns) drawn mid later h s t m p others a b c = absurd h
    unready (Some (ending.Bad at)) drawn mid later h s t m p others a b c = absurd h
    unready (Some ending.Fault) drawn mid later h s t m p others a b c = absurd h

    pub told_unready : (result : Option Ending) (drawn : Drawn) (mid later : KernelState) → EndsUnready result mid later
        → WhereTold before after (AnyBreak failed words end left prior) → WhereTold before after (AnyBy result drawn)
    told_unready result drawn mid later nobody h =
        WhereTold-map (AnyBreak failed words end left prior) (AnyBy result drawn) before after (λ s t f. unready result drawn mid later nobody s t) h
