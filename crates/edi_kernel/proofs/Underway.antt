-- A whole run, round after round.
use Rattle.std.proofs.Common.{◌≡◌, ℕ, suc, ◌-◌, ◌<◌, ◌≤◌, List, [], Option, Some, None, refl, sym, ◌∙◌, ap, arith}
use Rattle.edi_told.specs.Told.{WhereTold}
use Rattle.edi_told.proofs.Told.{WhereTold-then}
use Rattle.edi_calls.specs.declared.ends.Outside.{Outside}
use Rattle.edi_calls.specs.Names.{Name}
use Rattle.edi_calls.specs.Outcome as outcome
use Rattle.edi_calls.specs.State.{State}
use Rattle.edi_target.specs.Check.{CodeParts}
use Rattle.edi_target.specs.Fetch.{fetch}
use Rattle.edi_target.specs.Mach.{Machine, MachineRun, finished, after_step, run, entered}
use Rattle.edi_trace.specs.Drawn.{Drawn}
use Rattle.edi_kernel.specs.declared.ends.Ending.{Ending}
use Rattle.edi_kernel.specs.declared.ends.Ending.TheVariants as ending
use Rattle.edi_kernel.specs.declared.state.KernelState.{KernelState}
use Rattle.edi_kernel.specs.Kernel.{Holds, HoldsBroken, EndsAs}
use Rattle.edi_kernel.specs.Runs.{Started, GoesRound, RunEnds, RunFails, Rounds, RoundsBy, RunsAs, FailsIn, FaultsBy}
use Rattle.edi_kernel.specs.Runs.{EndsStint, RoundsBroken, RunsTo, StandsBroken, StandsIn}
use Rattle.edi_kernel.specs.Enders.{ender, ender_after}
use Rattle.edi_kernel.specs.Moments.{Moment, moment, moment_after, moment_of}
use Rattle.edi_kernel.proofs.Starting.{Enters, NeverEnters, NeverGoes, enters, never_enters, never_goes}
use Rattle.edi_kernel.proofs.Enders.{EndsBy, ends_by}
use Rattle.edi_kernel.proofs.Rounds.{broken_same, holds_same}

-- two relations that hold where the state is told
pub told_both : (P Q : State → State → Type 0) (before after : Option State) → WhereTold before after P → WhereTold before after Q
    → WhereTold before after (λ s t. P s t × Q s t)
told_both P Q before None h k = tt
told_both P Q None (Some t) h k = h
told_both P Q (Some s) (Some t) h k = (h, k)

-- ---- the rounds of a whole run

-- the run has come to this machine
pub record Underway (code : CodeParts) (system : State) (bound : ℕ) (old : Drawn) (k : KernelState) (state : State) (drawn : Drawn) : Type 0 where
  pub machine : Machine
  pub name : Name
  pub others : List Name
  pub comes : (n : ℕ) (r : MachineRun) → run (fetch code.words) old.source n machine name others drawn.drawn ≡ r →
      (j : ℕ) × (after_step old.source (run (fetch code.words) old.source j) [] [] old.drawn
      (entered (fetch code.words code.entry) code.entry code.calls bound system) ≡ r)
  pub passes : (n : ℕ) (x : Option Moment) → moment (fetch code.words) old.source n machine name others drawn.drawn ≡ x →
      (j : ℕ) × (moment_of code system bound old.source old.drawn j ≡ x)
  pub holds : Holds k machine (Some name) others
  pub system_is : machine.system ≡ state
  pub turns : machine.turns ≡ bound - k.used

module _ (code : CodeParts) (bound : ℕ) (old : Drawn) where
  abbrev words : List ℕ
  words = code.words

  -- what a round does from any machine that the kernel is
  abbrev AnyRound : Option Ending → (k new : KernelState) → (now next : Drawn) → State → State → Type 0
  AnyRound result k new now next s t =
      (m : Machine) (p : Name) (others : List Name) → Holds k m (Some p) others → m.system ≡ s → m.turns ≡ bound - k.used → Rounds code.words bound result new
      t now next m p others

  underway_more : (s x y : State) (k new : KernelState) (now next : Drawn) → now.source ≡ old.source → Underway code s bound old k x now
      → AnyRound None k new now next x y → Underway code s bound old new y next
  underway_more s x y k new now next same u h =
      let g : GoesRound code.words bound new y now next u.machine u.name u.others = h u.machine u.name u.others u.holds u.system_is u.turns in
      record {
        machine = g.machine;
        name = g.name;
        others = g.rest;
        comes = λ n r e.
            let z : (i : ℕ) × (run (fetch code.words) now.source i u.machine u.name u.others now.drawn ≡ r) = g.comes n r
            (ap (λ c. run (fetch code.words) c n g.machine g.name g.rest next.drawn) same ∙ e) in
            u.comes z.0 r (sym (ap (λ c. run (fetch code.words) c z.0 u.machine u.name u.others now.drawn) same) ∙ z.1);
        passes = λ n x e.
            let z : (i : ℕ) × (moment (fetch code.words) now.source i u.machine u.name u.others now.drawn ≡ x) = g.passes n x
            (ap (λ c. moment (fetch code.words) c n g.machine g.name g.rest next.drawn) same ∙ e) in
            u.passes z.0 x (sym (ap (λ c. moment (fetch code.words) c z.0 u.machine u.name u.others now.drawn) same) ∙ z.1);
        holds = g.holds;
        system_is = g.system;
        turns = g.turns;
      }

  runs_as : (s x y : State) (k new : KernelState) (now next : Drawn) (e : Ending) → now.source ≡ old.source → new.used ≤ bound
      → (u : Underway code s bound old k x now) → RunEnds code.words bound e new y now next u.machine u.name u.others → RunsAs code s bound old e new.store
      new.used y next
  runs_as s x y k new now next e same le u h = record {
    machine = h.machine;
    end = h.end;
    is = u.comes h.steps (finished h.end h.machine next.drawn)
        (sym (ap (λ c. run (fetch code.words) c h.steps u.machine u.name u.others now.drawn) same) ∙ h.is);
    same = h.same;
    memory = h.memory;
    system_is = h.system;
    turns = omega (arith, h.turns, le);
  }

  fails_in : (s x y : State) (k new : KernelState) (now next : Drawn) → now.source ≡ old.source → new.used ≤ bound → (u : Underway code s bound old k x now)
      → RunFails code.words bound new y now next u.machine u.name u.others →
      FailsIn code s bound old new.used y next
  fails_in s x y k new now next same le u h =
      let z : (j : ℕ) × (moment_of code s bound old.source old.drawn j ≡ Some h.at) =
      u.passes h.steps (Some h.at) (sym (ap (λ c. moment (fetch code.words) c h.steps u.machine u.name u.others now.drawn) same) ∙ h.is) in
      record { steps = z.0; at = h.at; is = z.1; fails = h.fails; drawn = h.drawn; turns = omega (arith, h.turns, le) }

  underway_ends : (s x y : State) (k new : KernelState) (now next : Drawn) (e : Ending) → now.source ≡ old.source → new.used ≤ bound
      → Underway code s bound old k x now → AnyRound (Some e) k new now next x y → RunsTo code s bound old e new.store new.used y next
  underway_ends s x y k new now next ending.Done same le u h = runs_as s x y k new now next ending.Done same le u
      (h u.machine u.name u.others u.holds u.system_is u.turns)
  underway_ends s x y k new now next (ending.Halted line) same le u h = runs_as s x y k new now next (ending.Halted line) same le u
      (h u.machine u.name u.others u.holds u.system_is u.turns)
  underway_ends s x y k new now next (ending.Failed cause line) same le u h = runs_as s x y k new now next (ending.Failed cause line) same le u
      (h u.machine u.name u.others u.holds u.system_is u.turns)
  underway_ends s x y k new now next ending.Turns same le u h = runs_as s x y k new now next ending.Turns same le u
      (h u.machine u.name u.others u.holds u.system_is u.turns)
  underway_ends s x y k new now next ending.Standstill same le u h = runs_as s x y k new now next ending.Standstill same le u
      (h u.machine u.name u.others u.holds u.system_is u.turns)
  underway_ends s x y k new now next (ending.Bad at) same le u h = runs_as s x y k new now next (ending.Bad at) same le u
      (h u.machine u.name u.others u.holds u.system_is u.turns)
  underway_ends s x y k new now next ending.Fault same le u h = fails_in s x y k new now next same le u
      (h u.machine u.name u.others u.holds u.system_is u.turns)

  -- the call that failed uses what has failed
  module _ (failed : Option Outside → Type 0) where
    abbrev AnyRoundBy : Option Ending → (k new : KernelState) → (now next : Drawn) → State → State → Type 0
    AnyRoundBy result k new now next s t =
        (m : Machine) (p : Name) (others : List Name) → Holds k m (Some p) others → m.system ≡ s → m.turns ≡ bound - k.used
        → RoundsBy failed code.words bound result new t now next m p others

    faults_by : (s x y : State) (k new : KernelState) (now next : Drawn) (e : Ending) → now.source ≡ old.source → new.used ≤ bound
        → Underway code s bound old k x now → AnyRoundBy (Some e) k new now next x y → FaultsBy failed code s bound old e new.used y next
    unfolding fails_in
    faults_by s x y k new now next ending.Fault same le u h =
        let r : RoundsBy failed code.words bound (Some ending.Fault) new y now next u.machine u.name u.others =
        h u.machine u.name u.others u.holds u.system_is u.turns in
        (fails_in s x y k new now next same le u r.0, r.1)
    faults_by s x y k new now next ending.Done same le u h = tt
    faults_by s x y k new now next (ending.Halted line) same le u h = tt
    faults_by s x y k new now next (ending.Failed cause line) same le u h = tt
    faults_by s x y k new now next ending.Turns same le u h = tt
    faults_by s x y k new now next ending.Standstill same le u h = tt
    faults_by s x y k new now next (ending.Bad at) same le u h = tt

    pub told_faults : (first before after : Option State) (k new : KernelState) (now next : Drawn) (e : Ending) → now.source ≡ old.source → new.used ≤ bound
        → WhereTold first before (λ s t. Underway code s bound old k t now) →
        WhereTold before after (AnyRoundBy (Some e) k new now next) → WhereTold first after (λ s t. FaultsBy failed code s bound old e new.used t next)
    told_faults first before after k new now next e same le h g = WhereTold-then _ _ _ first before after
        (λ s x y a b. faults_by s x y k new now next e same le a b) h g

  pub told_more : (first before after : Option State) (k new : KernelState) (now next : Drawn) → now.source ≡ old.source
      → WhereTold first before (λ s t. Underway code s bound old k t now) →
      WhereTold before after (AnyRound None k new now next) → WhereTold first after (λ s t. Underway code s bound old new t next)
  told_more first before after k new now next same h g = WhereTold-then _ _ _ first before after (λ s x y a b. underway_more s x y k new now next same a b) h g

  pub told_ends : (first before after : Option State) (k new : KernelState) (now next : Drawn) (e : Ending) → now.source ≡ old.source → new.used ≤ bound
      → WhereTold first before (λ s t. Underway code s bound old k t now) →
      WhereTold before after (AnyRound (Some e) k new now next) → WhereTold first after (λ s t. RunsTo code s bound old e new.store new.used t next)
  told_ends first before after k new now next e same le h g = WhereTold-then _ _ _ first before after
      (λ s x y a b. underway_ends s x y k new now next e same le a b) h g

  -- where the run came to a standstill
  still_is : (e : outcome.Ending) → EndsAs e ending.Standstill → e ≡ outcome.standstill
  still_is outcome.standstill h = refl
  still_is outcome.done h = absurd h
  still_is (outcome.halted line) h = absurd h
  still_is (outcome.failed cause line) h = absurd h
  still_is outcome.turns h = absurd h
  still_is (outcome.bad address) h = absurd h

  -- what a round that ended the run by an instruction of its process does from any machine that the kernel is
  abbrev AnyRoundBroken : Option Ending → (k new : KernelState) → (now next : Drawn) → State → State → Type 0
  AnyRoundBroken result k new now next s t =
      (m : Machine) (p : Name) (others : List Name) → Holds k m (Some p) others → m.system ≡ s → m.turns ≡ bound - k.used
      → RoundsBroken code.words bound result new t now next m p others

  broken_in : (s x y : State) (k new : KernelState) (now next : Drawn) (e : Ending) → (u : Underway code s bound old k x now) →
      (h : RunEnds code.words bound e new y now next u.machine u.name u.others) → HoldsBroken code.words e new h.machine u.name u.others
      → EndsStint code.words h.end h.machine u.machine u.name u.others → next.drawn ≡ now.drawn → StandsBroken code s bound old e new next
  broken_in s x y k new now next e u h b stint drawn =
      let z : EndsBy code s bound old.source old.drawn h.end h.machine u.name now.drawn =
      ends_by code s bound old.source old.drawn u.machine u.name u.others now.drawn u.passes stint.0 h.end h.machine stint.1 in
      record {
        machine = h.machine;
        end = h.end;
        is = (z.steps, z.is ∙ ap (finished h.end h.machine) (sym drawn));
        same = h.same;
        name = u.name;
        ran = z.ran;
        others = u.others;
        broken = b;
      }

  stands_in : (s x y : State) (k new : KernelState) (now next : Drawn) (e : Ending) → now.source ≡ old.source → Underway code s bound old k x now
      → AnyRound (Some e) k new now next x y → AnyRoundBroken (Some e) k new now next x y → StandsIn code s bound old e new next
  stands_in s x y k new now next ending.Standstill same u r b =
      let h : RunEnds code.words bound ending.Standstill new y now next u.machine u.name u.others = r u.machine u.name u.others u.holds u.system_is u.turns in
      record {
        machine = h.machine;
        is = u.comes h.steps (finished outcome.standstill h.machine next.drawn)
            (sym (ap (λ c. run (fetch code.words) c h.steps u.machine u.name u.others now.drawn) same) ∙ h.is
            ∙ ap (λ z. finished z h.machine next.drawn) (still_is h.end h.same));
        ready = h.stands.0;
        holds = h.stands.1;
      }
  stands_in s x y k new now next ending.Done same u r b =
      let h : RoundsBroken code.words bound (Some ending.Done) new y now next u.machine u.name u.others =
      b u.machine u.name u.others u.holds u.system_is u.turns in
      broken_in s x y k new now next ending.Done u h.0 h.1 h.2 h.3
  stands_in s x y k new now next (ending.Halted line) same u r b =
      let h : RoundsBroken code.words bound (Some (ending.Halted line)) new y now next u.machine u.name u.others =
      b u.machine u.name u.others u.holds u.system_is u.turns in
      broken_in s x y k new now next (ending.Halted line) u h.0 h.1 h.2 h.3
  stands_in s x y k new now next (ending.Failed cause line) same u r b =
      let h : RoundsBroken code.words bound (Some (ending.Failed cause line)) new y now next u.machine u.name u.others =
      b u.machine u.name u.others u.holds u.system_is u.turns in
      broken_in s x y k new now next (ending.Failed cause line) u h.0 h.1 h.2 h.3
  stands_in s x y k new now next ending.Turns same u r b =
      let h : RoundsBroken code.words bound (Some ending.Turns) new y now next u.machine u.name u.others =
      b u.machine u.name u.others u.holds u.system_is u.turns in
      broken_in s x y k new now next ending.Turns u h.0 h.1 h.2 h.3
  stands_in s x y k new now next (ending.Bad at) same u r b =
      let h : RoundsBroken code.words bound (Some (ending.Bad at)) new y now next u.machine u.name u.others =
      b u.machine u.name u.others u.holds u.system_is u.turns in
      broken_in s x y k new now next (ending.Bad at) u h.0 h.1 h.2 h.3
  stands_in s x y k new now next ending.Fault same u r b = tt

  pub told_stands : (first before after : Option State) (k new : KernelState) (now next : Drawn) (e : Ending) → now.source ≡ old.source
      → WhereTold first before (λ s t. Underway code s bound old k t now) → WhereTold before after (AnyRound (Some e) k new now next)
      → WhereTold before after (AnyRoundBroken (Some e) k new now next) → WhereTold first after (λ s t. StandsIn code s bound old e new next)
  told_stands first before after k new now next e same h g b =
      WhereTold-then (λ s t. Underway code s bound old k t now) (λ s t. AnyRound (Some e) k new now next s t × AnyRoundBroken (Some e) k new now next s t)
      (λ s t. StandsIn code s bound old e new next) first before after (λ s x y u r. stands_in s x y k new now next e same u r.0 r.1) h
      (told_both (AnyRound (Some e) k new now next) (AnyRoundBroken (Some e) k new now next) before after g b)

  where_same : (o : Option State) (P : State → State → Type 0) → ((s : State) → P s s) → WhereTold o o P
  where_same None P h = tt
  where_same (Some s) P h = h s

  -- the run begins with the entry's turn
  pub told_begins : (o : Option State) (k new : KernelState) → Started code k → 0 < bound → new.store ≡ k.store → new.table ≡ k.table → new.taken ≡ k.taken
      → new.used ≡ 1 → WhereTold o o (λ s t. Underway code s bound old new t old)
  told_begins o k new started pos e f g one = where_same o (λ s t. Underway code s bound old new t old) begin
    where
      begin : (s : State) → Underway code s bound old new s old
      begin s =
          let x : Enters code k s (bound - 1) = enters code k started s (bound - 1) in
          let b : suc (bound - 1) ≡ bound = omega (arith, pos) in
          record {
            machine = x.machine;
            name = [];
            others = [];
            comes = λ n r h. (
              n,
              ap (after_step old.source (run (fetch code.words) old.source n) [] [] old.drawn)
                  (ap (λ i. entered (fetch code.words code.entry) code.entry code.calls i s) (sym b) ∙ x.is) ∙ h,
            );
            passes = λ n y h. (
              n,
              ap (moment_after old.source (moment (fetch code.words) old.source n) [] [] old.drawn)
                  (ap (λ i. entered (fetch code.words code.entry) code.entry code.calls i s) (sym b) ∙ x.is) ∙ h,
            );
            holds = holds_same k new x.machine (Some []) [] e f g x.holds;
            system_is = x.system_is;
            turns = x.turns ∙ ap (λ i. bound - i) (sym one);
          }

  pub told_never : (o : Option State) (k new : KernelState) → Started code k → bound ≡ 0 → new.used ≡ 0
      → WhereTold o o (λ s t. RunsTo code s bound old ending.Turns new.store new.used t old)
  told_never o k new started none zero_used = where_same o (λ s t. RunsTo code s bound old ending.Turns new.store new.used t old) never
    where
      never : (s : State) → RunsAs code s bound old ending.Turns new.store new.used s old
      never s =
          let x : NeverEnters code s = never_enters code k started s in
          record {
            machine = x.machine;
            end = outcome.turns;
            is = (
              0,
              ap (after_step old.source (run (fetch code.words) old.source 0) [] [] old.drawn)
                  (ap (λ i. entered (fetch code.words code.entry) code.entry code.calls i s) none ∙ x.is),
            );
            same = tt;
            memory = tt;
            system_is = x.system_is;
            turns = omega (arith, none, x.turns, zero_used);
          }

  -- no turn was left for the entry
  pub told_never_stands : (o : Option State) (k new : KernelState) → Started code k → bound ≡ 0 → new.store ≡ k.store → new.table ≡ k.table
      → new.taken ≡ k.taken → WhereTold o o (λ s t. StandsIn code s bound old ending.Turns new old)
  told_never_stands o k new started none e f g = where_same o (λ s t. StandsIn code s bound old ending.Turns new old) never
    where
      never : (s : State) → StandsBroken code s bound old ending.Turns new old
      never s =
          let x : NeverGoes code k s = never_goes code k started s in
          record {
            machine = x.enters.machine;
            end = outcome.turns;
            is = (
              0,
              ap (after_step old.source (run (fetch code.words) old.source 0) [] [] old.drawn)
                  (ap (λ i. entered (fetch code.words code.entry) code.entry code.calls i s) none ∙ x.enters.is),
            );
            same = tt;
            name = [];
            ran = ap (ender_after old.source (ender (fetch code.words) old.source 0) [] [] old.drawn)
                (ap (λ i. entered (fetch code.words code.entry) code.entry code.calls i s) none ∙ x.enters.is);
            others = [];
            broken = broken_same code.words ending.Turns k new x.enters.machine [] [] e f g x.broken;
          }
