-- A whole run whose processes are named: its start, and who stands where at its end.
use Rattle.std.proofs.Common.{◌≡◌, ℕ, suc, ◌-◌, ◌<◌, List, [], length, Option, Some, None, refl, sym, ap, subst, ◌∙◌, arith}
use Rattle.std.proofs.Common.{true, false, Result, Ok, Err, IfOk, IfSome}
use Rattle.std.specs.Global.{Vec}
use Rattle.edi_told.specs.Told.{WhereTold}
use Rattle.edi_told.proofs.Told.{WhereTold-map, WhereTold-then}
use Rattle.edi_calls.specs.Names.{Name, same}
use Rattle.edi_calls.specs.Outcome as outcome
use Rattle.edi_calls.specs.Ready.{stays}
use Rattle.edi_calls.specs.State.{State}
use Rattle.edi_target.specs.Check.{CodeParts}
use Rattle.edi_target.specs.Fetch.{fetch}
use Rattle.edi_target.specs.Mach.{Machine, after_step, entered, run, went}
use Rattle.edi_trace.specs.Drawn.{Drawn}
use Rattle.edi_kernel.specs.declared.ends.Ending.{Ending}
use Rattle.edi_kernel.specs.declared.ends.Ending.TheVariants as ending
use Rattle.edi_kernel.specs.declared.state.KernelState.{KernelState}
use Rattle.edi_kernel.specs.Table.{is_free_home, is_live, process_at}
use Rattle.edi_kernel.specs.TableIsMachine.{IsTaken, entry_of}
use Rattle.edi_kernel.specs.Enders.{ender, ender_after, ender_from_start}
use Rattle.edi_kernel.specs.Kernel.{HoldsBroken, IsKernel, IsTakenIn, going_on}
use Rattle.edi_kernel.specs.Moments.{moment, moment_after}
use Rattle.edi_kernel.specs.Runs.{IsAtBy, RunsTo, Started, StandsBroken, StandsIn}
use Rattle.edi_kernel.proofs.Endings.{ends_as}
use Rattle.edi_kernel.proofs.Lists.{live_of_home}
use Rattle.edi_kernel.proofs.Starting.{Enters, NeverGoes, enters, never_goes}
use Rattle.edi_waits.specs.declared.births.Names.{Names}
use Rattle.edi_waits.specs.declared.waits.Wait.{Wait}
use Rattle.edi_waits.specs.Told.{all_of}
use Rattle.edi_waits.specs.Names.{birth_at, no_birth, waiting_below}
use Rattle.edi_waits.specs.Ended.{EndsOr, EndsSo, RanLast}
use Rattle.edi_waits.specs.Ends.{AreAtEnd, AtEnd}
use Rattle.edi_waits.specs.Left.{at_ends}
use Rattle.edi_waits.specs.Runs.{Broke, Comes, EndsNamed, Going, Stands}
use Rattle.edi_waits.specs.Waits.{AreWaiting, EndsOtherwise, StandsSo, Waiting}
use Rattle.edi_waits.proofs.Naming.{first_alone, names_begin}
use Rattle.edi_waits.proofs.Left.{are_at_end}
use Rattle.edi_waits.proofs.Listed.{are_waiting}
use Rattle.edi_waits.proofs.Rounds.{AnyRound}
use Rattle.edi_waits.proofs.Seen.{Sees, sees}

module _ (code : CodeParts) (s : State) (bound : ℕ) (first : Drawn) where
  -- a run that stands still, where these are told
  pub stands_so : (k : KernelState) (now : Drawn) (names : Names) (ws : List Waiting) → Stands code s bound first k now names →
      ws ≡ waiting_below code.words k names 32 → StandsSo code s bound first ws
  stands_so k now names ws h e = record {
    machine = h.machine;
    drawn = now.drawn;
    ends = h.ends;
    waiting = subst (AreWaiting code.words h.machine) (sym e)
        (are_waiting code.words k names h.naming h.machine h.ready k.used h.holds h.named);
  }

  -- ---- the start

  pub begins : (k : KernelState) (names : Names) → Started code k → 0 < bound → length names.births ≡ 32 →
      ((slot : ℕ) → birth_at names slot ≡ no_birth) → Going code s bound first k s first names
  begins k names st some wide none =
      let x : Enters code k s (bound - 1) = enters code k st s (bound - 1) in
      let b : suc (bound - 1) ≡ bound = omega (arith, some) in
      let all : bound - k.used ≡ bound = omega (arith, st.used) in
      let turn : entered (fetch code.words code.entry) code.entry code.calls bound s ≡ went x.machine stays =
      ap (λ i. entered (fetch code.words code.entry) code.entry code.calls i s) (sym b) ∙ x.is in
      record {
        machine = x.machine;
        name = [];
        others = [];
        naming = x.holds.naming;
        comes = λ n r h. (n, ap (after_step first.source (run (fetch code.words) first.source n) [] [] first.drawn) turn ∙ h);
        passes = λ n r h. (n, ap (moment_after first.source (moment (fetch code.words) first.source n) [] [] first.drawn) turn ∙ h);
        at = subst (λ t. IsAtBy t code k s (bound - k.used) x.machine [] []) (sym st.entering)
            (st, ap (λ i. entered (fetch code.words code.entry) code.entry code.calls i s) all ∙ turn, refl, refl);
        holds = record { holds = x.holds; by = refl };
        named = names_begin names x.holds.naming k.table k.used
            (λ i l.
            first_alone (fetch code.words code.entry) code.entry code.calls (bound - 1) s x.machine x.is (x.holds.naming.name i)
            (entry_of (process_at k.table i) (x.holds.naming.forks i)) (x.holds.stands.found i l)) wide none;
      }

  -- no turn is left for the program's entry
  pub begins_never : (k : KernelState) (names : Names) → Started code k → bound ≡ 0 → length names.births ≡ 32 →
      ((slot : ℕ) → birth_at names slot ≡ no_birth) → Broke code s bound first ending.Turns k first names
  begins_never k names st left wide none =
      let x : NeverGoes code k s = never_goes code k st s in
      record {
        machine = x.enters.machine;
        end = outcome.turns;
        name = [];
        others = [];
        ends = (
          0,
          ap (after_step first.source (run (fetch code.words) first.source 0) [] [] first.drawn)
              (ap (λ i. entered (fetch code.words code.entry) code.entry code.calls i s) left ∙ x.enters.is),
        );
        ran = ap (ender_after first.source (ender (fetch code.words) first.source 0) [] [] first.drawn)
            (ap (λ i. entered (fetch code.words code.entry) code.entry code.calls i s) left ∙ x.enters.is);
        same = tt;
        kernel = st.kernel;
        broken = x.broken;
        named = names_begin names x.broken.holds.naming k.table k.used (λ i l. x.named i) wide none;
      }

  -- ---- the end

  -- who is taken lives
  taken_lives : (k : KernelState) → IsKernel k → (slot : ℕ) → k.taken ≡ Some slot → is_live k.table slot ≡ true
  taken_lives k kernel slot e =
      let t : IsTaken k.table slot = subst (IsTakenIn k.table) e kernel.taken in
      live_of_home k.table slot t.inside (ap is_free_home t.homeless)

  ran_last : (end : outcome.Ending) (steps : ℕ) (p : Name) → ender_from_start (fetch code.words) code.entry code.calls s bound first.source first.drawn steps ≡ Some p
      → RanLast code s bound first.source first.drawn steps end p
  ran_last outcome.done steps p e = e
  ran_last (outcome.halted line) steps p e = e
  ran_last (outcome.failed cause line) steps p e = e
  ran_last outcome.turns steps p e = e
  ran_last outcome.standstill steps p e = tt
  ran_last (outcome.bad at) steps p e = e

  broke_so : (e : Ending) (k : KernelState) (now : Drawn) (names : Names) (xs : List AtEnd) → Broke code s bound first e k now names → xs ≡ at_ends k names 32
      → (e ≡ ending.Standstill → ⊥) → EndsSo code s bound first e k.store xs
  broke_so e k now names xs h is not_still =
      let b : HoldsBroken code.words e k h.machine h.name h.others = h.broken in
      let told : Machine = going_on h.machine h.name b.local b.activity.forks in
      let t : Sees code.words h.end h.machine h.name k.store xs = sees code.words h.machine h.name b.activity b.found b.local k.store b.holds.memory xs
      (subst (AreAtEnd told (same h.name)) (sym is)
      (are_at_end k names b.holds.naming told (Some h.name) h.others k.used (record { holds = b.holds; by = refl }) h.named (taken_lives k h.kernel)))
      e h.end not_still (ends_as h.end e h.same) b.goes_on in
      record {
        machine = h.machine;
        drawn = now.drawn;
        end = h.end;
        same = h.same;
        ends = h.ends;
        last = h.name;
        ran_last = ran_last h.end h.ends.0 h.name h.ran;
        seen = t.seen;
        is_seen = t.is_seen;
        memory_is = t.memory_is;
        are = t.are;
      }

  -- a run that has ended, where these are told
  pub ends_so : (e : Ending) (k : KernelState) (now : Drawn) (names : Names) (xs : List AtEnd) → EndsNamed code s bound first e k now names →
      xs ≡ at_ends k names 32 → EndsOr code s bound first e k.store xs
  ends_so ending.Standstill k now names xs h is = record {
    machine = h.machine;
    drawn = now.drawn;
    end = outcome.standstill;
    same = tt;
    ends = h.ends;
    last = [];
    ran_last = tt;
    seen = h.machine;
    is_seen = refl;
    memory_is = h.holds.holds.memory;
    are = subst (AreAtEnd h.machine (λ p. false)) (sym is)
        (are_at_end k names h.naming h.machine None h.ready k.used h.holds h.named (taken_lives k h.kernel));
  }
  ends_so ending.Done k now names xs h is = broke_so ending.Done k now names xs h is (λ e. absurd (cc))
  ends_so (ending.Halted line) k now names xs h is = broke_so (ending.Halted line) k now names xs h is (λ e. absurd (cc))
  ends_so (ending.Failed cause line) k now names xs h is = broke_so (ending.Failed cause line) k now names xs h is (λ e. absurd (cc))
  ends_so ending.Turns k now names xs h is = broke_so ending.Turns k now names xs h is (λ e. absurd (cc))
  ends_so (ending.Bad at) k now names xs h is = broke_so (ending.Bad at) k now names xs h is (λ e. absurd (cc))
  ends_so ending.Fault k now names xs h is = tt

  broken_in : (e : Ending) (k : KernelState) (now : Drawn) (names : Names) → Broke code s bound first e k now names → StandsBroken code s bound first e k now
  broken_in e k now names h = record {
    machine = h.machine;
    end = h.end;
    is = h.ends;
    same = h.same;
    name = h.name;
    ran = h.ran;
    others = h.others;
    broken = h.broken;
  }

  -- the kernel is the machine of the end
  pub stands_in : (e : Ending) (k : KernelState) (now : Drawn) (names : Names) → EndsNamed code s bound first e k now names → StandsIn code s bound first e k now
  stands_in ending.Standstill k now names h = record { machine = h.machine; is = h.ends; ready = h.ready; holds = h.holds.holds }
  stands_in ending.Done k now names h = broken_in ending.Done k now names h
  stands_in (ending.Halted line) k now names h = broken_in (ending.Halted line) k now names h
  stands_in (ending.Failed cause line) k now names h = broken_in (ending.Failed cause line) k now names h
  stands_in ending.Turns k now names h = broken_in ending.Turns k now names h
  stands_in (ending.Bad at) k now names h = broken_in (ending.Bad at) k now names h
  stands_in ending.Fault k now names h = tt

-- ---- a whole run

module _ (code : CodeParts) (bound : ℕ) (first : Drawn) where
  module _ (a b c : Option State) (old new : KernelState) (now later : Drawn) (before after : Names) (source : now.source ≡ first.source) where
    pub goes_more : WhereTold a b (λ s x. Going code s bound first old x now before) → WhereTold b c (AnyRound code bound None old new now later before after) →
        WhereTold a c (λ s x. Going code s bound first new x later after)
    goes_more h g = WhereTold-then _ _ _ a b c (λ s x y w round. round s first (sym source) w) h g

    -- what follows from how the run has come to its end
    module _ (e : Ending) (h : WhereTold a b (λ s x. Going code s bound first old x now before))
        (g : WhereTold b c (AnyRound code bound (Some e) old new now later before after)) where
      ends_out : (P : State → State → Type 0) → ((s y : State) → Comes code s bound first (Some e) new y later after → P s y) → WhereTold a c P
      ends_out P f = WhereTold-then _ _ P a b c (λ s x y w round. f s y (round s first (sym source) w)) h g

      pub ran_out : WhereTold a c (λ s t. RunsTo code s bound first e new.store new.used t later)
      ran_out = ends_out (λ s t. RunsTo code s bound first e new.store new.used t later) (λ s y come. come.0)

      pub stands_out : WhereTold a c (λ s t. StandsIn code s bound first e new later)
      stands_out = ends_out (λ s t. StandsIn code s bound first e new later) (λ s y come. stands_in code s bound first e new later after come.1)

      pub named_out : WhereTold a c (λ s t. EndsNamed code s bound first e new later after)
      named_out = ends_out (λ s t. EndsNamed code s bound first e new later after) (λ s y come. come.1)

  where_same : (o : Option State) (P : State → State → Type 0) → ((s : State) → P s s) → WhereTold o o P
  where_same None P h = tt
  where_same (Some s) P h = h s

  pub told_begins : (o : Option State) (k : KernelState) (names : Names) → Started code k → 0 < bound → length names.births ≡ 32 →
      ((slot : ℕ) → birth_at names slot ≡ no_birth) → WhereTold o o (λ s x. Going code s bound first k x first names)
  told_begins o k names st some wide none =
      where_same o (λ s x. Going code s bound first k x first names) (λ s. begins code s bound first k names st some wide none)

  -- no turn is left for the program's entry
  pub never_named : (o : Option State) (k : KernelState) (names : Names) → Started code k → bound ≡ 0 → length names.births ≡ 32 →
      ((slot : ℕ) → birth_at names slot ≡ no_birth) → WhereTold o o (λ s x. EndsNamed code s bound first ending.Turns k first names)
  never_named o k names st left wide none =
      where_same o (λ s x. EndsNamed code s bound first ending.Turns k first names) (λ s. begins_never code s bound first k names st left wide none)

  -- ---- who waits where

  module _ (o n : Option State) (e : Ending) (k : KernelState) (now : Drawn) (names : Names) where
    abbrev Waits : {E : Type 0} → Result (Option (Vec Wait)) E → (List Waiting → Type 0) → Type 0
    Waits result P = IfOk result (λ found. IfSome found (λ ws. P (all_of ws)))

    abbrev Told : List Waiting → Type 0
    Told ws = (s : State) (bound : ℕ) (old new : Drawn) → EndsNamed code s bound old e k new names → StandsSo code s bound old ws

    pub waits_told : {E : Type 0} (result : Result (Option (Vec Wait)) E) → Waits result Told → WhereTold o n (λ s t. EndsNamed code s bound first e k now names) →
        WhereTold o n (λ s t. Waits result (StandsSo code s bound first))
    waits_told result told h =
        WhereTold-map (λ s t. EndsNamed code s bound first e k now names) (λ s t. Waits result (StandsSo code s bound first)) o n
        (λ s t named. each s named result told) h
      where
        each : {E : Type 0} (s : State) → EndsNamed code s bound first e k now names → (result : Result (Option (Vec Wait)) E) → Waits result Told →
            Waits result (StandsSo code s bound first)
        each s named (Err x) told = tt
        each s named (Ok None) told = tt
        each s named (Ok (Some ws)) told = told s bound first now named

    pub none_told : {E : Type 0} (result : Result (Option (Vec Wait)) E) → IfOk result (λ found. found ≡ None → e ≡ ending.Standstill → ⊥) →
        WhereTold o n (λ s t. RunsTo code s bound first e k.store k.used t now) →
        WhereTold o n (λ s t. IfOk result (λ found. found ≡ None → EndsOtherwise code s bound first k t now))
    none_told result told h =
        WhereTold-map (λ s t. RunsTo code s bound first e k.store k.used t now)
        (λ s t. IfOk result (λ found. found ≡ None → EndsOtherwise code s bound first k t now)) o n (λ s t ran. each s t ran result told) h
      where
        each : {E : Type 0} (s t : State) → RunsTo code s bound first e k.store k.used t now → (result : Result (Option (Vec Wait)) E) →
            IfOk result (λ found. found ≡ None → e ≡ ending.Standstill → ⊥) →
            IfOk result (λ found. found ≡ None → EndsOtherwise code s bound first k t now)
        each s t ran (Err x) told = tt
        each s t ran (Ok found) told = λ none. record { how = e; ran = ran; other = told none }
