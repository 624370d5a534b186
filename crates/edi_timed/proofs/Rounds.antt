-- A round of a timed run: the stint that the timeline gets is the one that has ended on the machine.
use Rattle.std.proofs.Common.{◌≡◌, ◌≤◌, ◌<◌, ℕ, suc, ◌-◌, Bool, true, false, nat_le, if◌then◌else◌, List, [], ◌∷◌, ◌++◌, length, take, drop}
use Rattle.std.proofs.Common.{Option, Some, None, inl, inr, refl, ap, sym, ◌∙◌, subst, arith, append-nil}
use Rattle.std.specs.Prelude.{nat_lt, ◌&&◌, not}
use Rattle.std.specs.Option.{option_map}
use Rattle.std.proofs.lemmas.Bool.{cases_eq, leb-true, leb-false, ne_eqb}
use Rattle.std.proofs.lemmas.List.{length-map}
use Rattle.edi_calls.specs.Names.{Name, find}
use Rattle.edi_calls.specs.Outcome as outcome
use Rattle.edi_calls.specs.Ready.{nobody, take_next}
use Rattle.edi_calls.specs.State.{State}
use Rattle.edi_target.specs.Attempts.{attempt_fails}
use Rattle.edi_target.specs.Check.{CodeParts}
use Rattle.edi_target.specs.Fetch.{fetch}
use Rattle.edi_target.specs.Mach as mach
use Rattle.edi_target.specs.Mach.{Activity, Machine}
use Rattle.edi_trace.specs.Drawn.{Drawn}
use Rattle.edi_ring.specs.Lists.{home_of}
use Rattle.edi_kernel.specs.declared.ends.Ending.{Ending}
use Rattle.edi_kernel.specs.declared.ends.Ending.TheVariants as ending
use Rattle.edi_kernel.specs.declared.ends.StintEnd.{StintEnd}
use Rattle.edi_kernel.specs.declared.ends.StintEnd.TheVariants as stint_end
use Rattle.edi_kernel.specs.declared.state.KernelState.{KernelState}
use Rattle.edi_kernel.specs.declared.table.Process.{Process}
use Rattle.edi_kernel.specs.declared.table.Standing.{Standing}
use Rattle.edi_kernel.specs.declared.table.Standing.TheVariants as standing
use Rattle.edi_kernel.specs.Table.{is_free_home, is_live, process_at, ready_slots}
use Rattle.edi_kernel.specs.TableIsMachine.{IsTaken, Naming, TableIsMachine, entry_of, standing_of}
use Rattle.edi_kernel.specs.Kernel.{IsKernel, IsTakenIn, EndsAs, EndsRun, BreaksOff, Switches, GoesTo, ended_by}
use Rattle.edi_kernel.specs.Named.{ChoosesBy, EndsBy, SlotsStay}
use Rattle.edi_kernel.specs.Moments.{moment_at}
use Rattle.edi_kernel.specs.Runs.{Chooses, IsAtBy, RunsAs, TakesNext}
use Rattle.edi_kernel.proofs.Lists.{live_of_home}
use Rattle.edi_kernel.proofs.Slots.{listed, listed_below}
use Rattle.edi_timeline.specs.Stints.{Stint, Start, End, arrives, waits, tries, over, ending_by}
use Rattle.edi_timeline.specs.Text.{kept}
use Rattle.edi_timeline.specs.Told.{meant}
use Rattle.edi_timeline.specs.Timelines.{Told, told_of}
use Rattle.edi_timeline.specs.declared.entry.Said.{Said}
use Rattle.edi_timeline.specs.Adding.{added, counted, end_of, is_at, said_in, start_after, stint_after, used_by}
use Rattle.edi_timeline.proofs.Telling.{told_adds, told_counts}
use Rattle.edi_waits.specs.Places.{place}
use Rattle.edi_timed.specs.declared.seats.Seated.{Seated}
use Rattle.edi_timed.specs.declared.leaving.Begun.{Begun}
use Rattle.edi_timed.specs.Hearing.{HasShown}
use Rattle.edi_timed.specs.Ran.{Open, closed, end_in, is_marked, is_spot, left_as, opened, spot_as, spot_of, start_in, with_closed}
use Rattle.edi_timed.specs.Seats.{Fits, seat_at}
use Rattle.edi_timed.specs.Leaving.{AddsBy, AddsStint, Begins, ending_at, left_at, spot_by, spot_in}
use Rattle.edi_timed.specs.Timed.{HasStints, Timed}
use Rattle.edi_timed.specs.Underway.{AreSeated, AreUnborn, Going, Sits}
use Rattle.edi_timed.proofs.Along.{goes_on, ends_unready, ends_here, breaks_here}
use Rattle.edi_timed.proofs.Hearing.{of_the_first}
use Rattle.edi_timed.proofs.Newest.{told_last, used_more, one_longer}

-- ---- endings

pub meant_is : (x : outcome.Ending) (e : Ending) → EndsAs x e → meant e ≡ x
meant_is outcome.done ending.Done h = refl
meant_is outcome.done e h = absurd h
meant_is (outcome.halted line) (ending.Halted at) h = ap outcome.halted h
meant_is (outcome.halted line) e h = absurd h
meant_is (outcome.failed cause line) (ending.Failed c at) h = λ i. outcome.failed (h.0 i) (h.1 i)
meant_is (outcome.failed cause line) e h = absurd h
meant_is outcome.turns ending.Turns h = refl
meant_is outcome.turns e h = absurd h
meant_is outcome.standstill ending.Standstill h = refl
meant_is outcome.standstill e h = absurd h
meant_is (outcome.bad address) (ending.Bad at) h = ap outcome.bad h
meant_is (outcome.bad address) e h = absurd h

-- ---- a stint that gives way has not ended the run

arrival_goes : (a b : Bool) (lines : List ℕ) → ending_by (if a then (if b then waits else tries) else arrives lines) ≡ None
arrival_goes true true lines = refl
arrival_goes true false lines = refl
arrival_goes false b lines = refl

end_goes : (words : List ℕ) (failed : Bool) (from : Start) (b : Open) (m : Machine) (o : Option Activity) → ending_by (end_in words failed from b m o) ≡ None
end_goes words failed from b m None = refl
end_goes words failed from b m (Some a) = by_standing a.standing
  where
    by_standing : (z : mach.Standing) → ending_by (left_as words failed from b m a z) ≡ None
    by_standing mach.at_when =
        arrival_goes (failed && (is_at from && is_spot b.stood a.base a.pc)) (is_marked m.marks) (place words m.memory a.first a.base a.pc)
    by_standing (mach.waiting n) = refl
    by_standing mach.ready = refl

-- ---- where a process stood

spot_same : (a : Activity) (p : Process) (s : Standing) → a.base ≡ p.activity.base → a.pc ≡ p.activity.pc → spot_as a (standing_of s) ≡ spot_by s p.activity
spot_same a p standing.Ready e f = refl
spot_same a p standing.AtWhen e f = (λ i. Some (e i, f i))
spot_same a p (standing.Waiting n) e f = refl

-- ---- who lives after a choice lived before it

pub chosen_lives : (old new : KernelState) (before after : Drawn) → IsKernel old → TakesNext old new before after → SlotsStay old.table new.table
chosen_lives old new before after kernel w i l = elim (cases_eq i w.slot) [
  | inl e ↦ subst (λ j. is_live old.table j ≡ true) (sym e)
      (live_of_home old.table w.slot (listed_below old.table.lists 0 w.index w.slot kernel.table.sound w.at)
      (ap is_free_home (listed old.table.lists 0 w.index w.slot kernel.table.sound (omega arith) w.at)))
  | inr ne ↦ ap (λ h. nat_lt i 32 && not (is_free_home h))
      (sym (w.withdrawn.homes i ∙ ap (λ b. if b then None else home_of old.table.lists i) (ne_eqb i w.slot ne))) ∙ l
]

-- ---- a stint

-- what is known of a stint, and of the seats and the timeline before it
pub record HasGone (code : CodeParts) (s : State) (bound : ℕ) (first : Drawn) (old k : KernelState) (x y : State) (now : Drawn) (begun : Begun) (said : Said)
    (seats : List Seated) (told : Told) : Type 0 where
  pub w : Going code s bound first old x now seats told
  pub begins : Begins old begun
  pub old_kernel : IsKernel old
  pub kernel : IsKernel k
  pub within : old.used ≤ bound
  pub small : k.used ≤ bound
  pub start : Said
  pub nothing : said_in start ≡ []
  pub few : said.many ≤ 7
  pub fits : Fits seats told
  pub same_source : first.source ≡ now.source

module _ (code : CodeParts) (s : State) (bound : ℕ) (first : Drawn) (old k : KernelState) (x y : State) (now : Drawn) (begun : Begun) (said : Said)
    (seats after : List Seated) (told later : Told) (f : HasGone code s bound first old k x y now begun said seats told) where
  abbrev w : Going code s bound first old x now seats told
  w = f.w

  abbrev m : Machine
  m = w.machine

  abbrev p : Name
  p = w.name

  abbrev xs : List Stint
  xs = w.stints

  abbrev pub Own : Seated
  Own = seat_at seats begun.slot

  abbrev pub Closed : End → Machine → Stint
  Closed e t = closed bound w.begun xs e t.turns t.system.shown

  abbrev All : End → Machine → List Stint
  All e t = with_closed code.words first.source bound w.begun xs e t

  pub live : is_live old.table begun.slot ≡ true
  live =
      let taken : IsTaken old.table begun.slot = subst (IsTakenIn old.table) f.begins.taken f.old_kernel.taken in
      live_of_home old.table begun.slot f.begins.inside (ap is_free_home taken.homeless)

  pub table : TableIsMachine old.table w.naming m
  table = let holds = w.by.holds in subst (λ n. TableIsMachine old.table n m) w.by.by holds.stands

  pub name_is : p ≡ w.naming.name begun.slot
  name_is =
      let holds = w.by.holds in
      some (holds.is_taken ∙ ap (option_map holds.naming.name) f.begins.taken) ∙ ap (λ (n : Naming). n.name begun.slot) w.by.by
    where
      some : {a b : Name} → Some a ≡ Some b → a ≡ b
      some e = cc

  pub process_is : (e : End) (t : Machine) → (Closed e t).process ≡ w.naming.name begun.slot
  process_is e t = w.has_begun.process ∙ name_is

  pub count_is : told.count ≡ length xs
  count_is = ap (λ (t : Told). t.count) w.told_is

  pub sits : length xs < 100000 → Sits xs p (w.naming.forks begun.slot) Own
  sits l = subst (λ q. Sits xs q (w.naming.forks begun.slot) Own) (sym name_is) (w.seated l begun.slot live)

  pub stood_is : is_at (start_in xs p) ≡ true → spot_in begun.stood ≡ w.begun.stood
  stood_is h =
      let process : Process = process_at old.table begun.slot in
      let a : Activity = entry_of process (w.naming.forks begun.slot) in
      f.begins.stood
      ∙ sym (spot_same a process process.standing refl refl)
      ∙ sym (ap spot_of (ap (find m.activities) name_is ∙ table.found begun.slot live))
      ∙ sym (w.has_begun.stood h)

  -- ---- what is told then

  -- the timeline gets it, with what was heard in it, where there is room for it
  abbrev pub AddsHeard : StintEnd → Type 0
  AddsHeard end =
      AddsBy (nat_le 100000 told.count) code.words k begun end said seats after told later × (nat_le 100000 told.count ≡ false → HasShown f.start said x y)

  shown_is : (t : Machine) → HasShown f.start said x y → t.system ≡ y → take 7 (said_in said) ≡ take 7 (drop w.begun.shown t.system.shown)
  shown_is t heard is =
      let more : List ℕ = heard.0 in
      let said_is : said_in said ≡ take 7 more = heard.2 ∙ ap (λ c. take 7 (c ++ more)) f.nothing in
      let twice : take 7 (take 7 more) ≡ take 7 more =
      ap (take 7) (sym (append-nil (take 7 more))) ∙ of_the_first 7 more [] ∙ ap (take 7) (append-nil more) in
      let dropped : drop w.begun.shown t.system.shown ≡ more =
      (λ i. drop (w.has_begun.shown i) ((ap (λ (z : State). z.shown) is ∙ heard.1) i)) ∙ behind x.shown more in
      ap (take 7) said_is ∙ twice ∙ ap (take 7) (sym dropped)
    where
      behind : (front rest : List ℕ) → drop (length front) (front ++ rest) ≡ rest
      behind [] [] = refl
      behind [] (c ∷ rest) = refl
      behind (c ∷ front) rest = behind front rest

  module _ (e : End) (t : Machine) (end : StintEnd) (left : length xs < 100000 → left_at code.words k Own.stands begun end ≡ e)
      (how : ending_at end ≡ ending_by e) (system : t.system ≡ y) (turns : t.turns ≡ bound - k.used) where
    kept_is : length xs < 100000 → HasShown f.start said x y → (a : AddsStint code.words k begun end said seats after told later) →
        kept (stint_after xs Own.seat (end_of a.came) k.used (said_in said)) ≡ kept (Closed e t)
    kept_is l heard a =
        let h : Sits xs p (w.naming.forks begun.slot) Own = sits l in
        let first_is : suc (used_by 0 xs) ≡ suc (bound - w.begun.turns) = omega (arith, w.used, w.has_begun.turns, f.within) in
        let last_is : k.used ≡ bound - t.turns = omega (arith, turns, f.small) in
        λ i. record {
          process = (h.named ∙ sym w.has_begun.process) i;
          first = first_is i;
          last = last_is i;
          from = (ap start_after h.before ∙ ap (start_in xs) (sym w.has_begun.process)) i;
          end = (a.is ∙ left l) i;
          shown = shown_is t heard system i;
        }

    pub told_now : AddsHeard end → later ≡ told_of (All e t)
    told_now adds = go (nat_le 100000 told.count) refl adds.0
      where
        go : (full : Bool) → nat_le 100000 told.count ≡ full → AddsBy full code.words k begun end said seats after told later → later ≡ told_of (All e t)
        go true is a =
            a ∙ (λ i. counted (w.told_is i) (how i)) ∙ told_counts xs (Closed e t) (omega (arith, leb-true 100000 told.count is, count_is))
        go false is a =
            let l : length xs < 100000 = omega (arith, leb-false 100000 told.count is, count_is) in
            let seat_is : later ≡ added (told_of xs) Own.seat a.came k.used said = a.told ∙ ap (λ o. added o Own.seat a.came k.used said) w.told_is in
            seat_is ∙ told_adds xs Own.seat a.came k.used said l f.few
            ∙ told_last xs (stint_after xs Own.seat (end_of a.came) k.used (said_in said)) (Closed e t) l (kept_is l (adds.1 is) a)

  -- ---- a stint that ends the run

  module _ (left : ℕ) (turns : left ≡ bound - k.used) where
    timed_as : (e : Ending) → (h : EndsRun code.words left e k y m p w.others) → later ≡ told_of (All (over h.end) h.machine) →
        RunsAs code s bound first e k.store k.used y now × HasStints code s bound first later
    timed_as e h told_is =
        let r = ends_here code first.source bound s first.drawn h.steps m p w.others now.drawn w.begun xs h.end h.machine w.underway h.is in (
          record {
            machine = h.machine;
            end = h.end;
            is = (r.0, r.1);
            same = h.same;
            memory = h.memory;
            system_is = h.system;
            turns = omega (arith, h.turns, turns, f.small);
          },
          record {
            end = h.end;
            machine = h.machine;
            drawn = now.drawn;
            ends = (r.0, r.1);
            stints = told_is ∙ ap told_of (sym r.2);
          },
        )

    told_over : (e : Ending) (used : ℕ) → (h : EndsRun code.words left e k y m p w.others) →
        AddsHeard (stint_end.Over used e) → later ≡ told_of (All (over h.end) h.machine)
    told_over e used h adds =
        told_now (over h.end) h.machine (stint_end.Over used e) (λ l. ap over (meant_is h.end e h.same)) (ap Some (meant_is h.end e h.same))
        h.system (h.turns ∙ turns) adds

    breaks : BreaksOff code.words left y m p w.others → Timed code s bound first ending.Fault k y now later
    breaks h =
        let r = breaks_here code first.source bound s first.drawn h.steps m p w.others now.drawn w.begun xs h.machine w.underway h.is in
        record {
          ran = record {
            steps = r.0;
            at = moment_at h.machine p w.others now.drawn;
            is = r.1;
            fails = h.fails;
            drawn = refl;
            turns = omega (arith, h.turns, turns, f.small);
          };
          all = λ other. absurd (other refl);
        }

    ends_plainly : (e : Ending) (used : ℕ) → EndsRun code.words left e k y m p w.others →
        AddsHeard (stint_end.Over used e) →
        RunsAs code s bound first e k.store k.used y now × HasStints code s bound first later
    ends_plainly e used h adds = timed_as e h (told_over e used h adds)

  -- so it ends, unless by a fault, where the timeline has got the stint
  pub over_at : (e : Ending) (used full : ℕ) → full - used ≡ bound - k.used → GoesTo code.words (stint_end.Over used e) full k y m p w.others →
      ((e ≡ ending.Fault → ⊥) → AddsHeard (stint_end.Over used e)) →
      Timed code s bound first e k y now later
  over_at ending.Done used full turns g adds =
      let r = ends_plainly (full - used) turns ending.Done used g (adds (λ e. absurd (cc))) in record { ran = r.0; all = λ e. r.1 }
  over_at (ending.Halted line) used full turns g adds =
      let r = ends_plainly (full - used) turns (ending.Halted line) used g (adds (λ e. absurd (cc))) in record { ran = r.0; all = λ e. r.1 }
  over_at (ending.Failed cause line) used full turns g adds =
      let r = ends_plainly (full - used) turns (ending.Failed cause line) used g (adds (λ e. absurd (cc))) in record { ran = r.0; all = λ e. r.1 }
  over_at ending.Turns used full turns g adds =
      let r = ends_plainly (full - used) turns ending.Turns used g (adds (λ e. absurd (cc))) in record { ran = r.0; all = λ e. r.1 }
  over_at (ending.Bad at) used full turns g adds =
      let r = ends_plainly (full - used) turns (ending.Bad at) used g (adds (λ e. absurd (cc))) in record { ran = r.0; all = λ e. r.1 }
  over_at ending.Standstill used full turns g adds =
      let r = ends_plainly (full - used) turns ending.Standstill used g.0 (adds (λ e. absurd (cc))) in record { ran = r.0; all = λ e. r.1 }
  over_at ending.Fault used full turns g adds = breaks (full - used) turns g

  -- ---- a stint that switches

  module _ (left : ℕ) (turns : left ≡ bound - k.used) (h : Switches code.words left k y m p w.others)
      (b : EndsBy code.words k.failed m p w.others h.machine h.joined) where
    abbrev pub fails : Bool
    fails = attempt_fails (fetch code.words) b.before p (find b.before.activities p)

    abbrev pub End_now : End
    End_now = end_in code.words fails (start_in xs p) w.begun h.machine (find h.machine.activities p)

    -- where nobody is ready any more, the run is at a standstill
    pub unready : (used : ℕ) → length (ready_slots k.table) ≡ 0 →
        AddsHeard (stint_end.Over used ending.Standstill) →
        Timed code s bound first ending.Standstill k y now later
    unready used none adds =
        let holds = h.holds in
        let nobody_ready : take_next first.source now.drawn (w.others ++ h.joined) ≡ nobody =
        ap (take_next first.source now.drawn) (empty (w.others ++ h.joined) (omega (arith, ap length holds.is_ready, length-map (ready_slots k.table) holds.naming.name, none))) in
        let r = ends_unready code first.source bound s first.drawn b.steps m b.before h.machine p w.others h.joined now.drawn w.begun xs w.underway b.reached
        b.last nobody_ready in
        let told_is : later ≡ told_of (All (over outcome.standstill) h.machine) =
        told_now (over outcome.standstill) h.machine (stint_end.Over used ending.Standstill) (λ l. refl) refl h.system (h.turns ∙ turns) adds in
        record {
          ran = record {
            machine = h.machine;
            end = outcome.standstill;
            is = (r.0, r.1);
            same = tt;
            memory = tt;
            system_is = h.system;
            turns = omega (arith, h.turns, turns, f.small);
          };
          all = λ other. record {
            end = outcome.standstill;
            machine = h.machine;
            drawn = now.drawn;
            ends = (r.0, r.1);
            stints = told_is ∙ ap told_of (sym r.2);
          };
        }
      where
        empty : (ps : List Name) → length ps ≡ 0 → ps ≡ []
        empty [] e = refl
        empty (q ∷ ps) e = absurd (omega (arith, e))

    -- and else the next goes on
    pub goes_further : (next : KernelState) (drawn : Drawn) (end : StintEnd) → (length xs < 100000 → left_at code.words k Own.stands begun end ≡ End_now) →
        ended_by end ≡ None → AddsHeard end →
        (let holds = h.holds in AreUnborn (xs ++ Closed End_now h.machine ∷ []) k.table holds.naming) →
        (length xs < 100000 → let holds = h.holds in AreSeated (xs ++ Closed End_now h.machine ∷ []) k.table holds.naming after) →
        (let holds = h.holds in ChoosesBy holds.naming next h.machine now drawn (w.others ++ h.joined)) → SlotsStay k.table next.table →
        next.used ≡ k.used → next.entering ≡ false → Going code s bound first next y drawn after later
    goes_further next drawn end left_is gives_way adds unborn seated chooses stay used entering =
        let holds = h.holds in
        let c : Chooses next h.machine now drawn (w.others ++ h.joined) = chooses.0 in
        let ys : List Stint = All End_now h.machine in
        record {
          machine = h.machine;
          name = c.name;
          others = c.others;
          naming = holds.naming;
          stints = ys;
          begun = opened h.machine c.name;
          at = subst (λ t. IsAtBy t code next y (bound - next.used) h.machine c.name c.others) (sym entering)
              (c.holds, h.system, h.turns ∙ turns ∙ ap (λ n. bound - n) (sym used));
          by = record { holds = c.holds; by = chooses.1 };
          underway =
              goes_on code first.source bound s first.drawn b.steps m b.before h.machine p c.name w.others c.others h.joined now.drawn drawn.drawn w.begun xs
              w.underway b.reached b.last (ap (λ z. take_next z now.drawn (w.others ++ h.joined)) f.same_source ∙ c.is);
          has_begun = record {
            process = refl;
            turns = h.turns ∙ turns ∙ ap (λ n. bound - n) (sym used);
            shown = ap (λ (z : State). length z.shown) h.system;
            stood = λ e. refl;
          };
          used = used_more 0 xs (Closed End_now h.machine) ∙ omega (arith, h.turns, turns, used, f.small);
          unborn = λ i l. unborn i (stay i l);
          seated = λ l i live_i. seated (omega (arith, l, one_longer xs (Closed End_now h.machine))) i (stay i live_i);
          told_is =
              told_now End_now h.machine end left_is
              (ap (option_map meant) gives_way
              ∙ sym (end_goes code.words fails (start_in xs p) w.begun h.machine (find h.machine.activities p)))
              h.system (h.turns ∙ turns) adds;
        }
