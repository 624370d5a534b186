-- A round of a watched run: what is logged after its stint is what its process has left in the memory where it arrived.
use Rattle.std.proofs.Common.{◌≡◌, ℕ, ◌-◌, ◌≤◌, false, if◌then◌else◌, List, [], ◌∷◌, ◌++◌, Option, Some, None, refl, sym, ap, ◌∙◌, subst, arith}
use Rattle.std.proofs.Common.{append-nil}
use Rattle.edi_calls.specs.declared.ends.Outside.{Outside}
use Rattle.edi_calls.specs.Ends.{IsUsed}
use Rattle.edi_calls.specs.Names.{Name, find}
use Rattle.edi_calls.specs.Outcome as outcome
use Rattle.edi_calls.specs.Ready.{take_next}
use Rattle.edi_calls.specs.State.{State}
use Rattle.edi_trace.specs.Drawn.{Drawn}
use Rattle.edi_unit.specs.Tree.{ProgramUnit}
use Rattle.edi_target.specs.Check.{CodeParts}
use Rattle.edi_target.specs.Fetch.{fetch}
use Rattle.edi_target.specs.Mach.{Machine, at_when, activity_of, finished}
use Rattle.edi_target.specs.Arrivals.{Arrived, arrived_in, arrived_at_end}
use Rattle.edi_machine.specs.Activities.{local_of}
use Rattle.edi_scheme.specs.Awaits.{await_address}
use Rattle.edi_scheme.specs.Laws.{parts_of}
use Rattle.edi_scheme.specs.Code.{code_of}
use Rattle.edi_sights.specs.declared.answer.Sight.{Sight}
use Rattle.edi_sights.specs.declared.answer.Sighted.{Sighted}
use Rattle.edi_kernel.specs.declared.ends.Ending.{Ending}
use Rattle.edi_kernel.specs.declared.ends.Ending.TheVariants as ending
use Rattle.edi_kernel.specs.declared.ends.StintEnd.{StintEnd}
use Rattle.edi_kernel.specs.declared.ends.StintEnd.TheVariants as stint_end
use Rattle.edi_kernel.specs.declared.state.KernelState.{KernelState}
use Rattle.edi_kernel.specs.declared.table.Table.{Table}
use Rattle.edi_kernel.specs.Kernel.{Holds, EndsAs, EndsRun, BreaksOff, BreaksBy, Switches, StandsArrived, GoesTo, StandsAfter, used_in, ended_by}
use Rattle.edi_kernel.specs.Runs.{IsAt, IsAtBy, Proceeds, RunsAs, FailsIn, FailsInBy, FaultsBy}
use Rattle.edi_kernel.specs.Moments.{moment_at}
use Rattle.edi_debug.specs.stops.Kept.{Kept, after_lines}
use Rattle.edi_debug.specs.stops.Stops.{Watched, line_of, each_in}
use Rattle.edi_debug.specs.stops.Watching.{is_address_here, ordinal_in, slot_lines, sight_lines, point_lines, stop_lines, run_lines, LogsAll}
use Rattle.edi_debug.specs.stops.Underway.{Underway, Going, Ended, Watches}
use Rattle.edi_debug.specs.Looking.{arrived_now, stop_now}
use Rattle.edi_debug.proofs.stops.Meant.{each_append, after_append}
use Rattle.edi_debug.proofs.stops.Stinted.{stint_forks, goes_on, ends_unready, ends_here, breaks_here}

-- ---- lines of one arrival

each_same : {A : Type 0} (f g : A → List (List ℕ)) → ((x : A) → f x ≡ g x) → (xs : List A) → each_in f xs ≡ each_in g xs
each_same f g h [] = refl
each_same f g h (x ∷ xs) = (λ i. h x i ++ each_same f g h xs i)

module _ (unit : ProgramUnit) (bound : ℕ) (y z : Arrived) (memory : y.memory ≡ z.memory) (turns : y.turns ≡ z.turns)
    (base : y.activity.base ≡ z.activity.base) (pc : y.activity.pc ≡ z.activity.pc) where
  slot_alike : (p : Watched) (b : ℕ) (o : Option Sighted) → slot_lines unit bound y p b o ≡ slot_lines unit bound z p b o
  slot_alike p b None = refl
  slot_alike p b (Some s) = (λ i. line_of (bound - turns i) p.line p.name (ordinal_in unit bound (memory i) (base i) b s) ∷ [])

  sight_alike : (p : Watched) (s : Sight) → sight_lines unit bound y p s ≡ sight_lines unit bound z p s
  sight_alike p s = (λ i. if is_address_here (await_address unit s.block s.index) (pc i) then slot_alike p s.block s.slot i else [])

  stops_alike : (points : List Watched) → stop_lines unit bound points y ≡ stop_lines unit bound points z
  stops_alike points =
      each_same (point_lines unit bound y) (point_lines unit bound z)
      (λ p. each_same (sight_lines unit bound y p) (sight_lines unit bound z p) (sight_alike p) p.sights) points

module _ (unit : ProgramUnit) (points : List Watched) (s : State) (bound : ℕ) (first : Drawn) (start : Kept) where
  abbrev Lines : List Arrived → List (List ℕ)
  Lines = run_lines unit bound points

  abbrev Stop : KernelState → List (List ℕ)
  Stop k = stop_now unit bound k.store k.arrived k.used points

  -- ---- what is logged after a stint

  stands_stop : (k : KernelState) (m : Machine) (p : Name) → StandsArrived k m p → m.memory ≡ k.store → m.turns ≡ bound - k.used
      → Stop k ≡ Lines (arrived_in m p (find m.activities p))
  stands_stop k m p a memory turns =
      let now : Arrived = arrived_now k.store a.activity (bound - k.used) in
      let there : Arrived = record { process = p; activity = activity_of (local_of [] a.activity) a.forks at_when; memory = m.memory; turns = m.turns } in
      ap (λ o. stop_now unit bound k.store o k.used points) a.arrival
      ∙ stops_alike unit bound now there (sym memory) (sym turns) refl refl points ∙ sym (append-nil (stop_lines unit bound points there))
      ∙ sym (ap (λ o. Lines (arrived_in m p o)) a.found)

  nobody_stops : (k : KernelState) (ys : List Arrived) → k.arrived ≡ None → ys ≡ [] → Stop k ≡ Lines ys
  nobody_stops k ys e f = ap (λ o. stop_now unit bound k.store o k.used points) e ∙ sym (ap Lines f)

  -- and so what has been logged in all
  logged : (k : KernelState) (before after : Kept) (seen ys : List Arrived) → before ≡ after_lines (Lines seen) start → after ≡ after_lines (Stop k) before →
      Stop k ≡ Lines ys → after ≡ after_lines (Lines (seen ++ ys)) start
  logged k before after seen ys e f g =
      f ∙ ap (λ l. after_lines l before) g ∙ ap (after_lines (Lines ys)) e ∙ sym (after_append (Lines seen) (Lines ys) start)
      ∙ ap (λ l. after_lines l start) (sym (each_append (stop_lines unit bound points) seen ys))

  -- ---- the last stint

  module _ (k : KernelState) (y : State) (now : Drawn) (before after : Kept) (m : Machine) (p : Name) (others : List Name) (seen : List Arrived)
      (u : Underway (fetch (code_of unit)) first.source 0 unit.calls s bound first.drawn m p others now.drawn seen)
      (e : before ≡ after_lines (Lines seen) start) (f : after ≡ after_lines (Stop k) before) (left : ℕ) (turns : left ≡ bound - k.used) (small : k.used ≤ bound)
    where
      ran_as : (x : Ending) → (h : EndsRun (code_of unit) left x k y m p others) → RunsAs (parts_of unit) s bound first x k.store k.used y now
      ran_as x h =
          let r = ends_here (fetch (code_of unit)) first.source 0 unit.calls s bound first.drawn h.steps m p others now.drawn h.end h.machine seen u h.is in
          record {
            machine = h.machine;
            end = h.end;
            is = (r.0, r.1);
            same = h.same;
            memory = h.memory;
            system_is = h.system;
            turns = omega (arith, h.turns, turns, small);
          }

      logs_all : (x : Ending) → (h : EndsRun (code_of unit) left x k y m p others) → Stop k ≡ Lines (arrived_at_end h.end h.machine p)
          → LogsAll unit s bound first points start after
      logs_all x h g =
          let r = ends_here (fetch (code_of unit)) first.source 0 unit.calls s bound first.drawn h.steps m p others now.drawn h.end h.machine seen u h.is in
          record {
            ending = h.end;
            machine = h.machine;
            drawn = now.drawn;
            ends = (r.0, r.1);
            logs =
                logged k before after seen (arrived_at_end h.end h.machine p) e f g ∙ ap (λ ys. after_lines (Lines ys) start) (sym r.2);
          }

      -- it does not end with an arrival
      plain_end : (x : outcome.Ending) (t : Machine) → (x ≡ outcome.standstill → ⊥) → arrived_at_end x t p ≡ []
      plain_end outcome.done t h = refl
      plain_end (outcome.halted line) t h = refl
      plain_end (outcome.failed cause line) t h = refl
      plain_end outcome.turns t h = refl
      plain_end (outcome.bad at) t h = refl
      plain_end outcome.standstill t h = absurd (h refl)

      over_plainly : (x : Ending) → (h : EndsRun (code_of unit) left x k y m p others) → k.arrived ≡ None → (h.end ≡ outcome.standstill → ⊥)
          → RunsAs (parts_of unit) s bound first x k.store k.used y now × LogsAll unit s bound first points start after
      over_plainly x h none other =
          (ran_as x h, logs_all x h (nobody_stops k (arrived_at_end h.end h.machine p) none (plain_end h.end h.machine other)))

      stood_still : (x : outcome.Ending) → EndsAs x ending.Standstill → x ≡ outcome.standstill
      stood_still outcome.standstill h = refl
      stood_still outcome.done h = absurd h
      stood_still (outcome.halted line) h = absurd h
      stood_still (outcome.failed cause line) h = absurd h
      stood_still outcome.turns h = absurd h
      stood_still (outcome.bad at) h = absurd h

      breaks : (h : BreaksOff (code_of unit) left y m p others) → k.arrived ≡ None → Ended unit points s bound first start ending.Fault k y now after
      breaks h none =
          let r = breaks_here (fetch (code_of unit)) first.source 0 unit.calls s bound first.drawn h.steps m p others now.drawn h.machine seen u h.is in
          let failed : FailsIn (parts_of unit) s bound first k.used y now = record {
            steps = r.0;
            at = moment_at h.machine p others now.drawn;
            is = r.1;
            fails = h.fails;
            drawn = refl;
            turns = omega (arith, h.turns, turns, small);
          } in
          record {
            ran = failed;
            logs = record {
              fails = failed;
              logs =
                  logged k before after seen [] e f (nobody_stops k [] none refl) ∙ ap (λ ys. after_lines (Lines ys) start) (append-nil seen ∙ sym r.2);
            };
          }

      pub over : (x : Ending) (used : ℕ) (taken : Option ℕ) (ready : List ℕ) (t : Table) (full : ℕ) → full - used ≡ left →
          GoesTo (code_of unit) (stint_end.Over used x) full k y m p others → StandsAfter (stint_end.Over used x) taken ready t k.arrived →
          Ended unit points s bound first start x k y now after
      over x used taken ready t full same g stands = by_ending x g stands
        where
          End : Ending → Type 0
          End x = EndsRun (code_of unit) (full - used) x k y m p others

          moved : (x : Ending) → End x → EndsRun (code_of unit) left x k y m p others
          moved x h = subst (λ n. EndsRun (code_of unit) n x k y m p others) same h

          by_ending : (x : Ending) → GoesTo (code_of unit) (stint_end.Over used x) full k y m p others → StandsAfter (stint_end.Over used x) taken ready t k.arrived →
              Ended unit points s bound first start x k y now after
          by_ending ending.Done g st =
              let h = moved ending.Done g in
              let r = over_plainly ending.Done h st (λ i. subst (λ z. EndsAs z ending.Done) i h.same) in record { ran = r.0; logs = r.1 }
          by_ending (ending.Halted line) g st =
              let h = moved (ending.Halted line) g in
              let r = over_plainly (ending.Halted line) h st (λ i. subst (λ z. EndsAs z (ending.Halted line)) i h.same) in record { ran = r.0; logs = r.1 }
          by_ending (ending.Failed cause line) g st =
              let h = moved (ending.Failed cause line) g in
              let r = over_plainly (ending.Failed cause line) h st (λ i. subst (λ z. EndsAs z (ending.Failed cause line)) i h.same) in
              record { ran = r.0; logs = r.1 }
          by_ending ending.Turns g st =
              let h = moved ending.Turns g in
              let r = over_plainly ending.Turns h st (λ i. subst (λ z. EndsAs z ending.Turns) i h.same) in record { ran = r.0; logs = r.1 }
          by_ending (ending.Bad at) g st =
              let h = moved (ending.Bad at) g in
              let r = over_plainly (ending.Bad at) h st (λ i. subst (λ z. EndsAs z (ending.Bad at)) i h.same) in record { ran = r.0; logs = r.1 }
          by_ending ending.Standstill g st =
              let h0 : End ending.Standstill = g.0 in
              let h = moved ending.Standstill h0 in
              let still : h0.end ≡ outcome.standstill = stood_still h0.end h0.same in
              let stop : Stop k ≡ Lines (arrived_at_end h0.end h0.machine p) =
              stands_stop k h0.machine p g.1 g.2 (h0.turns ∙ same ∙ turns) ∙ ap (λ x. Lines (arrived_at_end x h0.machine p)) (sym still) in
              record { ran = ran_as ending.Standstill (fields h0); logs = logs_all ending.Standstill (fields h0) stop }
            where
              fields : End ending.Standstill → EndsRun (code_of unit) left ending.Standstill k y m p others
              fields h = record {
                steps = h.steps;
                machine = h.machine;
                end = h.end;
                is = h.is;
                same = h.same;
                memory = h.memory;
                system = h.system;
                turns = h.turns ∙ same;
              }
          by_ending ending.Fault g st = breaks (subst (λ n. BreaksOff (code_of unit) n y m p others) same g) st

  -- ---- a stint that switches

  module _ (k next : KernelState) (y : State) (now later : Drawn) (before after : Kept) (m : Machine) (p : Name) (others : List Name) (seen : List Arrived)
      (u : Underway (fetch (code_of unit)) first.source 0 unit.calls s bound first.drawn m p others now.drawn seen)
      (e : before ≡ after_lines (Lines seen) start) (f : after ≡ after_lines (Stop k) before) (left : ℕ) (turns : left ≡ bound - k.used)
      (source : first.source ≡ now.source) (used : next.used ≡ k.used) (small : k.used ≤ bound) (entering : next.entering ≡ false) where
    pub switched_on : (h : Switches (code_of unit) left k y m p others) → Stop k ≡ Lines (arrived_in h.machine p (find h.machine.activities p)) →
        (result : Option Ending) → Proceeds result next h.machine now later (others ++ h.joined) → Watches unit points s bound first start result next y later after
    switched_on h g None c = record {
      machine = h.machine;
      name = c.name;
      others = c.others;
      seen = seen ++ arrived_in h.machine p (find h.machine.activities p);
      at = subst (λ t. IsAtBy t (parts_of unit) next y (bound - next.used) h.machine c.name c.others) (sym entering)
          (c.holds, h.system, h.turns ∙ turns ∙ ap (λ n. bound - n) (sym used));
      underway =
          goes_on (fetch (code_of unit)) first.source 0 unit.calls s bound first.drawn h.steps m p c.name others c.others h.joined now.drawn later.drawn h.machine
          seen u h.is (ap (λ z. take_next z now.drawn (others ++ h.joined)) source ∙ c.is);
      logs = logged k before after seen (arrived_in h.machine p (find h.machine.activities p)) e f g;
    }
    switched_on h g (Some ending.Standstill) c =
        let r = ends_unready (fetch (code_of unit)) first.source 0 unit.calls s bound first.drawn h.steps m p others h.joined now.drawn h.machine seen u h.is
        (ap (take_next first.source now.drawn) c.0) in
        let drawn : later.drawn ≡ now.drawn = ap (λ (d : Drawn). d.drawn) c.1 in
        record {
          ran = record {
            machine = h.machine;
            end = outcome.standstill;
            is = (r.0, r.1 ∙ ap (finished outcome.standstill h.machine) (sym drawn));
            same = tt;
            memory = tt;
            system_is = h.system;
            turns = omega (arith, h.turns, turns, small, used);
          };
          logs = record {
            ending = outcome.standstill;
            machine = h.machine;
            drawn = now.drawn;
            ends = (r.0, r.1);
            logs =
                logged k before after seen (arrived_in h.machine p (find h.machine.activities p)) e f g
                ∙ ap (λ ys. after_lines (Lines ys) start) (sym r.2);
          };
        }
    switched_on h g (Some ending.Done) c = absurd c
    switched_on h g (Some (ending.Halted line)) c = absurd c
    switched_on h g (Some (ending.Failed cause line)) c = absurd c
    switched_on h g (Some ending.Turns) c = absurd c
    switched_on h g (Some (ending.Bad at)) c = absurd c
    switched_on h g (Some ending.Fault) c = absurd c

  -- ---- a round

  pub round_over : (end : StintEnd) (x : Ending) (k0 k : KernelState) (at y : State) (now : Drawn) (before after : Kept) (code : CodeParts) (left : ℕ)
      (taken : Option ℕ) (ready : List ℕ) (t : Table) → ended_by end ≡ Some x → code ≡ parts_of unit → left ≡ bound - k0.used →
      left - used_in end ≡ bound - k.used → k.used ≤ bound → after ≡ after_lines (Stop k) before → StandsAfter end taken ready t k.arrived →
      ((m : Machine) (p : Name) (others : List Name) → IsAt code k0 at left m p others → GoesTo code.words end left k y m p others) →
      Going unit points s bound first start k0 at now before → Ended unit points s bound first start x k y now after
  round_over (stint_end.Over used z) x k0 k at y now before after code left taken ready t is same all turns small f stands goes w =
      let one : z ≡ x = (cc) in
      subst (λ e. Ended unit points s bound first start e k y now after) one
      (over k y now before after w.machine w.name w.others w.seen w.underway w.logs f (bound - k.used) refl small z used taken ready t left turns
      (subst (λ (c : CodeParts). GoesTo c.words (stint_end.Over used z) left k y w.machine w.name w.others) same
      (goes w.machine w.name w.others
      (subst (λ n. IsAt code k0 at n w.machine w.name w.others) (sym all)
      (subst (λ (c : CodeParts). IsAt c k0 at (bound - k0.used) w.machine w.name w.others) (sym same) w.at)))) stands)
  round_over (stint_end.Arrived used) x k0 k at y now before after code left taken ready t is same all turns small f stands goes w = absurd (cc)
  round_over (stint_end.Forked used) x k0 k at y now before after code left taken ready t is same all turns small f stands goes w = absurd (cc)
  round_over (stint_end.Exited used) x k0 k at y now before after code left taken ready t is same all turns small f stands goes w = absurd (cc)

  pub round_on : (end : StintEnd) (result : Option Ending) (k0 k next : KernelState) (at y : State) (now later : Drawn) (before after : Kept) (code : CodeParts)
      (left : ℕ) (taken : Option ℕ) (ready : List ℕ) (t : Table) → ended_by end ≡ None → code ≡ parts_of unit → left ≡ bound - k0.used →
      left - used_in end ≡ bound - k.used → k.used ≤ bound → after ≡ after_lines (Stop k) before → StandsAfter end taken ready t k.arrived →
      first.source ≡ now.source → next.used ≡ k.used → next.entering ≡ false →
      ((m : Machine) (ns : List Name) → Holds k m None ns → Proceeds result next m now later ns) →
      ((m : Machine) (p : Name) (others : List Name) → IsAt code k0 at left m p others → GoesTo code.words end left k y m p others) →
      Going unit points s bound first start k0 at now before → Watches unit points s bound first start result next y later after
  round_on end result k0 k next at y now later before after code left taken ready t is same all turns small f stands source used entering proceeds goes w =
      by_end end is turns stands
      (subst (λ (c : CodeParts). GoesTo c.words end left k y w.machine w.name w.others) same
      (goes w.machine w.name w.others
      (subst (λ n. IsAt code k0 at n w.machine w.name w.others) (sym all)
      (subst (λ (c : CodeParts). IsAt c k0 at (bound - k0.used) w.machine w.name w.others) (sym same) w.at))))
    where
      on : (n : ℕ) → left - n ≡ bound - k.used → (h : Switches (code_of unit) (left - n) k y w.machine w.name w.others) →
          Stop k ≡ Lines (arrived_in h.machine w.name (find h.machine.activities w.name)) → Watches unit points s bound first start result next y later after
      on n turns h g =
          switched_on k next y now later before after w.machine w.name w.others w.seen w.underway w.logs f (left - n) turns source used small entering h g result
          (proceeds h.machine (w.others ++ h.joined) h.holds)

      by_end : (end : StintEnd) → ended_by end ≡ None → left - used_in end ≡ bound - k.used → StandsAfter end taken ready t k.arrived →
          GoesTo (code_of unit) end left k y w.machine w.name w.others → Watches unit points s bound first start result next y later after
      by_end (stint_end.Over n x) is turns st g = absurd (cc)
      by_end (stint_end.Arrived n) is turns st g =
          let h : Switches (code_of unit) (left - n) k y w.machine w.name w.others = g.0 in
          let holds = h.holds in
          on n turns h (stands_stop k h.machine w.name g.1 holds.memory (h.turns ∙ turns))
      by_end (stint_end.Forked n) is turns st g =
          let h : Switches (code_of unit) (left - n) k y w.machine w.name w.others = g.0 in
          let fork = g.1 in
          on n turns h
          (nobody_stops k (arrived_in h.machine w.name (find h.machine.activities w.name)) st
          (stint_forks (fetch (code_of unit)) first.source h.steps w.machine w.name w.others h.machine h.joined fork.fork fork.number h.is fork.some fork.are))
      by_end (stint_end.Exited n) is turns st g =
          let h : Switches (code_of unit) (left - n) k y w.machine w.name w.others = g.0 in
          on n turns h (nobody_stops k (arrived_in h.machine w.name (find h.machine.activities w.name)) st (ap (arrived_in h.machine w.name) g.1))

  -- ---- the object that has failed

  -- the call at which the last stint broke off uses it
  breaks_by : (failed : Option Outside → Type 0) (k : KernelState) (y : State) (now : Drawn) (m : Machine) (p : Name) (others : List Name) (seen : List Arrived)
      → Underway (fetch (code_of unit)) first.source 0 unit.calls s bound first.drawn m p others now.drawn seen → k.used ≤ bound
      → (h : BreaksOff (code_of unit) (bound - k.used) y m p others) → IsUsed h.fails.number failed
      → FailsInBy failed (parts_of unit) s bound first k.used y now
  breaks_by failed k y now m p others seen u small h uses =
      let r = breaks_here (fetch (code_of unit)) first.source 0 unit.calls s bound first.drawn h.steps m p others now.drawn h.machine seen u h.is in (
        record {
          steps = r.0;
          at = moment_at h.machine p others now.drawn;
          is = r.1;
          fails = h.fails;
          drawn = refl;
          turns = omega (arith, h.turns, small);
        },
        uses,
      )

  -- the same of any end of a stint
  abbrev Breaks : (failed : Option Outside → Type 0) → (left : ℕ) → State → Machine → Name → List Name → Type 0
  Breaks failed left y m p others = (h : BreaksOff (code_of unit) left y m p others) × IsUsed h.fails.number failed

  ended_by_it : (failed : Option Outside → Type 0) (x : Ending) (used left : ℕ) (k : KernelState) (y : State) (now : Drawn) (m : Machine) (p : Name)
      (others : List Name) (seen : List Arrived)
      → Underway (fetch (code_of unit)) first.source 0 unit.calls s bound first.drawn m p others now.drawn seen → k.used ≤ bound
      → left - used ≡ bound - k.used → BreaksBy failed (code_of unit) (stint_end.Over used x) left y m p others
      → FaultsBy failed (parts_of unit) s bound first x k.used y now
  ended_by_it failed ending.Fault used left k y now m p others seen u small turns g =
      let h : Breaks failed (bound - k.used) y m p others = subst (λ n. Breaks failed n y m p others) turns g in
      breaks_by failed k y now m p others seen u small h.0 h.1
  ended_by_it failed ending.Done used left k y now m p others seen u small turns g = tt
  ended_by_it failed (ending.Halted line) used left k y now m p others seen u small turns g = tt
  ended_by_it failed (ending.Failed cause line) used left k y now m p others seen u small turns g = tt
  ended_by_it failed ending.Turns used left k y now m p others seen u small turns g = tt
  ended_by_it failed ending.Standstill used left k y now m p others seen u small turns g = tt
  ended_by_it failed (ending.Bad at) used left k y now m p others seen u small turns g = tt

  pub round_asks : (failed : Option Outside → Type 0) (end : StintEnd) (x : Ending) (k0 k : KernelState) (at y : State) (now : Drawn) (before : Kept)
      (code : CodeParts) (left : ℕ) → ended_by end ≡ Some x → code ≡ parts_of unit → left ≡ bound - k0.used → left - used_in end ≡ bound - k.used
      → k.used ≤ bound
      → ((m : Machine) (p : Name) (others : List Name) → IsAt code k0 at left m p others → BreaksBy failed code.words end left y m p others)
      → Going unit points s bound first start k0 at now before → FaultsBy failed (parts_of unit) s bound first x k.used y now
  round_asks failed (stint_end.Over used z) x k0 k at y now before code left is same all turns small breaks w =
      let one : z ≡ x = (cc) in
      subst (λ e. FaultsBy failed (parts_of unit) s bound first e k.used y now) one
      (ended_by_it failed z used left k y now w.machine w.name w.others w.seen w.underway small turns
      (subst (λ (c : CodeParts). BreaksBy failed c.words (stint_end.Over used z) left y w.machine w.name w.others) same
      (breaks w.machine w.name w.others
      (subst (λ n. IsAt code k0 at n w.machine w.name w.others) (sym all)
      (subst (λ (c : CodeParts). IsAt c k0 at (bound - k0.used) w.machine w.name w.others) (sym same) w.at)))))
  round_asks failed (stint_end.Arrived used) x k0 k at y now before code left is same all turns small breaks w = absurd (cc)
  round_asks failed (stint_end.Forked used) x k0 k at y now before code left is same all turns small breaks w = absurd (cc)
  round_asks failed (stint_end.Exited used) x k0 k at y now before code left is same all turns small breaks w = absurd (cc)
