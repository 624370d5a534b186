-- The arrivals of a selection and those of the run of its code are the same, one after another.
use Rattle.std.proofs.Common.{◌≡◌, ℕ, zero, suc, inl, Bool, true, false, ◌||◌, if◌then◌else◌, List, [], ◌∷◌, ◌++◌, ◌+◌, Option, Some, None, refl, sym, subst, ap, ◌∙◌}
use Rattle.edi_calls.specs.Choice.{Choices}
use Rattle.edi_calls.specs.Names.{Name, find}
use Rattle.edi_calls.specs.Outcome as outcome
use Rattle.edi_calls.specs.Outcome.{Ending}
use Rattle.edi_calls.proofs.Tables.{same-refl}
use Rattle.edi_calls.specs.Ready.{has, Next, stays, joins, Taking, nobody, taking, take_next}
use Rattle.edi_calls.specs.State.{State, Traced}
use Rattle.edi_meaning.specs.Store.{shape}
use Rattle.edi_meaning.specs.Step as source
use Rattle.edi_meaning.specs.Permitted as permitted
use Rattle.edi_meaning.specs.Step.{Process, Processes, Standing, ready, at_when, waiting}
use Rattle.edi_meaning.specs.Select as selection
use Rattle.edi_meaning.specs.Select.{finished, marked, is_standstill, select}
use Rattle.edi_meaning.proofs.Kernel.{After}
use Rattle.edi_meaning.proofs.Dangling.{Coherent}
use Rattle.edi_meaning.proofs.Lasting.{IsOwn}
use Rattle.edi_meaning.proofs.Sound.{EachTaken, each_next}
use Rattle.edi_meaning.proofs.Selections.{same_ending, same_drawn, stepped_before}
use Rattle.edi_meaning.proofs.Work.{Falls, standing_size, work_size, step_falls}
use Rattle.edi_target.specs.Mach as target
use Rattle.edi_target.specs.Mach.{Activity, Machine}
use Rattle.edi_follows.specs.places.Coded.{Coded}
use Rattle.edi_follows.specs.places.Related.{standing_of, activity, IsPlaced, Related, MayStep}
use Rattle.edi_follows.specs.places.Lands.{step, Passes, EndsSo, LandsNext, LandsTested, Lands, Taken, StepClaim, StepsCohere, QueueAfter, StepsQueue, StartClaim}
use Rattle.edi_follows.specs.places.Lands.{Begins, BeginsNot}
use Rattle.edi_meaning.specs.Arrivals.{Arrival, arrival_as, arrival_of, arrival_after, arrivals}
use Rattle.edi_meaning.specs.Arrivals as meant
use Rattle.edi_target.specs.Arrivals.{Arrived, arrived_as, arrived_in, arrived_at_end, arrived_after, arrived_on, arrived_next, arrived, arrived_from_start}
use Rattle.edi_meaning.proofs.Arrivals.{step_stays_ready}
use Rattle.edi_target.proofs.Arrivals.{stays_ready}
use Rattle.edi_follows.specs.Arrivals.{AreAlike}
use Rattle.edi_follows.proofs.Arrived.{none_by_names, alike_here}

alike_append : (unit : _) (xs vs : List Arrival) (ys ws : List Arrived) → AreAlike unit xs ys → AreAlike unit vs ws → AreAlike unit (xs ++ vs) (ys ++ ws)
alike_append unit [] vs [] ws h k = k
alike_append unit [] vs (y ∷ ys) ws h k = absurd h
alike_append unit (x ∷ xs) vs [] ws h k = absurd h
alike_append unit (x ∷ xs) vs (y ∷ ys) ws h k = (h.0, alike_append unit xs vs ys ws h.1 k)

-- who does not stand at a `when` on one side does not on the other
alike_there : (g : Coded) (s : Processes) (t : Machine) → Coherent s → Related g s t → (p : Name) →
    AreAlike g.unit (arrival_of p s.world (find s.live p)) (arrived_in t p (find t.activities p))
alike_there g s t coherent r p = of_found (find s.live p) refl
  where
    of_found : (o : Option Process) → find s.live p ≡ o → AreAlike g.unit (arrival_of p s.world (find s.live p)) (arrived_in t p (find t.activities p))
    of_found None e =
        subst (λ o. AreAlike g.unit (arrival_of p s.world o) (arrived_in t p (find t.activities p))) (sym e)
        (subst (λ o. AreAlike g.unit [] (arrived_in t p o)) (sym (none_by_names t.activities s.live p r.same_names e)) tt)
    of_found (Some q) e = of_standing q.standing refl
      where
        placed : IsPlaced g r.first (shape s.world.store) t.memory t.activities p q
        placed = r.words.each p q e

        rests : (st : Standing) → q.standing ≡ st → AreAlike g.unit (arrival_as p s.world st)
            (arrived_as t p (activity g r.first (shape s.world.store) p q placed.pc) (standing_of st)) →
            AreAlike g.unit (arrival_of p s.world (find s.live p)) (arrived_in t p (find t.activities p))
        rests st f h =
            subst (λ o. AreAlike g.unit (arrival_of p s.world o) (arrived_in t p (find t.activities p))) (sym e)
            (subst (λ o. AreAlike g.unit (arrival_of p s.world (Some q)) (arrived_in t p o)) (sym placed.found)
            (subst (λ z. AreAlike g.unit (arrival_as p s.world z) (arrived_as t p (activity g r.first (shape s.world.store) p q placed.pc) (standing_of z))) (sym f) h))

        of_standing : (st : Standing) → q.standing ≡ st → AreAlike g.unit (arrival_of p s.world (find s.live p)) (arrived_in t p (find t.activities p))
        of_standing ready f = rests ready f tt
        of_standing (waiting n) f = rests (waiting n) f tt
        of_standing (at_when cs position) f = alike_here g s t coherent r p q cs position e f

-- a run that ends otherwise than at a standstill does not arrive at its end
none_at_end : (e : Ending) (m : Machine) (p : Name) → IsOwn e → arrived_at_end e m p ≡ []
none_at_end outcome.done m p h = refl
none_at_end (outcome.halted line) m p h = refl
none_at_end (outcome.failed c line) m p h = refl
none_at_end outcome.turns m p h = refl
none_at_end outcome.standstill m p h = absurd h
none_at_end (outcome.bad address) m p h = refl

abbrev none : ℕ → Type 0
none a = ⊥

module _ (g : Coded) (claim : StepClaim g) (cohere : StepsCohere) (queues : StepsQueue) (choices : Choices) where
  abbrev Run : ℕ → Machine → Name → List Name → ℕ → target.MachineRun
  Run j t p others drawn = target.run g.fetched choices j t p others drawn

  abbrev Seen : ℕ → Machine → Name → List Name → ℕ → List Arrived
  Seen j t p others drawn = arrived g.fetched choices j t p others drawn

  -- the run from here ends so, with arrivals that are these
  pub record Arrives (t : Machine) (p : Name) (others : List Name) (drawn : ℕ) (ending : Ending) (d : ℕ) (xs : List Arrival) : Type 0 where
    pub steps : ℕ
    pub machine : Machine
    pub ends : Run steps t p others drawn ≡ target.finished ending machine d
    pub alike : AreAlike g.unit xs (Seen steps t p others drawn)

  -- an instruction with which p goes on is none of these
  one_before : (t v : Machine) (p : Name) (others : List Name) (drawn : ℕ) (ending : Ending) (d : ℕ) (xs : List Arrival) →
      step g t p others ≡ target.went v stays → Arrives v p others drawn ending d xs → Arrives t p others drawn ending d xs
  one_before t v p others drawn ending d xs e h = record {
    steps = suc h.steps;
    machine = h.machine;
    ends = ap (target.after_step choices (target.run g.fetched choices h.steps) p others drawn) e ∙ h.ends;
    alike = subst (AreAlike g.unit xs) (sym (seen ∙ ap (λ l. l ++ Seen h.steps v p others drawn) (stays_ready p others g.fetched t v e))) h.alike;
  }
    where
      seen : Seen (suc h.steps) t p others drawn ≡ arrived_in v p (find v.activities p) ++ Seen h.steps v p others drawn
      seen = ap (λ x. arrived_after p x ++ arrived_next choices (arrived g.fetched choices h.steps) p others drawn x) e

  passes_arrive : (k : ℕ) (t : Machine) (past : List State) (p : Name) (others : List Name) (u : Machine) (now : List State) (drawn : ℕ) (ending : Ending)
      (d : ℕ) (xs : List Arrival) →
      Passes g none k t past p others u now → Arrives u p others drawn ending d xs → Arrives t p others drawn ending d xs
  passes_arrive zero t past p others u now drawn ending d xs h a = subst (λ z. Arrives z p others drawn ending d xs) (sym h.0) a
  passes_arrive (suc k) t past p others u now drawn ending d xs h a =
      one_before t h.0 p others drawn ending d xs h.1 (passes_arrive k h.0 _ p others u now drawn ending d xs h.3 a)

  -- at most n steps of the meaning
  abbrev Main : ℕ → Type 0
  Main n =
      (s : Processes) (t : Machine) (p : Name) (others marks : List Name) (drawn : ℕ) → Taken g s t p others marks →
      (ending : Ending) (end : Traced) (turns d : ℕ) (order : List Name) → select g.unit choices n s marks p others drawn ≡ finished ending end turns d order →
      Arrives t p others drawn ending d (arrivals g.unit order s)

  -- the last instruction of a step ends the run
  ends_here : (t : Machine) (past : List State) (p : Name) (others : List Name) (drawn c d : ℕ) (ending x : Ending) (system : Traced) (turns : ℕ)
      (xs : List Arrival) (h : EndsSo g none t past p others ending system turns) →
      ending ≡ x → drawn ≡ d → AreAlike g.unit xs (arrived_at_end ending h.machine p) → Arrives t p others drawn x d xs
  ends_here t past p others drawn c d ending x system turns xs h e f alike =
      passes_arrive h.steps t past p others h.before h.since drawn x d xs h.passes (record {
        steps = 1;
        machine = h.machine;
        ends = ap (target.after_step choices (target.run g.fetched choices 0) p others drawn) h.is ∙ (λ i. target.finished (e i) h.machine (f i));
        alike = subst (AreAlike g.unit xs) (sym (seen ∙ nothing_behind (arrived_at_end ending h.machine p))) alike;
      })
    where
      seen : Seen 1 h.before p others drawn ≡ arrived_at_end ending h.machine p ++ []
      seen = ap (λ z. arrived_after p z ++ arrived_next choices (arrived g.fetched choices 0) p others drawn z) h.is

      nothing_behind : (ys : List Arrived) → ys ++ [] ≡ ys
      nothing_behind [] = refl
      nothing_behind (y ∷ ys) = ap (λ l. y ∷ l) (nothing_behind ys)

  module _ (n : ℕ) (main : Main n) (t : Machine) (past : List State) (p : Name) (others marks : List Name) (drawn : ℕ) (ending : Ending) (end : Traced)
      (turns d : ℕ) (order : List Name) where
    abbrev Behind : Processes → List Arrival
    Behind s = arrival_of p s.world (find s.live p) ++ arrivals g.unit order s

    next_arrives : (s : Processes) (next : Next) (quiet : Bool) → LandsNext g none t past p others marks s next →
        QueueAfter p others (source.went s next quiet) → Coherent s → (next ≡ stays → arrival_of p s.world (find s.live p) ≡ []) →
        selection.after_next choices (select g.unit choices n s marks) s p others drawn next ≡ finished ending end turns d order →
        Arrives t p others drawn ending d (Behind s)
    next_arrives s stays quiet h q coherent never e =
        subst (Arrives t p others drawn ending d) (ap (λ l. l ++ arrivals g.unit order s) (sym (never refl)))
        (passes_arrive h.steps t past p others h.machine s.world.system.past drawn ending d (arrivals g.unit order s) h.passes
        (main s h.machine p others marks drawn (record { related = h.related; kept = h.kept; queue = q; marks_agree = h.marks_agree }) ending end turns d
        order e))
    next_arrives s (joins ps) quiet h q coherent never e =
        passes_arrive h.steps t past p others h.before h.since drawn ending d (Behind s) h.passes
        (by (take_next choices drawn (others ++ ps)) refl (each_next (MayStep s) choices drawn (others ++ ps) q) e)
      where
        here : AreAlike g.unit (arrival_of p s.world (find s.live p)) (arrived_in h.machine p (find h.machine.activities p))
        here = alike_there g s h.machine coherent h.related p

        seen : (j : ℕ) (x : Taking) → take_next choices drawn (others ++ ps) ≡ x →
            Seen (suc j) h.before p others drawn ≡ arrived_in h.machine p (find h.machine.activities p) ++ arrived_on x (arrived g.fetched choices j h.machine)
        seen j x is =
            ap (λ z. arrived_after p z ++ arrived_next choices (arrived g.fetched choices j) p others drawn z) h.is
            ∙ ap (λ z. arrived_in h.machine p (find h.machine.activities p) ++ arrived_on z (arrived g.fetched choices j h.machine)) is

        ran : (j : ℕ) (x : Taking) → take_next choices drawn (others ++ ps) ≡ x →
            Run (suc j) h.before p others drawn ≡ target.go_on x (target.run g.fetched choices j h.machine) h.machine drawn
        ran j x is =
            ap (target.after_step choices (target.run g.fetched choices j) p others drawn) h.is
            ∙ ap (λ z. target.go_on z (target.run g.fetched choices j h.machine) h.machine drawn) is

        by : (x : Taking) → take_next choices drawn (others ++ ps) ≡ x → EachTaken (MayStep s) x →
            selection.go_on x (select g.unit choices n s marks) s drawn ≡ finished ending end turns d order → Arrives h.before p others drawn ending d (Behind s)
        by nobody is each f = record {
          steps = 1;
          machine = h.machine;
          ends = ran 0 nobody is ∙ (λ i. target.finished (same_ending f i) h.machine (same_drawn f i));
          alike =
              subst (λ o. AreAlike g.unit (arrival_of p s.world (find s.live p) ++ arrivals g.unit o s) (Seen 1 h.before p others drawn)) (no_order f)
              (subst (AreAlike g.unit (arrival_of p s.world (find s.live p) ++ [])) (sym (seen 0 nobody is))
              (alike_append g.unit (arrival_of p s.world (find s.live p)) [] (arrived_in h.machine p (find h.machine.activities p)) [] here tt));
        }
          where
            no_order : finished outcome.standstill s.world.system s.world.turns drawn [] ≡ finished ending end turns d order → [] ≡ order
            no_order f = cc
        by (taking z os c) is each f =
            let r : Arrives h.machine z os c ending d (arrivals g.unit order s) =
            main s h.machine z os marks c (record { related = h.related; kept = h.kept; queue = each; marks_agree = inl h.same_marks }) ending end turns d
            order f in
            record {
              steps = suc r.steps;
              machine = r.machine;
              ends = ran r.steps (taking z os c) is ∙ r.ends;
              alike =
                  subst (AreAlike g.unit (Behind s)) (sym (seen r.steps (taking z os c) is))
                  (alike_append g.unit (arrival_of p s.world (find s.live p)) (arrivals g.unit order s) (arrived_in h.machine p (find h.machine.activities p))
                  (Seen r.steps h.machine z os c) here r.alike);
            }

    tested_arrives : (b : Bool) (s : Processes) (next : Next) (quiet : Bool) → LandsTested g none b t past p others marks s next →
        QueueAfter p others (source.went s next quiet) → Coherent s → (next ≡ stays → arrival_of p s.world (find s.live p) ≡ []) →
        (if b then finished outcome.standstill s.world.system s.world.turns drawn [] else selection.after_next choices
        (select g.unit choices n s marks) s p others drawn next) ≡ finished ending end turns d order →
        Arrives t p others drawn ending d (Behind s)
    tested_arrives true s next quiet h q coherent never e =
        subst (λ o. Arrives t p others drawn ending d (arrival_of p s.world (find s.live p) ++ arrivals g.unit o s)) (no_order e)
        (ends_here t past p others drawn drawn d outcome.standstill ending s.world.system s.world.turns (arrival_of p s.world (find s.live p) ++ []) h.ends
        (same_ending e) (same_drawn e)
        (subst (λ l. AreAlike g.unit l (arrived_in h.ends.machine p (find h.ends.machine.activities p))) (sym (nothing_behind (arrival_of p s.world (find s.live p))))
        (alike_there g s h.ends.machine coherent h.related p)))
      where
        no_order : finished outcome.standstill s.world.system s.world.turns drawn [] ≡ finished ending end turns d order → [] ≡ order
        no_order f = cc

        nothing_behind : (ys : List Arrival) → ys ++ [] ≡ ys
        nothing_behind [] = refl
        nothing_behind (y ∷ ys) = ap (λ l. y ∷ l) (nothing_behind ys)
    tested_arrives false s next quiet h q coherent never e = next_arrives s next quiet h q coherent never e

  step_arrives : (n : ℕ) → Main n → (s : Processes) (t : Machine) (p : Name) (others marks : List Name) (drawn : ℕ) (ending : Ending) (end : Traced)
      (turns d : ℕ) (order : List Name) (x : source.Stepped) →
      source.step g.unit s p ≡ x → Lands g none t s.world.system.past p others marks x → QueueAfter p others x → After Coherent x →
      (size bound : ℕ) → Falls size bound p x →
      selection.after_step choices (select g.unit choices n) p others marks drawn x ≡ finished ending end turns d order →
      Arrives t p others drawn ending d (arrival_after p x ++ meant.onward x (arrivals g.unit order))
  step_arrives n main s t p others marks drawn ending end turns d order (source.ended e system left) is h q coherent size bound own f =
      ends_here t s.world.system.past p others drawn drawn d e ending system left [] h (same_ending f) (same_drawn f)
      (subst (AreAlike g.unit []) (sym (none_at_end e h.machine p own)) tt)
  step_arrives n main s t p others marks drawn ending end turns d order (source.went u next quiet) is h q coherent size bound own f =
      tested_arrives n main t s.world.system.past p others (marked quiet p marks) drawn ending end turns d order
      (is_standstill quiet (marked quiet p marks) (p ∷ others)) u next quiet h q coherent
      (λ e. step_stays_ready g.unit p s u quiet (is ∙ ap (λ z. source.went u z quiet) e)) f

  pub main : (n : ℕ) → Main n
  main zero s t p others marks drawn k ending end turns d order e = absurd (cc)
  main (suc n) s t p others marks drawn k ending end turns d order e =
      let before : (rest : List Name) ×
      (selection.after_step choices (select g.unit choices n) p others marks drawn (source.step g.unit s p) ≡ finished ending end turns d rest)
      × (p ∷ rest ≡ order) =
      stepped_before p (selection.after_step choices (select g.unit choices n) p others marks drawn (source.step g.unit s p)) ending end turns d order e in
      subst (λ o. Arrives t p others drawn ending d (arrivals g.unit o s)) before.2
      (falling n (main n) s t p others marks drawn k ending end turns d before.0 before.1)
    where
      falling : (n : ℕ) → Main n → (s : Processes) (t : Machine) (p : Name) (others marks : List Name) (drawn : ℕ) → Taken g s t p others marks →
          (ending : Ending) (end : Traced) (turns d : ℕ) (order : List Name) →
          selection.after_step choices (select g.unit choices n) p others marks drawn (source.step g.unit s p) ≡ finished ending end turns d order →
          Arrives t p others drawn ending d (arrivals g.unit (p ∷ order) s)
      falling n go s t p others marks drawn k ending end turns d order e = of_found (find s.live p) refl
        where
          of_found : (o : Option Process) → find s.live p ≡ o → Arrives t p others drawn ending d (arrivals g.unit (p ∷ order) s)
          of_found (Some q) f =
              step_arrives n go s t p others marks drawn ending end turns d order (source.step g.unit s p) refl
              (claim none s t p others marks k (λ a x y. x)) (queues g.unit s p others k.kept.coherent k.queue) (cohere g.unit s p k.kept.coherent)
              (standing_size q.standing + work_size q.work) s.world.turns (step_falls g.unit s p q f) e
          of_found None f =
              let runs : permitted.is_running_process None ≡ true =
              sym (ap permitted.is_running_process f) ∙ k.queue.holds p (ap (λ b. b || has others p) (same-refl p)) in
              absurd (cc)

-- ---- from the start

module _ (g : Coded) (claim : StepClaim g) (start : StartClaim g) (cohere : StepsCohere) (queues : StepsQueue) where
  abbrev CodeArrives : State → ℕ → Choices → Ending → (drawn : ℕ) → List Name → Type 0
  CodeArrives system bound choices ending drawn order =
      (n : ℕ) × (m : Machine)
      × (target.run_from_start g.fetched 0 g.unit.calls system bound choices n ≡ target.finished ending m drawn)
      × AreAlike g.unit (arrivals g.unit order (source.start g.unit system bound)) (arrived_from_start g.fetched 0 g.unit.calls system bound choices 0 n)

  first_arrives : (n : ℕ) (choices : Choices) (system : State) (bound : ℕ) (ending : Ending) (end : Traced) (turns drawn : ℕ) (order : List Name) →
      selection.after_step choices (select g.unit choices n) [] [] [] 0 (source.step g.unit (source.start g.unit system bound) [])
      ≡ finished ending end turns drawn order → CodeArrives system bound choices ending drawn ([] ∷ order)
  first_arrives n choices system zero ending end turns drawn order e =
      let b : BeginsNot g system = start.begins_not system in
      let same_ending : outcome.turns ≡ ending = (cc) in
      let same_drawn : 0 ≡ drawn = (cc) in (
        0,
        b.machine,
        ap (target.after_step choices (target.run g.fetched choices 0) [] [] 0) b.entered ∙ (λ i. target.finished (same_ending i) b.machine (same_drawn i)),
        subst (AreAlike g.unit (arrivals g.unit ([] ∷ order) (source.start g.unit system zero)))
            (sym (ap (arrived_next choices (arrived g.fetched choices 0) [] [] 0) b.entered)) tt,
      )
  first_arrives n choices system (suc k) ending end turns drawn order e =
      let b : Begins g system k = start.begins system k in
      let r : Arrives g claim cohere queues choices b.machine [] [] 0 ending drawn (arrivals g.unit order b.state) =
      main g claim cohere queues choices n b.state b.machine [] [] [] 0 b.taken ending end turns drawn order
      (sym (ap (selection.after_step choices (select g.unit choices n) [] [] [] 0) b.stepped) ∙ e) in (
        r.steps,
        r.machine,
        ap (target.after_step choices (target.run g.fetched choices r.steps) [] [] 0) b.entered ∙ r.ends,
        subst (AreAlike g.unit (arrivals g.unit ([] ∷ order) (source.start g.unit system (suc k))))
            (sym (ap (arrived_next choices (arrived g.fetched choices r.steps) [] [] 0) b.entered))
            (subst (λ l. AreAlike g.unit l (arrived g.fetched choices r.steps b.machine [] [] 0)) (sym behind) r.alike),
      )
    where
      b : Begins g system k
      b = start.begins system k

      behind : arrivals g.unit ([] ∷ order) (source.start g.unit system (suc k)) ≡ arrivals g.unit order b.state
      behind =
          ap (λ x. arrival_after [] x ++ meant.onward x (arrivals g.unit order)) b.stepped
          ∙ ap (λ l. l ++ arrivals g.unit order b.state) (step_stays_ready g.unit [] (source.start g.unit system (suc k)) b.state false b.stepped)

  pub code_arrives : (system : State) (bound : ℕ) (choices : Choices) (ending : Ending) (end : Traced) (turns drawn : ℕ) (order : List Name) →
      selection.Ends g.unit system bound choices ending end turns drawn order → CodeArrives system bound choices ending drawn order
  code_arrives system bound choices ending end turns drawn order e = go e.0 e.1
    where
      go : (n : ℕ) → selection.select_from_start g.unit system bound choices n ≡ finished ending end turns drawn order →
          CodeArrives system bound choices ending drawn order
      go zero h = absurd (cc)
      go (suc n) h =
          let before : (rest : List Name) ×
          (selection.after_step choices (select g.unit choices n) [] [] [] 0 (source.step g.unit (source.start g.unit system bound) [])
          ≡ finished ending end turns drawn rest) × ([] ∷ rest ≡ order) =
          stepped_before [] (selection.after_step choices (select g.unit choices n) [] [] [] 0
          (source.step g.unit (source.start g.unit system bound) [])) ending end turns drawn order h in
          subst (CodeArrives system bound choices ending drawn) before.2 (first_arrives n choices system bound ending end turns drawn before.0 before.1)
