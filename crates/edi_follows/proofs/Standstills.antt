-- A run of the code never ends as bad, and it stands still by the marks alone.
use Rattle.std.proofs.Common.{◌≡◌, ◌⊎◌, inl, inr, ℕ, zero, suc, ◌-◌, ◌<◌, ◌≤◌, Bool, true, false, if◌then◌else◌, List, [], ◌∷◌, ◌++◌, Option, refl, sym, ap}
use Rattle.std.proofs.Common.{subst, ◌∙◌, arith}
use Rattle.std.proofs.lemmas.Bool.{cases_lt}
use Rattle.edi_calls.specs.Choice.{Choices}
use Rattle.edi_calls.specs.Names.{Name}
use Rattle.edi_calls.specs.Outcome as outcome
use Rattle.edi_calls.specs.Outcome.{Ending, Outcome, outcome_of}
use Rattle.edi_calls.specs.Ready.{Next, stays, joins, Taking, nobody, taking, take_next}
use Rattle.edi_calls.specs.State.{State, Traced}
use Rattle.edi_meaning.specs.Bad.{IsNoBad}
use Rattle.edi_meaning.specs.Select as selection
use Rattle.edi_meaning.specs.Select.{finished, marked, is_standstill, select, Select}
use Rattle.edi_meaning.specs.Someone.{ForksHaveBranches}
use Rattle.edi_meaning.specs.Step as source
use Rattle.edi_meaning.specs.Permitted as permitted
use Rattle.edi_meaning.specs.Step.{Processes}
use Rattle.edi_meaning.proofs.Branching.{StateGood, step_good, start_good}
use Rattle.edi_meaning.proofs.Kernel.{After}
use Rattle.edi_meaning.proofs.NeverBad.{selection_is_never_bad}
use Rattle.edi_meaning.proofs.Selections.{same_ending, same_drawn, stepped_before}
use Rattle.edi_meaning.proofs.Someone.{someone}
use Rattle.edi_meaning.proofs.Sound.{EachTaken, each_next}
use Rattle.edi_target.specs.Mach as target
use Rattle.edi_target.specs.Mach.{Machine, Mach}
use Rattle.edi_target.specs.Op.{Instruction}
use Rattle.edi_target.proofs.Runs.{same_end}
use Rattle.edi_follows.specs.places.Coded.{Coded}
use Rattle.edi_follows.specs.places.Related.{MayStep}
use Rattle.edi_follows.specs.places.Lands.{Passes, EndsSo, LandsNext, LandsTested, Lands, Taken, StepClaim, StepsCohere, QueueAfter, StepsQueue, StartClaim, Begins}
use Rattle.edi_follows.specs.Theorem.{Onward, IsTaken, at_start, after_switch, StandsByMarks}
use Rattle.edi_follows.proofs.Marking.{standstill_marks}
use Rattle.edi_follows.proofs.Wholes.{to_meaning}

-- ---- the run from where a process is taken is the rest of the whole run

-- n steps, and then k
abbrev and_then : ℕ → ℕ → ℕ
and_then zero k = k
and_then (suc n) k = suc (and_then n k)

module _ (fetched : ℕ → Option (Instruction × ℕ)) where
  more_onward : (n k : ℕ) (m t u : Machine) (p : Name) (others : List Name) → Onward fetched n m p others t → Onward fetched k t p others u →
      Onward fetched (and_then n k) m p others u
  more_onward zero k m t u p others h e = subst (λ x. Onward fetched k x p others u) (sym h) e
  more_onward (suc n) k m t u p others h e = (h.0, h.1, more_onward n k h.0 t u p others h.2 e)

  module _ (choices : Choices) where
    onward_run : (n : ℕ) (m t : Machine) (p : Name) (others : List Name) (drawn j : ℕ) (r : target.MachineRun) → Onward fetched n m p others t →
        target.run fetched choices j t p others drawn ≡ r → target.run fetched choices (and_then n j) m p others drawn ≡ r
    onward_run zero m t p others drawn j r h e = ap (λ x. target.run fetched choices j x p others drawn) h ∙ e
    onward_run (suc n) m t p others drawn j r h e =
        ap (target.after_step choices (target.run fetched choices (and_then n j)) p others drawn) h.1 ∙ onward_run n h.0 t p others drawn j r h.2 e

    module _ (entry : ℕ) (calls : List ℕ) (system : State) (bound : ℕ) where
      taken_run : (t : Machine) (p : Name) (others : List Name) (drawn : ℕ) → IsTaken fetched entry calls system bound choices t p others drawn →
          (j : ℕ) (r : target.MachineRun) →
          target.run fetched choices j t p others drawn ≡ r → (i : ℕ) × (target.run_from_start fetched entry calls system bound choices i ≡ r)
      taken_run _ _ _ _ (at_start m e) j r h = (j, ap (target.after_step choices (target.run fetched choices j) [] [] 0) e ∙ h)
      taken_run _ _ _ _ (after_switch m u t p q others rest ps n drawn drawn' is on e next) j r h =
          let step : target.run fetched choices (suc j) u p others drawn ≡ r =
          ap (target.after_step choices (target.run fetched choices j) p others drawn) e
          ∙ ap (λ x. target.go_on x (target.run fetched choices j t) t drawn) next ∙ h in
          taken_run m p others drawn is (and_then n (suc j)) r (onward_run n m u p others drawn (suc j) r on step)

      stands_ends : (m : Machine) (drawn : ℕ) → StandsByMarks fetched entry calls system bound choices m drawn →
          target.Ends fetched entry calls system bound choices outcome.standstill m drawn
      stands_ends m drawn h =
          taken_run h.taken h.name h.others drawn h.is_taken (and_then h.steps 1) (target.finished outcome.standstill m drawn)
          (onward_run h.steps h.taken h.before h.name h.others drawn 1 (target.finished outcome.standstill m drawn) h.onward
          (ap (target.after_step choices (target.run fetched choices 0) h.name h.others drawn) h.ends))

-- ---- beside a selection that stands still

abbrev none : ℕ → Type 0
none a = ⊥

module _ (g : Coded) (claim : StepClaim g) (cohere : StepsCohere) (queues : StepsQueue) (have : ForksHaveBranches g.unit) (choices : Choices)
    (system : State) (bound : ℕ) where
  abbrev Is : Machine → Name → List Name → ℕ → Type 0
  Is = IsTaken g.fetched 0 g.unit.calls system bound choices

  -- the machine that stands still by the marks
  record StandsStill (d : ℕ) : Type 0 where
    machine : Machine
    by_marks : StandsByMarks g.fetched 0 g.unit.calls system bound choices machine d

  passes_onward : (k : ℕ) (t : Machine) (past : List State) (p : Name) (others : List Name) (u : Machine) (now : List State) →
      Passes g none k t past p others u now → Onward g.fetched k t p others u
  passes_onward zero t past p others u now h = h.0
  passes_onward (suc k) t past p others u now h = (h.0, h.1, passes_onward k h.0 _ p others u now h.3)

  -- p was taken in t0, and has come to t
  record Runs (t : Machine) (p : Name) (others : List Name) (drawn : ℕ) : Type 0 where
    taken : Machine
    is_taken : Is taken p others drawn
    steps : ℕ
    onward : Onward g.fetched steps taken p others t

  passed : (k : ℕ) (t : Machine) (past : List State) (p : Name) (others : List Name) (u : Machine) (now : List State) (drawn : ℕ) →
      Passes g none k t past p others u now → Runs t p others drawn → Runs u p others drawn
  passed k t past p others u now drawn h r = record {
    taken = r.taken;
    is_taken = r.is_taken;
    steps = and_then r.steps k;
    onward = more_onward g.fetched r.steps k r.taken t u p others r.onward (passes_onward k t past p others u now h);
  }

  switched : (t m : Machine) (p q : Name) (others rest ps : List Name) (drawn drawn' : ℕ) → Runs t p others drawn →
      target.step g.fetched t p others ≡ target.went m (joins ps) →
      take_next choices drawn (others ++ ps) ≡ taking q rest drawn' → Runs m q rest drawn'
  switched t m p q others rest ps drawn drawn' r e next = record {
    taken = m;
    is_taken = after_switch r.taken t m p q others rest ps r.steps drawn drawn' r.is_taken r.onward e next;
    steps = 0;
    onward = refl;
  }

  -- the run ends here as a standstill
  stood : (t : Machine) (past : List State) (p : Name) (others : List Name) (drawn d : ℕ) (ending : Ending) (end : Traced) (turns : ℕ) →
      EndsSo g none t past p others ending end turns →
      ending ≡ outcome.standstill → drawn ≡ d → Runs t p others drawn → StandsStill d
  stood t past p others drawn d ending end turns h e i r =
      let last : Runs h.before p others drawn = passed h.steps t past p others h.before h.since drawn h.passes r in
      let ends : target.step g.fetched h.before p others ≡ target.ended outcome.standstill h.machine = h.is ∙ ap (λ x. target.ended x h.machine) e in
      subst StandsStill i (record {
        machine = h.machine;
        by_marks = record {
          taken = last.taken;
          name = p;
          others = others;
          is_taken = last.is_taken;
          steps = last.steps;
          before = h.before;
          onward = last.onward;
          ends = ends;
          marked = standstill_marks p others g.fetched h.before h.machine ends;
        };
      })

  -- at most n steps of the meaning
  abbrev Main : ℕ → Type 0
  Main n =
      (s : Processes) (t : Machine) (p : Name) (others marks : List Name) (drawn : ℕ) → Taken g s t p others marks → StateGood s → Runs t p others drawn →
      (end : Traced) (turns d : ℕ) (order : List Name) → select g.unit choices n s marks p others drawn ≡ finished outcome.standstill end turns d order →
      StandsStill d

  module _ (n : ℕ) (main : Main n) (t : Machine) (past : List State) (p : Name) (others marks : List Name) (drawn : ℕ) (end : Traced) (turns d : ℕ)
      (order : List Name) (r : Runs t p others drawn) where
    next_stands : (s : Processes) (next : Next) (quiet : Bool) → LandsNext g none t past p others marks s next →
        QueueAfter p others (source.went s next quiet) → StateGood s →
        selection.after_next choices (select g.unit choices n s marks) s p others drawn next ≡ finished outcome.standstill end turns d order → StandsStill d
    next_stands s stays quiet h q good e =
        main s h.machine p others marks drawn (record { related = h.related; kept = h.kept; queue = q; marks_agree = h.marks_agree }) good
        (passed h.steps t past p others h.machine s.world.system.past drawn h.passes r) end turns d order e
    next_stands s (joins ps) quiet h q good e = by (take_next choices drawn (others ++ ps)) refl (each_next (MayStep s) choices drawn (others ++ ps) q) e
      where
        before : Runs h.before p others drawn
        before = passed h.steps t past p others h.before h.since drawn h.passes r

        by : (x : Taking) → take_next choices drawn (others ++ ps) ≡ x → EachTaken (MayStep s) x →
            selection.go_on x (select g.unit choices n s marks) s drawn ≡ finished outcome.standstill end turns d order → StandsStill d
        by nobody is each f = let x : (x : Name) × (permitted.may_step s x ≡ true) = someone s h.kept.coherent good in absurd (each x.0 x.1)
        by (taking z os c) is each f =
            main s h.machine z os marks c (record { related = h.related; kept = h.kept; queue = each; marks_agree = inl h.same_marks }) good
            (switched h.before h.machine p z others os ps drawn c before h.is is) end turns d order f

    tested_stands : (b : Bool) (s : Processes) (next : Next) (quiet : Bool) → LandsTested g none b t past p others marks s next →
        QueueAfter p others (source.went s next quiet) → StateGood s →
        (if b then finished outcome.standstill s.world.system s.world.turns drawn [] else selection.after_next choices
        (select g.unit choices n s marks) s p others drawn next)
        ≡ finished outcome.standstill end turns d order → StandsStill d
    tested_stands true s next quiet h q good e = stood t past p others drawn d outcome.standstill s.world.system s.world.turns h.ends refl (same_drawn e) r
    tested_stands false s next quiet h q good e = next_stands s next quiet h q good e

  step_stands : (n : ℕ) → Main n → (t : Machine) (past : List State) (p : Name) (others marks : List Name) (drawn : ℕ) (end : Traced) (turns d : ℕ)
      (order : List Name) (r : Runs t p others drawn) (x : source.Stepped) →
      Lands g none t past p others marks x → QueueAfter p others x → After StateGood x →
      selection.after_step choices (select g.unit choices n) p others marks drawn x ≡ finished outcome.standstill end turns d order → StandsStill d
  step_stands n main t past p others marks drawn end turns d order r (source.ended e y left) h q good f =
      stood t past p others drawn d e y left h (same_ending f) (same_drawn f) r
  step_stands n main t past p others marks drawn end turns d order r (source.went s next quiet) h q good f =
      tested_stands n main t past p others (marked quiet p marks) drawn end turns d order r
      (is_standstill quiet (marked quiet p marks) (p ∷ others)) s next quiet h q good f

  main : (n : ℕ) → Main n
  main zero s t p others marks drawn k good r end turns d order e = absurd (cc)
  main (suc n) s t p others marks drawn k good r end turns d order e =
      let before : (rest : List Name) ×
      (selection.after_step choices (select g.unit choices n) p others marks drawn (source.step g.unit s p) ≡ finished outcome.standstill end turns d rest)
      × (p ∷ rest ≡ order) =
      stepped_before p (selection.after_step choices (select g.unit choices n) p others marks drawn (source.step g.unit s p)) outcome.standstill end turns d
      order e in
      step_stands n (main n) t s.world.system.past p others marks drawn end turns d before.0 r (source.step g.unit s p)
      (claim none s t p others marks k (λ a x y. x)) (queues g.unit s p others k.kept.coherent k.queue) (step_good g.unit have s p good) before.1

-- ---- from the start

module _ (g : Coded) (claim : StepClaim g) (start : StartClaim g) (cohere : StepsCohere) (queues : StepsQueue) (have : ForksHaveBranches g.unit)
    (choices : Choices) (system : State) where
  begun : (n bound : ℕ) (end : Traced) (turns d : ℕ) (order : List Name) →
      selection.after_step choices (select g.unit choices n) [] [] [] 0 (source.step g.unit (source.start g.unit system bound) []) ≡ finished
      outcome.standstill end turns d order →
      StandsStill g claim cohere queues have choices system bound d
  begun n zero end turns d order e = absurd (cc)
  begun n (suc k) end turns d order e =
      let b : Begins g system k = start.begins system k in
      let good : After StateGood (source.step g.unit (source.start g.unit system (suc k)) []) =
      step_good g.unit have (source.start g.unit system (suc k)) [] (start_good g.unit have system (suc k)) in
      main g claim cohere queues have choices system (suc k) n b.state b.machine [] [] [] 0 b.taken (subst (After StateGood) b.stepped good)
      (record { taken = b.machine; is_taken = at_start b.machine b.entered; steps = 0; onward = refl }) end turns d order
      (sym (ap (selection.after_step choices (select g.unit choices n) [] [] [] 0) b.stepped) ∙ e)

  selected : (bound : ℕ) (end : Traced) (turns d : ℕ) (order : List Name) → selection.Ends g.unit system bound choices outcome.standstill end turns d order →
      StandsStill g claim cohere queues have choices system bound d
  selected bound end turns d order e = go e.0 e.1
    where
      go : (n : ℕ) → selection.select_from_start g.unit system bound choices n ≡ finished outcome.standstill end turns d order →
          StandsStill g claim cohere queues have choices system bound d
      go zero h = absurd (cc)
      go (suc n) h =
          let before : (rest : List Name) ×
          (selection.after_step choices (select g.unit choices n) [] [] [] 0 (source.step g.unit (source.start g.unit system bound) []) ≡ finished
          outcome.standstill end turns d rest)
          × ([] ∷ rest ≡ order) =
          stepped_before [] (selection.after_step choices (select g.unit choices n) [] [] [] 0 (source.step g.unit (source.start g.unit system bound) []))
          outcome.standstill end turns d order h in
          begun n bound end turns d before.0 before.1

  module _ (bound : ℕ) where
    abbrev RunEnds : Ending → Machine → ℕ → Type 0
    RunEnds = target.Ends g.fetched 0 g.unit.calls system bound choices

    -- the selection that ends as the run does
    meant : (ending : Ending) (m : Machine) (d : ℕ) → RunEnds ending m d → Select g.unit system bound choices (outcome_of m.system ending (bound - m.turns) d)
    meant ending m d e =
        to_meaning g claim start cohere queues system bound choices (outcome_of m.system ending (bound - m.turns) d) (ending, m, d, e, refl)

    pub never_bad : (ending : Ending) (m : Machine) (d : ℕ) → RunEnds ending m d → IsNoBad ending
    never_bad ending m d e =
        let h : Select g.unit system bound choices (outcome_of m.system ending (bound - m.turns) d) = meant ending m d e in
        let is : ending ≡ h.0 = ap (λ (o : Outcome). o.ending) h.6 in
        subst IsNoBad (sym is) (selection_is_never_bad g.unit system bound choices h.0 h.1 h.2 h.3 h.4 h.5)

    same_machine : (m t : Machine) (c d : ℕ) → RunEnds outcome.standstill m c → RunEnds outcome.standstill t d →
        target.finished outcome.standstill m c ≡ target.finished outcome.standstill t d
    same_machine m t c d a b = go (cases_lt a.0 b.0)
      where
        go : (a.0 < b.0) ⊎ (b.0 ≤ a.0) → target.finished outcome.standstill m c ≡ target.finished outcome.standstill t d
        go (inl h) = same_end g.fetched 0 g.unit.calls system bound choices 0 a.0 b.0 outcome.standstill outcome.standstill m t c d (omega arith) a.1 b.1
        go (inr h) = sym (same_end g.fetched 0 g.unit.calls system bound choices 0 b.0 a.0 outcome.standstill outcome.standstill t m d c h b.1 a.1)

    pub stands_by_marks : (m : Machine) (d : ℕ) → RunEnds outcome.standstill m d → StandsByMarks g.fetched 0 g.unit.calls system bound choices m d
    stands_by_marks m d e =
        let h : Select g.unit system bound choices (outcome_of m.system outcome.standstill (bound - m.turns) d) = meant outcome.standstill m d e in
        let is : h.0 ≡ outcome.standstill = sym (ap (λ (o : Outcome). o.ending) h.6) in
        let x : StandsStill g claim cohere queues have choices system bound h.3 =
        selected bound h.1 h.2 h.3 h.4 (subst (λ z. selection.Ends g.unit system bound choices z h.1 h.2 h.3 h.4) is h.5) in
        let same : target.finished outcome.standstill x.machine h.3 ≡ target.finished outcome.standstill m d =
        same_machine x.machine m h.3 d (stands_ends g.fetched choices 0 g.unit.calls system bound x.machine h.3 x.by_marks) e in
        let one : x.machine ≡ m = machine_of same in
        let drawn : h.3 ≡ d = drawn_of same in
        subst (λ z. StandsByMarks g.fetched 0 g.unit.calls system bound choices z d) one
        (subst (λ z. StandsByMarks g.fetched 0 g.unit.calls system bound choices x.machine z) drawn x.by_marks)
      where
        machine_of : {t u : Machine} {b c : ℕ} → target.finished outcome.standstill t b ≡ target.finished outcome.standstill u c → t ≡ u
        machine_of e = cc

        drawn_of : {t u : Machine} {b c : ℕ} → target.finished outcome.standstill t b ≡ target.finished outcome.standstill u c → b ≡ c
        drawn_of e = cc
