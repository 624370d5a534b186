-- Beside an execution that stands still: where its steps lead the machine that runs the code stands still too, and agrees.
use Rattle.std.proofs.Common.{◌≡◌, ℕ, zero, suc, inl, Bool, true, false, if◌then◌else◌, List, [], ◌∷◌, ◌++◌, sym, ap, subst, ◌∙◌}
use Rattle.edi_calls.specs.Choice.{Choices}
use Rattle.edi_calls.specs.Names.{Name}
use Rattle.edi_calls.specs.Outcome as outcome
use Rattle.edi_calls.specs.Outcome.{Ending}
use Rattle.edi_calls.specs.Ready.{Next, stays, joins, Taking, nobody, taking, take_next}
use Rattle.edi_calls.specs.State.{State, Traced}
use Rattle.edi_meaning.specs.Permitted as permitted
use Rattle.edi_meaning.specs.Permitted.{Led, may_step, nowhere, onward}
use Rattle.edi_meaning.specs.Step as source
use Rattle.edi_meaning.specs.Step.{Processes}
use Rattle.edi_meaning.specs.Select as selection
use Rattle.edi_meaning.specs.Select.{finished, marked, is_standstill, select}
use Rattle.edi_meaning.proofs.Sound.{EachTaken, each_next}
use Rattle.edi_meaning.proofs.Selections.{same_drawn, stepped_before}
use Rattle.edi_target.specs.Mach as target
use Rattle.edi_target.specs.Mach.{Machine}
use Rattle.edi_follows.specs.places.Coded.{Coded}
use Rattle.edi_follows.specs.places.Related.{Related, Kept, MayStep}
use Rattle.edi_follows.specs.places.Lands.{step, Passes, StandsStill, LandsNext, LandsTested, Lands, Taken, StepClaim, StepsCohere, QueueAfter, StepsQueue}
use Rattle.edi_follows.specs.places.Lands.{StartClaim, Begins}

-- nobody has stepped after this end
same_order : {a b : Ending} {x y : Traced} {m n c d : ℕ} {o q : List Name} → finished a x m c o ≡ finished b y n d q → o ≡ q
same_order h = cc

same_state : {s t : Processes} → permitted.at s ≡ permitted.at t → s ≡ t
same_state h = cc

abbrev none : ℕ → Type 0
none a = ⊥

-- `last` is where the steps lead, where so many choices have been drawn
module _ (g : Coded) (choices : Choices) (last : Processes) (d : ℕ) where
  abbrev Run : ℕ → Machine → Name → List Name → ℕ → target.MachineRun
  Run j t p others drawn = target.run g.fetched choices j t p others drawn

  -- the run from here stands still in a machine that agrees
  pub record Stood (t : Machine) (p : Name) (others : List Name) (drawn : ℕ) : Type 0 where
    pub steps : ℕ
    pub machine : Machine
    pub run : Run steps t p others drawn ≡ target.finished outcome.standstill machine d
    pub related : Related g last machine

  -- after some instructions of p
  passed : (k : ℕ) (t : Machine) (past : List State) (p : Name) (others : List Name) (u : Machine) (now : List State) (drawn : ℕ) →
      Passes g none k t past p others u now → Stood u p others drawn → Stood t p others drawn
  passed zero t past p others u now drawn h r = subst (λ x. Stood x p others drawn) (sym h.0) r
  passed (suc k) t past p others u now drawn h r =
      let rest : Stood h.0 p others drawn = passed k h.0 _ p others u now drawn h.3 r in
      record {
        steps = suc rest.steps;
        machine = rest.machine;
        run = ap (target.after_step choices (target.run g.fetched choices rest.steps) p others drawn) h.1 ∙ rest.run;
        related = rest.related;
      }

  -- where the next one is taken
  abbrev StoodOn : Taking → Machine → ℕ → Type 0
  StoodOn x u drawn = (j : ℕ) × (m : Machine)
      × (target.go_on x (target.run g.fetched choices j u) u drawn ≡ target.finished outcome.standstill m d) × Related g last m

  switched : (t u : Machine) (p : Name) (others ps : List Name) (drawn : ℕ) → step g t p others ≡ target.went u (joins ps)
      → StoodOn (take_next choices drawn (others ++ ps)) u drawn → Stood t p others drawn
  switched t u p others ps drawn e r = record {
    steps = suc r.0;
    machine = r.1;
    run = ap (target.after_step choices (target.run g.fetched choices r.0) p others drawn) e ∙ r.2;
    related = r.3;
  }

  -- the run stands still here
  stood : (t : Machine) (past : List State) (p : Name) (others : List Name) (drawn : ℕ) (s : Processes) → StandsStill g none t past p others s
      → s ≡ last → drawn ≡ d → Stood t p others drawn
  stood t past p others drawn s h same i =
      passed h.ends.steps t past p others h.ends.before h.ends.since drawn h.ends.passes (record {
        steps = 1;
        machine = h.ends.machine;
        run = ap (target.after_step choices (target.run g.fetched choices 0) p others drawn) h.ends.is
            ∙ ap (λ n. target.finished outcome.standstill h.ends.machine n) i;
        related = subst (λ x. Related g x h.ends.machine) same h.related;
      })

  module _ (claim : StepClaim g) (cohere : StepsCohere) (queues : StepsQueue) where
    abbrev LeadsTo : List Name → Processes → Type 0
    LeadsTo order s = permitted.permitted g.unit order s ≡ permitted.at last

    -- at most n steps of the meaning
    abbrev Main : ℕ → Type 0
    Main n =
        (s : Processes) (t : Machine) (p : Name) (others marks : List Name) (drawn : ℕ) → Taken g s t p others marks →
        (end : Traced) (turns : ℕ) (order : List Name) → select g.unit choices n s marks p others drawn ≡ finished outcome.standstill end turns d order →
        LeadsTo order s → Stood t p others drawn

    module _ (n : ℕ) (main : Main n) (t : Machine) (past : List State) (p : Name) (others marks : List Name) (drawn : ℕ) (end : Traced) (turns : ℕ)
        (order : List Name) where
      taken_on : (s : Processes) (u : Machine) (x : Taking) → Related g s u → Kept s u → u.marks ≡ marks → EachTaken (MayStep s) x →
          selection.go_on x (select g.unit choices n s marks) s drawn ≡ finished outcome.standstill end turns d order → LeadsTo order s →
          StoodOn x u drawn
      taken_on s u nobody r k same q e l =
          let is : s ≡ last = same_state (ap (λ o. permitted.permitted g.unit o s) (same_order e) ∙ l) in (
            0,
            u,
            ap (λ c. target.finished outcome.standstill u c) (same_drawn e),
            subst (λ x. Related g x u) is r,
          )
      taken_on s u (taking z os c) r k same q e l =
          let h : Stood u z os c = main s u z os marks c (record { related = r; kept = k; queue = q; marks_agree = inl same }) end turns order e l in
          (h.steps, h.machine, h.run, h.related)

      next_lands : (s : Processes) (next : Next) (quiet : Bool) → LandsNext g none t past p others marks s next →
          QueueAfter p others (source.went s next quiet) →
          selection.after_next choices (select g.unit choices n s marks) s p others drawn next ≡ finished outcome.standstill end turns d order →
          LeadsTo order s → Stood t p others drawn
      next_lands s stays quiet h q e l =
          passed h.steps t past p others h.machine s.world.system.past drawn h.passes
          (main s h.machine p others marks drawn (record { related = h.related; kept = h.kept; queue = q; marks_agree = h.marks_agree }) end turns order e l)
      next_lands s (joins ps) quiet h q e l =
          passed h.steps t past p others h.before h.since drawn h.passes
          (switched h.before h.machine p others ps drawn h.is
          (taken_on s h.machine (take_next choices drawn (others ++ ps)) h.related h.kept h.same_marks
          (each_next (MayStep s) choices drawn (others ++ ps) q) e l))

      tested_lands : (b : Bool) (s : Processes) (next : Next) (quiet : Bool) → LandsTested g none b t past p others marks s next →
          QueueAfter p others (source.went s next quiet) →
          (if b then finished outcome.standstill s.world.system s.world.turns drawn [] else selection.after_next choices
          (select g.unit choices n s marks) s p others drawn next) ≡ finished outcome.standstill end turns d order → LeadsTo order s →
          Stood t p others drawn
      tested_lands true s next quiet h q e l =
          stood t past p others drawn s h (same_state (ap (λ o. permitted.permitted g.unit o s) (same_order e) ∙ l)) (same_drawn e)
      tested_lands false s next quiet h q e l = next_lands s next quiet h q e l

    over_nowhere : (order : List Name) (ending : Ending) (system : Traced) (turns : ℕ) (more : Processes → Led)
        → onward (source.ended ending system turns) order more ≡ permitted.at last → ⊥
    over_nowhere [] ending system turns more e = cc
    over_nowhere (x ∷ order) ending system turns more e = cc

    step_lands : (n : ℕ) → Main n → (t : Machine) (past : List State) (p : Name) (others marks : List Name) (drawn : ℕ) (end : Traced) (turns : ℕ)
        (order : List Name) (x : source.Stepped) → Lands g none t past p others marks x → QueueAfter p others x →
        selection.after_step choices (select g.unit choices n) p others marks drawn x ≡ finished outcome.standstill end turns d order →
        onward x order (permitted.permitted g.unit order) ≡ permitted.at last → Stood t p others drawn
    step_lands n main t past p others marks drawn end turns order (source.ended e system left) h q f l =
        absurd (over_nowhere order e system left (permitted.permitted g.unit order) l)
    step_lands n main t past p others marks drawn end turns order (source.went s next quiet) h q f l =
        tested_lands n main t past p others (marked quiet p marks) drawn end turns order
        (is_standstill quiet (marked quiet p marks) (p ∷ others)) s next quiet h q f l

    -- p may step, since the steps lead on
    may_go : (b : Bool) (l : Led) → (if b then l else nowhere) ≡ permitted.at last → l ≡ permitted.at last
    may_go true l e = e
    may_go false l e = absurd (cc)

    main : (n : ℕ) → Main n
    main zero s t p others marks drawn k end turns order e l = absurd (cc)
    main (suc n) s t p others marks drawn k end turns order e l =
        let before : (rest : List Name) ×
        (selection.after_step choices (select g.unit choices n) p others marks drawn (source.step g.unit s p) ≡ finished outcome.standstill end turns d rest)
        × (p ∷ rest ≡ order) =
        stepped_before p (selection.after_step choices (select g.unit choices n) p others marks drawn (source.step g.unit s p)) outcome.standstill end turns d
        order e in
        step_lands n (main n) t s.world.system.past p others marks drawn end turns before.0 (source.step g.unit s p)
        (claim none s t p others marks k (λ a x y. x)) (queues g.unit s p others k.kept.coherent k.queue) before.1
        (may_go (may_step s p) (onward (source.step g.unit s p) before.0 (permitted.permitted g.unit before.0))
        (ap (λ o. permitted.permitted g.unit o s) before.2 ∙ l))

    -- ---- from the start

    module _ (start : StartClaim g) (system : State) where
      abbrev FromStart : ℕ → Type 0
      FromStart bound = (n : ℕ) × (m : Machine)
          × (target.run_from_start g.fetched 0 g.unit.calls system bound choices n ≡ target.finished outcome.standstill m d) × Related g last m

      begun : (n bound : ℕ) (end : Traced) (turns : ℕ) (order : List Name) →
          selection.after_step choices (select g.unit choices n) [] [] [] 0 (source.step g.unit (source.start g.unit system bound) []) ≡ finished
          outcome.standstill end turns d order →
          onward (source.step g.unit (source.start g.unit system bound) []) order (permitted.permitted g.unit order) ≡ permitted.at last → FromStart bound
      begun n zero end turns order e l = absurd (cc)
      begun n (suc k) end turns order e l =
          let b : Begins g system k = start.begins system k in
          let h : Stood b.machine [] [] 0 =
          main n b.state b.machine [] [] [] 0 b.taken end turns order
          (sym (ap (selection.after_step choices (select g.unit choices n) [] [] [] 0) b.stepped) ∙ e)
          (sym (ap (λ x. onward x order (permitted.permitted g.unit order)) b.stepped) ∙ l) in
          (h.steps, h.machine, ap (target.after_step choices (target.run g.fetched choices h.steps) [] [] 0) b.entered ∙ h.run, h.related)

      -- THE SELECTION STANDS STILL, and so does the run
      pub stands : (bound : ℕ) (end : Traced) (turns : ℕ) (order : List Name) →
          selection.Ends g.unit system bound choices outcome.standstill end turns d order → LeadsTo order (source.start g.unit system bound)
          → FromStart bound
      stands bound end turns order e l = go e.0 e.1
        where
          go : (n : ℕ) → selection.select_from_start g.unit system bound choices n ≡ finished outcome.standstill end turns d order → FromStart bound
          go zero h = absurd (cc)
          go (suc n) h =
              let before : (rest : List Name) ×
              (selection.after_step choices (select g.unit choices n) [] [] [] 0 (source.step g.unit (source.start g.unit system bound) []) ≡ finished
              outcome.standstill end turns d rest)
              × ([] ∷ rest ≡ order) =
              stepped_before [] (selection.after_step choices (select g.unit choices n) [] [] [] 0 (source.step g.unit (source.start g.unit system bound) []))
              outcome.standstill end turns d order h in
              begun n bound end turns before.0 before.1
              (ap (λ o. permitted.permitted g.unit o (source.start g.unit system bound)) before.2 ∙ l)
