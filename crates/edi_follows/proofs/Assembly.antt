-- From the claim for steps to whole runs: the machine comes to the end of the selection.
use Rattle.std.proofs.Common.{◌≡◌, ℕ, zero, suc, inl, Bool, true, false, if◌then◌else◌, List, [], ◌∷◌, ◌++◌, refl, sym, ap, ◌∙◌}
use Rattle.edi_calls.specs.Choice.{Choices}
use Rattle.edi_calls.specs.Names.{Name}
use Rattle.edi_calls.specs.Outcome as outcome
use Rattle.edi_calls.specs.Outcome.{Ending}
use Rattle.edi_calls.specs.Ready.{Next, stays, joins, Taking, nobody, taking, take_next}
use Rattle.edi_calls.specs.State.{State, Traced}
use Rattle.edi_meaning.specs.Step as source
use Rattle.edi_meaning.specs.Step.{Processes}
use Rattle.edi_meaning.specs.Select as selection
use Rattle.edi_meaning.specs.Select.{Selected, finished, unfinished, stepped_first, marked, is_standstill, select}
use Rattle.edi_meaning.proofs.Sound.{EachTaken, each_next}
use Rattle.edi_meaning.proofs.Selections.{same_ending, same_system, same_turns, same_drawn, stepped_before}
use Rattle.edi_target.specs.Mach as target
use Rattle.edi_target.specs.Mach.{Machine}
use Rattle.edi_target.specs.Moments.{news_at, history_on, history_after, history}
use Rattle.edi_follows.specs.places.Coded.{Coded}
use Rattle.edi_follows.specs.places.Related.{Related, Kept, MayStep}
use Rattle.edi_follows.specs.places.Lands.{step, Passes, EndsSo, LandsNext, LandsTested, Lands, Taken, StepClaim, StepsCohere, QueueAfter, StepsQueue}

module _ (g : Coded) (choices : Choices) where
  abbrev Run : ℕ → Machine → Name → List Name → ℕ → target.MachineRun
  Run j t p others drawn = target.run g.fetched choices j t p others drawn

  abbrev Past : ℕ → Machine → List State → Name → List Name → ℕ → List State
  Past j t past p others drawn = history g.fetched choices j t p others drawn past

  -- the run from here, with this past, ends so
  abbrev pub Ends : Machine → (past : List State) → Name → List Name → ℕ → Ending → Traced → (turns d : ℕ) → Type 0
  Ends t past p others drawn ending end turns d =
      (j : ℕ) × (m : Machine) × (Run j t p others drawn ≡ target.finished ending m d) × (m.system ≡ end.now) × (m.turns ≡ turns)
      × (Past j t past p others drawn ≡ end.past)

  module _ (outer : ℕ → Type 0) where
    passes_run : (k : ℕ) (t : Machine) (past : List State) (p : Name) (others : List Name) (u : Machine) (now : List State) (drawn j : ℕ)
        (r : target.MachineRun)
        (end : List State) →
        Passes g outer k t past p others u now → Run j u p others drawn ≡ r → Past j u now p others drawn ≡ end →
        (i : ℕ) × (Run i t p others drawn ≡ r) × (Past i t past p others drawn ≡ end)
    passes_run zero t past p others u now drawn j r end h e f = (j, ap (λ x. Run j x p others drawn) h.0 ∙ e, (λ i. Past j (h.0 i) (h.1 i) p others drawn) ∙ f)
    passes_run (suc k) t past p others u now drawn j r end h e f =
        let more : List State = news_at g.fetched t p ++ past in
        let rest : (i : ℕ) × (Run i h.0 p others drawn ≡ r) × (Past i h.0 more p others drawn ≡ end) =
        passes_run k h.0 more p others u now drawn j r end h.3 e f in (
          suc rest.0,
          ap (target.after_step choices (target.run g.fetched choices rest.0) p others drawn) h.1 ∙ rest.1,
          ap (history_after choices (history g.fetched choices rest.0) p others drawn more) h.1 ∙ rest.2,
        )

    -- after instructions of p, and one step
    passes_end : (k : ℕ) (t : Machine) (past : List State) (p : Name) (others : List Name) (u : Machine) (since : List State) (x : target.Stepped)
        (drawn j : ℕ) (ending : Ending) (end : Traced) (turns d : ℕ) (m : Machine) →
        Passes g outer k t past p others u since → step g u p others ≡ x → target.after_step choices
        (target.run g.fetched choices j) p others drawn x ≡ target.finished ending m d → m.system ≡ end.now → m.turns ≡ turns →
        history_after choices (history g.fetched choices j) p others drawn (news_at g.fetched u p ++ since) x ≡ end.past →
        Ends t past p others drawn ending end turns d
    passes_end k t past p others u since x drawn j ending end turns d m h e f s n b =
        let r : (i : ℕ) × (Run i t p others drawn ≡ target.finished ending m d) × (Past i t past p others drawn ≡ end.past) =
        passes_run k t past p others u since drawn (suc j) (target.finished ending m d) end.past h
        (ap (target.after_step choices (target.run g.fetched choices j) p others drawn) e ∙ f)
        (ap (history_after choices (history g.fetched choices j) p others drawn (news_at g.fetched u p ++ since)) e ∙ b) in
        (r.0, m, r.1, s, n, r.2)

    ends_so : (t : Machine) (past : List State) (p : Name) (others : List Name) (drawn : ℕ) (ending x : Ending) (system end : Traced) (turns turns' c d : ℕ)
        (o q : List Name) → c ≡ drawn →
        EndsSo g outer t past p others ending system turns → finished ending system turns c o ≡ finished x end turns' d q →
        Ends t past p others drawn x end turns' d
    ends_so t past p others drawn ending x system end turns turns' c d o q i h e =
        passes_end h.steps t past p others h.before h.since (target.ended ending h.machine) drawn 0 x end turns' d h.machine h.passes h.is
        (λ j. target.finished (same_ending e j) h.machine ((sym i ∙ same_drawn e) j)) (h.system_is ∙ ap (λ (y : Traced). y.now) (same_system e))
        (h.turns_are ∙ same_turns e)
        (sym h.adds ∙ ap (λ (y : Traced). y.past) (same_system e))

  module _ (claim : StepClaim g) (cohere : StepsCohere) (queues : StepsQueue) where
    -- at most n steps of the meaning
    abbrev Main : ℕ → Type 0
    Main n =
        (s : Processes) (t : Machine) (p : Name) (others marks : List Name) (drawn : ℕ) → Taken g s t p others marks →
        (ending : Ending) (end : Traced) (turns d : ℕ) (order : List Name) → select g.unit choices n s marks p others drawn
        ≡ finished ending end turns d order →
        Ends t s.world.system.past p others drawn ending end turns d

    abbrev none : ℕ → Type 0
    none a = ⊥

    module _ (n : ℕ) (main : Main n) (t : Machine) (past : List State) (p : Name) (others marks : List Name) (drawn : ℕ) (ending : Ending) (end : Traced)
        (turns d : ℕ) (order : List Name) where
      taken_on : (s : Processes) (u : Machine) (x : Taking) → Related g s u → Kept s u → u.marks ≡ marks → EachTaken (MayStep s) x →
          selection.go_on x (select g.unit choices n s marks) s drawn ≡ finished ending end turns d order →
          (j : ℕ) × (m : Machine) × (target.go_on x (target.run g.fetched choices j u) u drawn ≡ target.finished ending m d) × (m.system ≡ end.now)
          × (m.turns ≡ turns) × (history_on x (λ z os c. history g.fetched choices j u z os c s.world.system.past) s.world.system.past ≡ end.past)
      taken_on s u nobody r k same q e = (
        0,
        u,
        (λ j. target.finished (same_ending e j) u (same_drawn e j)),
        r.system ∙ ap (λ (y : Traced). y.now) (same_system e),
        r.turns ∙ same_turns e,
        ap (λ (y : Traced). y.past) (same_system e),
      )
      taken_on s u (taking z os c) r k same q e =
          main s u z os marks c (record { related = r; kept = k; queue = q; marks_agree = inl same }) ending end turns d order e

      next_lands : (s : Processes) (next : Next) (quiet : Bool) → LandsNext g none t past p others marks s next →
          QueueAfter p others (source.went s next quiet) →
          selection.after_next choices (select g.unit choices n s marks) s p others drawn next ≡ finished ending end turns d order →
          Ends t past p others drawn ending end turns d
      next_lands s stays quiet h q e =
          let r : Ends h.machine s.world.system.past p others drawn ending end turns d =
          main s h.machine p others marks drawn
          (record { related = h.related; kept = h.kept; queue = q; marks_agree = h.marks_agree }) ending end turns d order e in
          let i : (i : ℕ) × (Run i t p others drawn ≡ target.finished ending r.1 d) × (Past i t past p others drawn ≡ end.past) =
          passes_run none h.steps t past p others h.machine s.world.system.past drawn r.0 (target.finished ending r.1 d) end.past h.passes r.2 r.5 in
          (i.0, r.1, i.1, r.3, r.4, i.2)
      next_lands s (joins ps) quiet h q e =
          let r : (j : ℕ) × (m : Machine) ×
          (target.go_on (take_next choices drawn (others ++ ps)) (target.run g.fetched choices j h.machine) h.machine drawn
          ≡ target.finished ending m d) × (m.system ≡ end.now) × (m.turns ≡ turns) ×
          (history_on (take_next choices drawn (others ++ ps))
          (λ z os c. history g.fetched choices j h.machine z os c s.world.system.past) s.world.system.past ≡ end.past) =
          taken_on s h.machine (take_next choices drawn (others ++ ps)) h.related h.kept h.same_marks
          (each_next (MayStep s) choices drawn (others ++ ps) q) e in
          passes_end none h.steps t past p others h.before h.since (target.went h.machine (joins ps)) drawn r.0 ending end turns d r.1 h.passes h.is r.2 r.3 r.4
          (ap (λ y. history_on (take_next choices drawn (others ++ ps)) (λ z os c. history g.fetched choices r.0 h.machine z os c y) y) (sym h.adds) ∙ r.5)

      tested_lands : (b : Bool) (s : Processes) (next : Next) (quiet : Bool) → LandsTested g none b t past p others marks s next →
          QueueAfter p others (source.went s next quiet) →
          (if b then finished outcome.standstill s.world.system s.world.turns drawn [] else selection.after_next choices
          (select g.unit choices n s marks) s p others drawn next) ≡ finished ending end turns d order →
          Ends t past p others drawn ending end turns d
      tested_lands true s next quiet h q e =
          ends_so none t past p others drawn outcome.standstill ending s.world.system end s.world.turns turns drawn d [] order refl h.ends e
      tested_lands false s next quiet h q e = next_lands s next quiet h q e

    step_lands : (n : ℕ) → Main n → (t : Machine) (past : List State) (p : Name) (others marks : List Name) (drawn : ℕ) (ending : Ending) (end : Traced)
        (turns d : ℕ) (order : List Name) (x : source.Stepped) →
        Lands g none t past p others marks x → QueueAfter p others x → selection.after_step choices
        (select g.unit choices n) p others marks drawn x ≡ finished ending end turns d order → Ends t past p others drawn ending end turns d
    step_lands n main t past p others marks drawn ending end turns d order (source.ended e system left) h q f =
        ends_so none t past p others drawn e ending system end left turns drawn d [] order refl h f
    step_lands n main t past p others marks drawn ending end turns d order (source.went s next quiet) h q f =
        tested_lands n main t past p others (marked quiet p marks) drawn ending end turns d order
        (is_standstill quiet (marked quiet p marks) (p ∷ others)) s next quiet h q f

    pub main : (n : ℕ) → Main n
    main zero s t p others marks drawn k ending end turns d order e = absurd (cc)
    main (suc n) s t p others marks drawn k ending end turns d order e =
        let before : (rest : List Name) ×
        (selection.after_step choices (select g.unit choices n) p others marks drawn (source.step g.unit s p) ≡ finished ending end turns d rest)
        × (p ∷ rest ≡ order) =
        stepped_before p (selection.after_step choices (select g.unit choices n) p others marks drawn (source.step g.unit s p)) ending end turns d order e in
        step_lands n (main n) t s.world.system.past p others marks drawn ending end turns d before.0 (source.step g.unit s p)
        (claim none s t p others marks k (λ a x y. x)) (queues g.unit s p others k.kept.coherent k.queue) before.1
