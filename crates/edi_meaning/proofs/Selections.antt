-- Every selection ends, in one way, and the choices that it drew give it again.
use Rattle.std.proofs.Common.{◌≡◌, ℕ, zero, suc, ◌+◌, ◌-◌, ◌<◌, ◌≤◌, inl, inr, Bool, true, false, if◌then◌else◌, List, [], ◌∷◌, ◌++◌, length, Option, Some}
use Rattle.std.proofs.Common.{None, refl, sym, subst, ap, ◌∙◌, arith, length-append}
use Rattle.std.proofs.Math.ListN.{get_or-append}
use Rattle.std.proofs.Math.Seq.{get_or-append_seam}
use Rattle.std.proofs.lemmas.Bool.{cases_lt}
use Rattle.std.specs.Prelude.{⊤, ◌%◌, slice_index}
use Rattle.edi_calls.specs.State.{State, Traced}
use Rattle.edi_calls.specs.Choice.{Choices, listed, choice, first_choices}
use Rattle.edi_calls.specs.Names.{Name, find}
use Rattle.edi_calls.specs.Outcome as outcome
use Rattle.edi_calls.specs.Outcome.{Ending, Outcome, outcome_of}
use Rattle.edi_calls.specs.Ready.{Next, stays, joins, Taking, nobody, taking, taking_at, take_next}
use Rattle.edi_unit.specs.Tree.{ProgramUnit}
use Rattle.edi_meaning.specs.Step.{Process, Processes, Stepped, went, ended, step, step_of, start}
use Rattle.edi_meaning.specs.Select.{Selected, unfinished, finished, stepped_first, marked, is_standstill, go_on, after_next, after_step, select}
use Rattle.edi_meaning.specs.Select.{select_from_start}
use Rattle.edi_meaning.specs.Laws.{EverySelectionEnds, SelectionsAreDetermined, RecordReplays}
use Rattle.edi_meaning.proofs.Work.{Falls, standing_size, work_size, step_falls}

-- ---- ends of selections

pub same_ending : {a b : Ending} {x y : Traced} {m n c d : ℕ} {o q : List Name} → finished a x m c o ≡ finished b y n d q → a ≡ b
same_ending h = cc

pub same_system : {a b : Ending} {x y : Traced} {m n c d : ℕ} {o q : List Name} → finished a x m c o ≡ finished b y n d q → x ≡ y
same_system h = cc

pub same_turns : {a b : Ending} {x y : Traced} {m n c d : ℕ} {o q : List Name} → finished a x m c o ≡ finished b y n d q → m ≡ n
same_turns h = cc

pub same_drawn : {a b : Ending} {x y : Traced} {m n c d : ℕ} {o q : List Name} → finished a x m c o ≡ finished b y n d q → c ≡ d
same_drawn h = cc

-- the rest of a selection, after a step
abbrev More : Type 0
More = Processes → List Name → Name → List Name → ℕ → Selected

-- the selection ends so
abbrev IsFinished : Selected → Type 0
IsFinished r = (ending : Ending) × (end : Traced) × (turns : ℕ) × (drawn : ℕ) × (order : List Name) × (r ≡ finished ending end turns drawn order)

first_finished : (p : Name) (r : Selected) → IsFinished r → IsFinished (stepped_first p r)
first_finished p r h = (h.0, h.1, h.2, h.3, p ∷ h.4, ap (stepped_first p) h.5)

module _ (unit : ProgramUnit) (choices : Choices) where
  abbrev Finishes : Processes → List Name → Name → List Name → ℕ → Type 0
  Finishes s marks p others drawn = (n : ℕ) × IsFinished (select unit choices n s marks p others drawn)

  abbrev Continued : Processes → List Name → ℕ → Taking → Type 0
  Continued s marks drawn nobody = ⊤
  Continued s marks drawn (taking p others d) = Finishes s marks p others d

  taken_ends : (s : Processes) (marks : List Name) (drawn : ℕ) (t : Taking) → Continued s marks drawn t → (n : ℕ)
      × IsFinished (go_on t (select unit choices n s marks) s drawn)
  taken_ends s marks drawn nobody c = (0, (outcome.standstill, s.world.system, s.world.turns, drawn, [], refl))
  taken_ends s marks drawn (taking p others d) c = c

  abbrev Continues : Name → List Name → List Name → ℕ → Processes → Next → Type 0
  Continues p others marks drawn s stays = Finishes s marks p others drawn
  Continues p others marks drawn s (joins ps) = Continued s marks drawn (take_next choices drawn (others ++ ps))

  next_ends : (p : Name) (others marks : List Name) (drawn : ℕ) (s : Processes) (next : Next) → Continues p others marks drawn s next → (n : ℕ)
      × IsFinished (after_next choices (select unit choices n s marks) s p others drawn next)
  next_ends p others marks drawn s stays c = c
  next_ends p others marks drawn s (joins ps) c = taken_ends s marks drawn (take_next choices drawn (others ++ ps)) c

  tested_ends : (b : Bool) (p : Name) (others marks : List Name) (drawn : ℕ) (s : Processes) (next : Next) → Continues p others marks drawn s next →
      (n : ℕ) × IsFinished (if b then finished outcome.standstill s.world.system s.world.turns drawn [] else after_next choices
      (select unit choices n s marks) s p others drawn next)
  tested_ends true p others marks drawn s next c = (0, (outcome.standstill, s.world.system, s.world.turns, drawn, [], refl))
  tested_ends false p others marks drawn s next c = next_ends p others marks drawn s next c

  abbrev Onward : Name → List Name → List Name → ℕ → Stepped → Type 0
  Onward p others marks drawn (ended ending system turns) = ⊤
  Onward p others marks drawn (went s next quiet) = Continues p others (marked quiet p marks) drawn s next

  stepped_ends : (p : Name) (others marks : List Name) (drawn : ℕ) (x : Stepped) → Onward p others marks drawn x → (n : ℕ)
      × IsFinished (after_step choices (select unit choices n) p others marks drawn x)
  stepped_ends p others marks drawn (ended ending system turns) c = (0, (ending, system, turns, drawn, [], refl))
  stepped_ends p others marks drawn (went s next quiet) c =
      tested_ends (is_standstill quiet (marked quiet p marks) (p ∷ others)) p others (marked quiet p marks) drawn s next c

  one_more : (s : Processes) (marks : List Name) (p : Name) (others : List Name) (drawn : ℕ) → Onward p others marks drawn (step unit s p)
      → Finishes s marks p others drawn
  one_more s marks p others drawn c =
      let e : (n : ℕ) × IsFinished (after_step choices (select unit choices n) p others marks drawn (step unit s p)) = stepped_ends p others marks drawn
      (step unit s p) c in
      (suc e.0, first_finished p (after_step choices (select unit choices e.0) p others marks drawn (step unit s p)) e.1)

  onward : (x : Stepped) (p : Name) (others marks : List Name) (drawn size turns : ℕ) → Falls size turns p x →
      ((s : Processes) (marks : List Name) (q : Name) (os : List Name) (d : ℕ) → s.world.turns < turns → Finishes s marks q os d) →
      ((s : Processes) (marks : List Name) (q : Process) → s.world.turns ≤ turns → find s.live p ≡ Some q → standing_size q.standing + work_size q.work < size
      → Finishes s marks p others drawn) →
      Onward p others marks drawn x
  onward (ended ending system turns) p others marks drawn size t f less smaller = tt
  onward (went s stays quiet) p others marks drawn size t f less smaller = elim f [
    | inl h ↦ less s (marked quiet p marks) p others drawn h
    | inr h ↦ smaller s (marked quiet p marks) h.1.0 h.0 h.1.1 h.1.2
  ]
  onward (went s (joins ps) quiet) p others marks drawn size t f less smaller = joined (take_next choices drawn (others ++ ps))
    where
      joined : (t : Taking) → Continued s (marked quiet p marks) drawn t
      joined nobody = tt
      joined (taking q os d) = less s (marked quiet p marks) q os d f

  -- with at most t turns left, where the selections with fewer end
  by_work : (t : ℕ) → ((s : Processes) (marks : List Name) (q : Name) (os : List Name) (d : ℕ) → s.world.turns < t → Finishes s marks q os d) →
      (left : ℕ) (s : Processes) (marks : List Name) (p : Name) (others : List Name) (drawn : ℕ) (q : Process) → find s.live p ≡ Some q → s.world.turns ≤ t
      → standing_size q.standing + work_size q.work < left → Finishes s marks p others drawn
  by_work t less zero s marks p others drawn q e h k = absurd (omega arith)
  by_work t less (suc left) s marks p others drawn q e h k =
      one_more s marks p others drawn
      (onward (step unit s p) p others marks drawn (standing_size q.standing + work_size q.work) s.world.turns (step_falls unit s p q e)
      (λ s' m r os d l. less s' m r os d (omega arith))
      (λ s' m q' l found smaller. by_work t less left s' m p others drawn q' found (omega arith) (omega arith)))

  by_turns : (t : ℕ) (s : Processes) (marks : List Name) (p : Name) (others : List Name) (drawn : ℕ) → s.world.turns < t → Finishes s marks p others drawn
  by_turns zero s marks p others drawn h = absurd (omega arith)
  by_turns (suc t) s marks p others drawn h = of_found (by_work t (by_turns t)) (find s.live p) refl
    where
      of_found : ((left : ℕ) (s : Processes) (marks : List Name) (p : Name) (others : List Name) (drawn : ℕ) (q : Process) → find s.live p ≡ Some q
          → s.world.turns ≤ t → standing_size q.standing + work_size q.work < left → Finishes s marks p others drawn) →
          (x : Option Process) → find s.live p ≡ x → Finishes s marks p others drawn
      of_found counted None e = one_more s marks p others drawn (subst (λ (x : Option Process). Onward p others marks drawn (step_of unit s p x)) (sym e) tt)
      of_found counted (Some q) e = counted (suc (standing_size q.standing + work_size q.work)) s marks p others drawn q e (omega arith) (omega arith)

pub every_selection_ends : EverySelectionEnds
every_selection_ends unit system bound choices =
    let e : Finishes unit choices (start unit system bound) [] [] [] 0 = by_turns unit choices (suc bound) (start unit system bound) [] [] [] 0 (omega arith) in
    (outcome_of e.1.1.now e.1.0 (bound - e.1.2) e.1.3, (e.1.0, e.1.1, e.1.2, e.1.3, e.1.4, (e.0, e.1.5), refl))

-- ---- more steps, and other choices behind those that were drawn, have the same end

pub stepped_before : (p : Name) (r : Selected) (ending : Ending) (end : Traced) (turns d : ℕ) (order : List Name) →
    stepped_first p r ≡ finished ending end turns d order → (rest : List Name) × (r ≡ finished ending end turns d rest) × (p ∷ rest ≡ order)
stepped_before p unfinished ending end turns d order h = absurd (cc)
stepped_before p (finished x y z v rest) ending end turns d order h = (rest, (cc), (cc))

module _ (unit : ProgramUnit) (ending : Ending) (end : Traced) (turns d : ℕ) where
  abbrev End : List Name → Selected
  End order = finished ending end turns d order

  -- the choices are never fewer than before
  module _ (choices : Choices) where
    queue_drawn : (queue : List Name) (more : Name → List Name → ℕ → Selected) (s : Processes) (drawn : ℕ) (order : List Name) →
        ((p : Name) (others : List Name) (x : ℕ) → more p others x ≡ End order → x ≤ d) → go_on (take_next choices drawn queue) more s drawn ≡ End order
        → drawn ≤ d
    queue_drawn [] more s drawn order ih h = omega (arith, same_drawn h)
    queue_drawn (p ∷ []) more s drawn order ih h = ih p [] drawn h
    queue_drawn (p ∷ q ∷ ready) more s drawn order ih h = omega (arith, ih _ _ (drawn + 1) h)

    next_drawn : (next : Next) (more : Name → List Name → ℕ → Selected) (s : Processes) (p : Name) (others : List Name) (drawn : ℕ) (order : List Name) →
        ((p : Name) (others : List Name) (x : ℕ) → more p others x ≡ End order → x ≤ d) → after_next choices more s p others drawn next ≡ End order → drawn ≤ d
    next_drawn stays more s p others drawn order ih h = ih p others drawn h
    next_drawn (joins ps) more s p others drawn order ih h = queue_drawn (others ++ ps) more s drawn order ih h

    tested_drawn : (b : Bool) (next : Next) (more : Name → List Name → ℕ → Selected) (s : Processes) (p : Name) (others : List Name) (drawn : ℕ)
        (order : List Name) →
        ((p : Name) (others : List Name) (x : ℕ) → more p others x ≡ End order → x ≤ d) →
        (if b then finished outcome.standstill s.world.system s.world.turns drawn [] else after_next choices more s p others drawn next) ≡ End order → drawn ≤ d
    tested_drawn true next more s p others drawn order ih h = omega (arith, same_drawn h)
    tested_drawn false next more s p others drawn order ih h = next_drawn next more s p others drawn order ih h

    stepped_drawn : (x : Stepped) (more : More) (p : Name) (others marks : List Name) (drawn : ℕ) (order : List Name) →
        ((s : Processes) (marks : List Name) (p : Name) (others : List Name) (x : ℕ) → more s marks p others x ≡ End order → x ≤ d) →
        after_step choices more p others marks drawn x ≡ End order → drawn ≤ d
    stepped_drawn (ended e system t) more p others marks drawn order ih h = omega (arith, same_drawn h)
    stepped_drawn (went s next quiet) more p others marks drawn order ih h =
        tested_drawn (is_standstill quiet (marked quiet p marks) (p ∷ others)) next (more s (marked quiet p marks)) s p others drawn order
        (ih s (marked quiet p marks)) h

    drawn_within : (n : ℕ) (order : List Name) (s : Processes) (marks : List Name) (p : Name) (others : List Name) (drawn : ℕ) → select unit choices n s marks
        p others drawn ≡ End order → drawn ≤ d
    drawn_within zero order s marks p others drawn h = absurd (cc)
    drawn_within (suc n) order s marks p others drawn h =
        let before : (rest : List Name) × (after_step choices (select unit choices n) p others marks drawn (step unit s p) ≡ End rest) × (p ∷ rest ≡ order) =
        stepped_before p (after_step choices (select unit choices n) p others marks drawn (step unit s p)) ending end turns d order h in
        stepped_drawn (step unit s p) (select unit choices n) p others marks drawn before.0 (drawn_within n before.0) before.1

  module _ (c c' : Choices) (agree : (i : ℕ) → 0 < i → i ≤ d → choice c i ≡ choice c' i) where
    abbrev Same : (Name → List Name → ℕ → Selected) → (Name → List Name → ℕ → Selected) → List Name → Type 0
    Same one other order = (p : Name) (others : List Name) (x : ℕ) → one p others x ≡ End order → other p others x ≡ End order

    queue_same : (queue : List Name) (one other : Name → List Name → ℕ → Selected) (s : Processes) (drawn : ℕ) (order : List Name) → Same one other order →
        ((p : Name) (others : List Name) (x : ℕ) → one p others x ≡ End order → x ≤ d) → go_on (take_next c drawn queue) one s drawn ≡ End order
        → go_on (take_next c' drawn queue) other s drawn ≡ End order
    queue_same [] one other s drawn order ih l h = h
    queue_same (p ∷ []) one other s drawn order ih l h = ih p [] drawn h
    queue_same (p ∷ q ∷ ready) one other s drawn order ih l h =
        let drawn_more : drawn + 1 ≤ d = l _ _ (drawn + 1) h in
        let P : ℕ → Type 0 = λ v. go_on (taking_at (p ∷ q ∷ ready) (v % length (p ∷ q ∷ ready)) (drawn + 1)) other s drawn ≡ End order in
        subst P (agree (drawn + 1) (omega arith) drawn_more) (ih _ _ (drawn + 1) h)

    next_same : (next : Next) (one other : Name → List Name → ℕ → Selected) (s : Processes) (p : Name) (others : List Name) (drawn : ℕ) (order : List Name)
        → Same one other order →
        ((p : Name) (others : List Name) (x : ℕ) → one p others x ≡ End order → x ≤ d) → after_next c one s p others drawn next ≡ End order
        → after_next c' other s p others drawn next ≡ End order
    next_same stays one other s p others drawn order ih l h = ih p others drawn h
    next_same (joins ps) one other s p others drawn order ih l h = queue_same (others ++ ps) one other s drawn order ih l h

    tested_same : (b : Bool) (next : Next) (one other : Name → List Name → ℕ → Selected) (s : Processes) (p : Name) (others : List Name) (drawn : ℕ)
        (order : List Name) → Same one other order →
        ((p : Name) (others : List Name) (x : ℕ) → one p others x ≡ End order → x ≤ d) →
        (if b then finished outcome.standstill s.world.system s.world.turns drawn [] else after_next c one s p others drawn next) ≡ End order →
        (if b then finished outcome.standstill s.world.system s.world.turns drawn [] else after_next c' other s p others drawn next) ≡ End order
    tested_same true next one other s p others drawn order ih l h = h
    tested_same false next one other s p others drawn order ih l h = next_same next one other s p others drawn order ih l h

    stepped_same : (x : Stepped) (one other : More) (p : Name) (others marks : List Name) (drawn : ℕ) (order : List Name) →
        ((s : Processes) (marks : List Name) → Same (one s marks) (other s marks) order) →
        ((s : Processes) (marks : List Name) (p : Name) (others : List Name) (x : ℕ) → one s marks p others x ≡ End order → x ≤ d) →
        after_step c one p others marks drawn x ≡ End order → after_step c' other p others marks drawn x ≡ End order
    stepped_same (ended e system t) one other p others marks drawn order ih l h = h
    stepped_same (went s next quiet) one other p others marks drawn order ih l h =
        tested_same (is_standstill quiet (marked quiet p marks) (p ∷ others)) next (one s (marked quiet p marks)) (other s (marked quiet p marks)) s p others
        drawn order (ih s (marked quiet p marks)) (l s (marked quiet p marks)) h

    select_same : (n k : ℕ) → n ≤ k → (order : List Name) (s : Processes) (marks : List Name) (p : Name) (others : List Name) (drawn : ℕ) →
        select unit c n s marks p others drawn ≡ End order → select unit c' k s marks p others drawn ≡ End order
    select_same zero k le order s marks p others drawn h = absurd (cc)
    select_same (suc n) zero le order s marks p others drawn h = absurd (omega arith)
    select_same (suc n) (suc k) le order s marks p others drawn h =
        let before : (rest : List Name) × (after_step c (select unit c n) p others marks drawn (step unit s p) ≡ End rest) × (p ∷ rest ≡ order) =
        stepped_before p (after_step c (select unit c n) p others marks drawn (step unit s p)) ending end turns d order h in
        ap (stepped_first p)
        (stepped_same (step unit s p) (select unit c n) (select unit c' k) p others marks drawn before.0
        (λ s m q os x. select_same n k (omega arith) before.0 s m q os x) (drawn_within c n before.0) before.1)
        ∙ ap End before.2

-- the end of a selection
abbrev outcome_at : ℕ → Selected → Option Outcome
outcome_at bound unfinished = None
outcome_at bound (finished ending system turns drawn order) = Some (outcome_of system.now ending (bound - turns) drawn)

some-same : {A : Type 0} {a b : A} → Some a ≡ Some b → a ≡ b
some-same e = cc

module _ (unit : ProgramUnit) (system : State) (bound : ℕ) (choices : Choices) where
  same_end : (n k : ℕ) (x y : Ending) (s s' : Traced) (t t' d d' : ℕ) (o o' : List Name) → n ≤ k →
      select_from_start unit system bound choices n ≡ finished x s t d o → select_from_start unit system bound choices k ≡ finished y s' t' d' o'
      → finished x s t d o ≡ finished y s' t' d' o'
  same_end n k x y s s' t t' d d' o o' le e e' =
      sym (select_same unit x s t d choices choices (λ i _ _. refl) n k le o (start unit system bound) [] [] [] 0 e) ∙ e'

  same_outcome : (x y : Ending) (s s' : Traced) (t t' d d' : ℕ) (o o' : List Name) → finished x s t d o ≡ finished y s' t' d' o'
      → outcome_of s.now x (bound - t) d ≡ outcome_of s'.now y (bound - t') d'
  same_outcome x y s s' t t' d d' o o' e = some-same (ap (outcome_at bound) e)

pub selections_are_determined : SelectionsAreDetermined
selections_are_determined unit system bound choices one other a b =
    a.6 ∙ elim (cases_lt a.5.0 b.5.0) [
      | inl h ↦ same_outcome unit system bound choices a.0 b.0 a.1 b.1 a.2 b.2 a.3 b.3 a.4 b.4
          (same_end unit system bound choices a.5.0 b.5.0 a.0 b.0 a.1 b.1 a.2 b.2 a.3 b.3 a.4 b.4 (omega arith) a.5.1 b.5.1)
      | inr h ↦ sym (same_outcome unit system bound choices b.0 a.0 b.1 a.1 b.2 a.2 b.3 a.3 b.4 a.4
          (same_end unit system bound choices b.5.0 a.5.0 b.0 a.0 b.1 a.1 b.2 a.2 b.3 a.3 b.4 a.4 h b.5.1 a.5.1))
    ] ∙ sym b.6

-- ---- the record

length-first_choices : (c : Choices) (n : ℕ) → length (first_choices c n) ≡ n
length-first_choices c zero = refl
length-first_choices c (suc n) = omega (arith, length-append (first_choices c n) (choice c (suc n) ∷ []), length-first_choices c n)

first_choices-at : (c : Choices) (n i : ℕ) → 0 < i → i ≤ n → slice_index (first_choices c n) (i - 1) ≡ choice c i
first_choices-at c zero i h k = absurd (omega arith)
first_choices-at c (suc n) i h k = elim (cases_lt (i - 1) n) [
  | inl l ↦
      get_or-append (first_choices c n) (choice c (suc n) ∷ []) 0 (i - 1) (omega (arith, length-first_choices c n)) ∙ first_choices-at c n i h (omega arith)
  | inr l ↦
      let last : i - 1 ≡ length (first_choices c n) = omega (arith, length-first_choices c n) in
      let here : suc n ≡ i = omega arith in
      ap (slice_index (first_choices c n ++ choice c (suc n) ∷ [])) last ∙ get_or-append_seam (first_choices c n) (choice c (suc n)) [] 0 ∙ ap (choice c) here
]

pub record_replays : RecordReplays
record_replays unit system bound choices ending end turns drawn order e = (
  e.0,
  select_same unit ending end turns drawn choices (listed (first_choices choices drawn)) (λ i h k. sym (first_choices-at choices drawn i h k)) e.0 e.0
      (omega arith) order (start unit system bound) [] [] [] 0 e.1,
)
