-- The induction over a selection: the state that it is in is behind some steps of a stint that began where something covers it.
use Rattle.std.proofs.Common.{◌≡◌, ℕ, zero, suc, ◌<◌, ◌≤◌, ◌⊎◌, inl, inr, Bool, true, false, ◌||◌, if◌then◌else◌, List, [], ◌∷◌, ◌++◌, length}
use Rattle.std.proofs.Common.{Some, refl, sym, subst, ap, ◌∙◌, arith}
use Rattle.std.specs.Prelude.{⊤, ◌-◌}
use Rattle.edi_calls.specs.State.{State}
use Rattle.edi_calls.specs.Choice.{Choices}
use Rattle.edi_calls.specs.Names.{Name, same, find}
use Rattle.edi_calls.specs.Outcome as outcome
use Rattle.edi_calls.specs.Outcome.{Ending}
use Rattle.edi_calls.specs.Ready.{parent_of, has, all_marked, Next, stays, joins, Taking, nobody, taking, take_next, freed}
use Rattle.edi_calls.proofs.Tables.{same-equal, same-or-other, find-with_at-same}
use Rattle.edi_calls.proofs.Names.{some_is}
use Rattle.std.proofs.Common.{Option, None}
use Rattle.edi_unit.specs.Tree.{ProgramUnit}
use Rattle.edi_meaning.specs.Evaluation.{Evaluation, gives, ends}
use Rattle.edi_meaning.specs.Step.{Work, Standing, ready, at_when, waiting, Asks, Process, Processes, Stepped, went, ended, back, awaits, local_step, work_step, kernel, step, start}
use Rattle.edi_meaning.specs.Select.{Selected, unfinished, finished, stepped_first, marked, go_on, after_next, after_step, select}
use Rattle.edi_meaning.proofs.Lasting.{Gives}
use Rattle.edi_meaning.proofs.Kernel.{rest_of, Handles, kernel_handles, of_process}
use Rattle.edi_meaning.proofs.Sound.{or_true, has-append, once-append, right_false}
use Rattle.edi_meaning.proofs.Standstill.{Idle, SameBut, Marks, step_marks, idle_same, marked_one}
use Rattle.edi_explored.specs.Moves.{moves_on, moves_next, moves_after, moves}
use Rattle.edi_explored.specs.Stint.{behind, over, stint, stint_after}
use Rattle.edi_explored.specs.Covered.{SameButTurns, Reordered, CannotGo, Report, IsCutOrTold, AllTold, AllToldBelow, Followed, BeginsWith}
use Rattle.edi_explored.proofs.Members.{MembersTaken, members_taken}

-- ---- how a step leaves its process

-- who goes on in the same stint is ready, and only who stands at its `when` may be marked
abbrev pub Shaped : Name → Stepped → Type 0
Shaped p (ended ending system turns) = ⊤
Shaped p (went t stays quiet) = (quiet ≡ false) × (q : Process) × (find t.live p ≡ Some q) × (q.standing ≡ ready)
Shaped p (went t (joins ps) true) = ps ≡ p ∷ []
Shaped p (went t (joins ps) false) = ⊤

module _ (unit : ProgramUnit) (s : Processes) (p : Name) (q : Process) where
  again_shaped : (t : Processes) (quiet : Bool) → Shaped p (went t (joins (p ∷ [])) quiet)
  again_shaped t true = refl
  again_shaped t false = tt

  -- the parent joins, or nobody does
  freed_shaped : (t : Processes) (n : ℕ) (r : Name) → Shaped p (went t (freed n r) false)
  freed_shaped t zero r = tt
  freed_shaped t (suc n) r = tt

  shaped : Handles unit s p q (λ a w. ⊤) (λ ending system turns. ⊤) (Shaped p)
  shaped = record {
    of_end = λ ending system turns h. tt;
    of_goes = λ work w h. (refl, (record q { work = work; standing = ready }), find-with_at-same s.live p (record q { work = work; standing = ready }), refl);
    of_arrives = λ cs position work w h. tt;
    of_again = λ cs position quiet work w h. again_shaped (back s p (record q { work = work; standing = at_when cs position }) w) quiet;
    of_no_fork = λ bs line work w ending o h. tt;
    of_fork = λ bs line work w n share e h. tt;
    of_leaves = λ w k h. tt;
    of_awaited = λ w y n e g h. freed_shaped (back (rest_of s p w) (parent_of p) (record y { standing = awaits (n - 1) }) (rest_of s p w).world) (n - 1)
        (parent_of p);
  }

  any_gives : (r : Evaluation Asks) → Gives (λ a w. ⊤) (λ ending system turns. ⊤) r
  any_gives (gives a w) = tt
  any_gives (ends e system turns) = tt

pub step_shaped : (unit : ProgramUnit) (s : Processes) (p : Name) → Shaped p (step unit s p)
step_shaped unit s p = go (find s.live p) refl
  where
    go : (x : Option Process) → find s.live p ≡ x → Shaped p (step unit s p)
    go None e = subst (λ x. Shaped p (Rattle.edi_meaning.specs.Step.step_of unit s p x)) (sym e) tt
    go (Some q) e =
        let r : Evaluation Asks = local_step unit p q.size q.standing q.work s.world in
        of_process unit s p q (Shaped p) e (kernel_handles unit s p q _ _ (Shaped p) (shaped unit s p q) r (any_gives unit s p q r))

-- and what it marks cannot go
pub step_marked : (unit : ProgramUnit) (s : Processes) (p : Name) → Marks unit s p (step unit s p)
step_marked unit s p = go (find s.live p) refl
  where
    go : (x : Option Process) → find s.live p ≡ x → Marks unit s p (step unit s p)
    go None e = subst (λ x. Marks unit s p (Rattle.edi_meaning.specs.Step.step_of unit s p x)) (sym e) tt
    go (Some q) e = step_marks unit s p q e

-- ---- marks

module _ (unit : ProgramUnit) where
  abbrev pub AreIdle : Processes → List Name → Type 0
  AreIdle s marks = (m : Name) → has marks m ≡ true → Idle unit s.live s.world.store m

  pub marks_after : (s t : Processes) (p : Name) (marks : List Name) (quiet : Bool) (next : Next) → Marks unit s p (went t next quiet) → AreIdle s marks
      → AreIdle t (marked quiet p marks)
  marks_after s t p marks false next h k = λ m i. let a : false ≡ true = i in absurd (cc)
  marks_after s t p marks true next h k = λ m i. elim (or_true (same m p) (has marks m) i) [
    | inl e ↦ idle_same unit s t m h.0 (subst (Idle unit s.live s.world.store) (sym (same-equal m p e)) h.1)
    | inr e ↦ idle_same unit s t m h.0 (k m e)
  ]

  cannot_go : (s : Processes) (p : Name) → Idle unit s.live s.world.store p → CannotGo unit s p
  cannot_go s p i = record {
    process = i.process;
    found = i.found;
    clauses = i.clauses;
    position = i.position;
    standing = i.standing;
    quiet = i.quiet;
    none = i.none;
  }

but_turns : (s t : Processes) → SameBut s t → SameButTurns s t
but_turns s t e = record { live = e.live; store = e.store; system = e.system }

pub nothing_differs : (s : Processes) → SameButTurns s s
nothing_differs s = record { live = refl; store = refl; system = refl }

module _ (unit : ProgramUnit) (report : Report) (V : Type 0) (Covers : V → Processes → List Name → Type 0) (Has : ℕ → V → Type 0)
    (f : Followed unit report V Covers Has) (choices : Choices) where
  -- something that is had covers this
  pub record Covered (n : ℕ) (s : Processes) (names : List Name) : Type 0 where
    pub by : V
    pub has_it : Has n by
    pub covers : Covers by s names

  -- p has been taken, and goes on in its stint
  pub record Going (n : ℕ) (s : Processes) (p : Name) (others : List Name) : Type 0 where
    pub reports : (steps : ℕ) (ending : Ending) (shown : List ℕ) → stint unit steps s p ≡ over ending shown → IsCutOrTold report ending shown
    pub leads : (steps : ℕ) (t : Processes) (joined : List Name) → stint unit steps s p ≡ behind t joined false → Covered n t (others ++ joined)
    -- it has just begun, or p is ready
    pub at : Covered (suc n) s (p ∷ others) ⊎ ((q : Process) × (find s.live p ≡ Some q) × (q.standing ≡ ready))

  pub begins : (n : ℕ) (s : Processes) (p : Name) (others : List Name) → Covered (suc n) s (p ∷ others) → Going n s p others
  begins n s p others c = record {
    reports = λ steps ending shown e. f.reports n c.by s p others steps ending shown c.has_it c.covers e;
    leads = λ steps t joined e.
        let l = f.leads n c.by s t p others joined steps c.has_it c.covers e in
        record { by = l.0; has_it = l.1; covers = l.2 };
    at = inl c;
  }

  -- one step on in the stint
  pub goes_on : (n : ℕ) (s t : Processes) (p : Name) (others : List Name) (quiet : Bool) → step unit s p ≡ went t stays quiet →
      (q : Process) × (find t.live p ≡ Some q) × (q.standing ≡ ready) → Going n s p others → Going n t p others
  goes_on n s t p others quiet e r g = record {
    reports = λ steps ending shown h. g.reports (suc steps) ending shown (ap (stint_after (λ u. stint unit steps u p)) e ∙ h);
    leads = λ steps u joined h. g.leads (suc steps) u joined (ap (stint_after (λ u. stint unit steps u p)) e ∙ h);
    at = inr r;
  }

  -- ---- the ending of a selection is reported, where it makes fewer moves

  abbrev pub Reported : (n : ℕ) → (moved : ℕ → ℕ) → Selected → Type 0
  Reported n moved unfinished = ⊤
  Reported n moved (finished ending end turns drawn order) = moved (length order) ≤ n → IsCutOrTold report ending end.now.shown

  abbrev Rest : Type 0
  Rest = Processes → List Name → Name → List Name → ℕ → Selected

  abbrev RestMoves : Type 0
  RestMoves = ℕ → Processes → List Name → Name → List Name → ℕ → ℕ

  abbrev RestReported : Rest → RestMoves → Type 0
  RestReported more moved =
      (n : ℕ) (s : Processes) (marks : List Name) (p : Name) (others : List Name) (drawn : ℕ) → AreIdle unit s marks → Going n s p others →
      Reported n (λ j. moved j s marks p others drawn) (more s marks p others drawn)

  -- a standstill is reported
  stands_reported : (n : ℕ) (s : Processes) (names : List Name) → Covered (suc n) s names → ((x : Name) → has names x ≡ true → Idle unit s.live s.world.store x) →
      IsCutOrTold report outcome.standstill s.world.system.now.shown
  stands_reported n s names c idle = inr (f.stands n c.by s names c.has_it c.covers (λ x h. cannot_go unit s x (idle x h)))

  -- who is ready in the state behind a quiet attempt: the same ones, in another order
  pub to_back : (p : Name) (others : List Name) → Reordered (p ∷ others) (others ++ p ∷ [])
  to_back p others = record {
    members = λ x. has-append others (p ∷ []) x ∙ turn (has others x) (same x p);
    once = λ o. once-append others (p ∷ []) o.1 (refl, tt) (λ x h. right_false (same x p) ∙ apart o.0 x h (same-or-other x p));
  }
    where
      apart : has others p ≡ false → (x : Name) → has others x ≡ true → (x ≡ p) ⊎ (same x p ≡ false) → same x p ≡ false
      apart n x h (inl e) = let a : has others p ≡ true = sym (ap (has others) e) ∙ h in let c : false ≡ true = sym n ∙ a in absurd (cc)
      apart n x h (inr m) = m

      turn : (a b : Bool) → (a || (b || false)) ≡ (b || a)
      turn true true = refl
      turn true false = refl
      turn false true = refl
      turn false false = refl

  -- an attempt that marks its process leaves a state that the same covers
  pub quiet_covered : (n : ℕ) (s t : Processes) (p : Name) (others other : List Name) → SameBut s t → Idle unit s.live s.world.store p → Going n s p others →
      Reordered (p ∷ others) other → Covered (suc n) t other
  quiet_covered n s t p others other same i g m = go g.at
    where
      go : Covered (suc n) s (p ∷ others) ⊎ ((q : Process) × (find s.live p ≡ Some q) × (q.standing ≡ ready)) → Covered (suc n) t other
      go (inl c) = record { by = c.by; has_it = c.has_it; covers = f.forgets c.by s t (p ∷ others) other c.covers (but_turns s t same) m }
      go (inr r) =
          let e : ready ≡ at_when i.clauses i.position = sym r.2 ∙ ap (λ (x : Process). x.standing) (some_is (sym r.1 ∙ i.found)) ∙ i.standing in
          absurd (cc)

  -- the next is taken
  taken_reported : (n : ℕ) (s : Processes) (marks names : List Name) (drawn : ℕ) (more : Rest) (moved : RestMoves) → AreIdle unit s marks →
      Covered (suc n) s names → RestReported more moved → (t : Taking) → MembersTaken names t →
      Reported n (λ j. moves_on t (λ q rest d. moved j s marks q rest d)) (go_on t (more s marks) s drawn)
  taken_reported n s marks names drawn more moved i c h nobody m =
      λ l. stands_reported n s names c (λ x k. let a : false ≡ true = sym (ap (λ l. has l x) m) ∙ k in absurd (cc))
  taken_reported n s marks names drawn more moved i c h (taking p others d) m =
      h n s marks p others d i (begins n s p others
      (record { by = c.by; has_it = c.has_it; covers = f.forgets c.by s s names (p ∷ others) c.covers (nothing_differs s) m }))

  -- a move more
  moved_once : (n : ℕ) (s : Processes) (marks names : List Name) (drawn : ℕ) (more : Rest) (moved : RestMoves) → AreIdle unit s marks →
      Covered n s names → RestReported more moved → (t : Taking) → MembersTaken names t →
      Reported n (λ j. suc (moves_on t (λ q rest d. moved j s marks q rest d))) (go_on t (more s marks) s drawn)
  moved_once n s marks names drawn more moved i c h t m = go n c
    where
      none_left : (r : Selected) (m : ℕ → ℕ) → Reported zero (λ j. suc (m j)) r
      none_left unfinished m = tt
      none_left (finished ending end turns d order) m = λ l. absurd (omega (arith, l))

      one_less : (n : ℕ) (r : Selected) (m : ℕ → ℕ) → Reported n m r → Reported (suc n) (λ j. suc (m j)) r
      one_less n unfinished m h = tt
      one_less n (finished ending end turns d order) m h = λ l. h (omega (arith, l))

      go : (n : ℕ) → Covered n s names → Reported n (λ j. suc (moves_on t (λ q rest d. moved j s marks q rest d))) (go_on t (more s marks) s drawn)
      go zero c = none_left (go_on t (more s marks) s drawn) (λ j. moves_on t (λ q rest d. moved j s marks q rest d))
      go (suc n) c = one_less n (go_on t (more s marks) s drawn) (λ j. moves_on t (λ q rest d. moved j s marks q rest d)) (taken_reported n s marks names drawn more moved i c h t m)

  -- behind a step
  next_reported : (n : ℕ) (s t : Processes) (marks : List Name) (p : Name) (others : List Name) (drawn : ℕ) (quiet : Bool) (next : Next) (more : Rest)
      (moved : RestMoves) → step unit s p ≡ went t next quiet → Shaped p (went t next quiet) → Marks unit s p (went t next quiet) → AreIdle unit t marks →
      Going n s p others → RestReported more moved →
      Reported n (λ j. moves_next choices (moved j t marks) p others drawn quiet next) (after_next choices (more t marks) t p others drawn next)
  next_reported n s t marks p others drawn quiet stays more moved e shape m i g h =
      h n t marks p others drawn i (goes_on n s t p others quiet e (shape.1, shape.2, shape.3) g)
  next_reported n s t marks p others drawn false (joins ps) more moved e shape m i g h =
      moved_once n t marks (others ++ ps) drawn more moved i (g.leads 1 t ps (ap (stint_after (λ u. stint unit 0 u p)) e)) h
      (take_next choices drawn (others ++ ps)) (members_taken choices drawn (others ++ ps))
  next_reported n s t marks p others drawn true (joins ps) more moved e shape m i g h =
      taken_reported n t marks (others ++ ps) drawn more moved i
      (quiet_covered n s t p others (others ++ ps) m.0 m.1 g (subst (λ l. Reordered (p ∷ others) (others ++ l)) (sym shape) (to_back p others))) h
      (take_next choices drawn (others ++ ps)) (members_taken choices drawn (others ++ ps))

  tested_reported : (n : ℕ) (s t : Processes) (marks : List Name) (p : Name) (others : List Name) (drawn : ℕ) (quiet : Bool) (next : Next) (more : Rest)
      (moved : RestMoves) → step unit s p ≡ went t next quiet → Shaped p (went t next quiet) → Marks unit s p (went t next quiet) →
      AreIdle unit t (marked quiet p marks) → Going n s p others → RestReported more moved →
      Reported n (λ j. moves_after choices (moved j) p others marks drawn (went t next quiet))
      (after_step choices more p others marks drawn (went t next quiet))
  tested_reported n s t marks p others drawn false next more moved e shape m i g h =
      next_reported n s t [] p others drawn false next more moved e shape m i g h
  tested_reported n s t marks p others drawn true next more moved e shape m i g h = go (all_marked (p ∷ marks) (p ∷ others)) refl
    where
      go : (b : Bool) → all_marked (p ∷ marks) (p ∷ others) ≡ b →
          Reported n (λ j. if b then 0 else moves_next choices (moved j t (p ∷ marks)) p others drawn true next)
          (if b then finished outcome.standstill t.world.system t.world.turns drawn [] else after_next choices (more t (p ∷ marks)) t p others drawn next)
      go true a = λ l. stands_reported n t (p ∷ others) (quiet_covered n s t p others (p ∷ others) m.0 m.1 g (record { members = λ x. refl; once = λ o. o }))
          (λ x k. i x (marked_one (p ∷ marks) (p ∷ others) x a k))
      go false a = next_reported n s t (p ∷ marks) p others drawn true next more moved e shape m i g h

  stepped_reported : (n : ℕ) (s : Processes) (marks : List Name) (p : Name) (others : List Name) (drawn : ℕ) (x : Stepped) (more : Rest) (moved : RestMoves) →
      step unit s p ≡ x → Shaped p x → Marks unit s p x → AreIdle unit s marks → Going n s p others → RestReported more moved →
      Reported n (λ j. moves_after choices (moved j) p others marks drawn x) (after_step choices more p others marks drawn x)
  stepped_reported n s marks p others drawn (ended ending system turns) more moved e shape m i g h =
      λ l. g.reports 1 ending system.now.shown (ap (stint_after (λ u. stint unit 0 u p)) e)
  stepped_reported n s marks p others drawn (went t next quiet) more moved e shape m i g h =
      tested_reported n s t marks p others drawn quiet next more moved e shape m (marks_after unit s t p marks quiet next m i) g h

  first_reported : (n : ℕ) (p : Name) (r : Selected) (moved : ℕ → ℕ) → Reported n (λ j. moved (suc j)) r → Reported n moved (stepped_first p r)
  first_reported n p unfinished moved h = tt
  first_reported n p (finished ending end turns drawn order) moved h = h

  pub all_reported : (steps : ℕ) → RestReported (select unit choices steps) (λ j. moves unit choices j)
  all_reported zero n s marks p others drawn i g = tt
  all_reported (suc steps) n s marks p others drawn i g =
      first_reported n p _ (λ j. moves unit choices j s marks p others drawn)
      (stepped_reported n s marks p others drawn (step unit s p) (select unit choices steps) (λ j. moves unit choices j) refl (step_shaped unit s p)
      (step_marked unit s p) i g (all_reported steps))

-- ---- the laws

-- of the executions of fewer than so many moves
pub followed_below : (unit : ProgramUnit) (system : State) (report : Report) (V : Type 0)
    (Covers : V → Processes → List Name → Type 0) (Has : ℕ → V → Type 0) (v : V) (most : ℕ) → Followed unit report V Covers Has →
    BeginsWith unit system V Covers v → Has most v → AllToldBelow most unit system report
followed_below unit system report V Covers Has v most f b h bound choices ending end turns drawn order e less = go most h less
  where
    go : (n : ℕ) → Has n v → moves unit choices (length order) (start unit system bound) [] [] [] 0 < n → IsCutOrTold report ending end.now.shown
    go zero h l = absurd (omega (arith, l))
    go (suc n) h l =
        let r : Reported unit report V Covers Has f choices n (λ j. moves unit choices j (start unit system bound) [] [] [] 0)
        (select unit choices e.0 (start unit system bound) [] [] [] 0) =
        all_reported unit report V Covers Has f choices e.0 n (start unit system bound) [] [] [] 0
        (λ m i. let a : false ≡ true = i in absurd (cc))
        (begins unit report V Covers Has f choices n (start unit system bound) [] [] (record { by = v; has_it = h; covers = b bound })) in
        subst (Reported unit report V Covers Has f choices n (λ j. moves unit choices j (start unit system bound) [] [] [] 0)) e.1 r (omega (arith, l))

-- of all executions
pub followed_all : (unit : ProgramUnit) (system : State) (report : Report) (V : Type 0)
    (Covers : V → Processes → List Name → Type 0) (Has : ℕ → V → Type 0) (v : V) → Followed unit report V Covers Has →
    BeginsWith unit system V Covers v → ((n : ℕ) → Has n v) → AllTold unit system report
followed_all unit system report V Covers Has v f b h bound choices ending end turns drawn order e =
    let n : ℕ = suc (moves unit choices (length order) (start unit system bound) [] [] [] 0) in
    followed_below unit system report V Covers Has v n f b (h n) bound choices ending end turns drawn order e (omega arith)
