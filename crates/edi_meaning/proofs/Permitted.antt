-- The execution that the choices select is a permitted one.
use Rattle.std.proofs.Common.{◌≡◌, ℕ, zero, suc, ◌+◌, ◌-◌, ◌<◌, ◌≤◌, ◌⊎◌, inl, inr, Bool, true, false, ◌||◌, if◌then◌else◌, List, [], ◌∷◌, ◌++◌, length}
use Rattle.std.proofs.Common.{Option, Some, None, ◌&&◌, refl, sym, subst, ap, ◌∙◌, arith}
use Rattle.std.specs.Prelude.{⊤}
use Rattle.std.proofs.lemmas.List.{append-nil}
use Rattle.edi_calls.specs.State.{State, Traced}
use Rattle.edi_calls.specs.Choice.{Choices}
use Rattle.edi_calls.specs.Names.{Name, Table, same, find, with_at, without}
use Rattle.edi_calls.specs.Outcome as outcome
use Rattle.edi_calls.specs.Outcome.{Ending}
use Rattle.edi_calls.specs.Ready.{child, parent_of, has, children, Next, stays, joins, Taking, nobody, taking, take_next, freed}
use Rattle.edi_calls.proofs.Tables.{same-refl, same-equal, same-or-other, find-with_at-same, find-with_at-other, find-without-same, find-without-other}
use Rattle.edi_unit.specs.Tree.{ProgramUnit}
use Rattle.edi_meaning.specs.Store.{shape, now}
use Rattle.edi_meaning.specs.Evaluation.{World, Evaluation, gives, ends}
use Rattle.edi_meaning.specs.Step.{Work, ready, at_when, waiting, Asks, Process, Processes, Stepped, went, ended, back, with_children, fork_taken, awaits}
use Rattle.edi_meaning.specs.Step.{local_step, step, start}
use Rattle.edi_meaning.specs.Permitted.{is_running, is_running_process, may_step, Led, over, nowhere, onward, permitted}
use Rattle.edi_meaning.specs.Select.{Selected, unfinished, finished, stepped_first, marked, is_standstill, go_on, after_next, after_step, select}
use Rattle.edi_meaning.specs.Select.{select_from_start}
use Rattle.edi_meaning.specs.Laws.{LeadsTo, SelectIsPermitted}
use Rattle.edi_meaning.proofs.Lasting.{IsOwn, Gives}
use Rattle.edi_meaning.proofs.Kernel.{rest_of, Handles, kernel_handles, of_process}
use Rattle.edi_meaning.proofs.Work.{Falls, standing_size, work_size, step_falls}
use Rattle.edi_meaning.proofs.Family.{Fresh, fresh_changed, fresh_without, free_name, free_next, Forked, forked_children, start_fresh}
use Rattle.edi_meaning.proofs.Sound.{or_true, not_true, true_right, right_false, has-append, has-child, once-append, has-children, once-children, Each}
use Rattle.edi_meaning.proofs.Sound.{EachTaken, each_next}
use Rattle.edi_meaning.proofs.Standstill.{Idle, Marks, step_marks, idle_same, AllIdle, nothing_happens, marked_one}

-- p is ready or at its `when`
abbrev pub May : Table Process → Name → Type 0
May live p = is_running_process (find live p) ≡ true

abbrev pub StepSound : Name → List Name → Stepped → Type 0
StepSound p others (ended e system turns) = ⊤
StepSound p others (went s stays quiet) = Fresh s.live × Each (May s.live) (p ∷ others)
StepSound p others (went s (joins ps) quiet) = Fresh s.live × Each (May s.live) (others ++ ps)

-- somebody else in a list
other_than : (others : List Name) (p x : Name) → has others p ≡ false → has others x ≡ true → same x p ≡ false
other_than others p x n h = go (same-or-other x p)
  where
    go : (x ≡ p) ⊎ (same x p ≡ false) → same x p ≡ false
    go (inl e) = let a : has others p ≡ true = sym (ap (has others) e) ∙ h in let c : false ≡ true = sym n ∙ a in absurd (cc)
    go (inr m) = m

false_or : (a : Bool) → a ≡ false → (a || false) ≡ false
false_or a e = ap (λ b. b || false) e

-- who is in a list beside somebody else is among the others
among : (a b : Bool) → a ≡ false → (a || b) ≡ true → b ≡ true
among true b e f = absurd (cc)
among false b e f = f

module _ (unit : ProgramUnit) (s : Processes) (p : Name) (q : Process) (others : List Name) (found : find s.live p ≡ Some q) (fresh : Fresh s.live)
    (each : Each (May s.live) (p ∷ others)) where
  others_may : (x : Name) → has others x ≡ true → May s.live x
  others_may x h = each.holds x (ap (λ b. same x p || b) h ∙ true_right (same x p))

  -- who may step beside p is among the others
  may_others : (x : Name) → same x p ≡ false → May s.live x → has others x ≡ true
  may_others x n m = among (same x p) (has others x) n (each.all x m)

  changed_others : (q' : Process) (x : Name) → same x p ≡ false → May (with_at s.live p q') x → has others x ≡ true
  changed_others q' x n m = may_others x n (sym (ap is_running_process (find-with_at-other s.live p x q' n)) ∙ m)

  -- the others, where only p changed
  others_changed : (q' : Process) (x : Name) → has others x ≡ true → May (with_at s.live p q') x
  others_changed q' x h = ap is_running_process (find-with_at-other s.live p x q' (other_than others p x each.once.0 h)) ∙ others_may x h

  self_changed : (q' : Process) (x : Name) → is_running q'.standing ≡ true → same x p ≡ true → May (with_at s.live p q') x
  self_changed q' x r h = ap (λ y. is_running_process (find (with_at s.live p q') y)) (same-equal x p h)
      ∙ ap is_running_process (find-with_at-same s.live p q') ∙ r

  goes_sound : (q' : Process) → q.forks ≤ q'.forks → is_running q'.standing ≡ true → Fresh (with_at s.live p q') × Each (May (with_at s.live p q')) (p ∷ others)
  goes_sound q' le r = (
    fresh_changed s.live p q q' found le fresh,
    record {
      once = each.once;
      holds = λ x h. elim (or_true (same x p) (has others x) h) [ inl e ↦ self_changed q' x r e | inr e ↦ others_changed q' x e ];
      all = λ x m. elim (same-or-other x p) [
        | inl e ↦ ap (λ b. b || has others x) (ap (λ y. same y p) e ∙ same-refl p)
        | inr n ↦ ap (λ b. same x p || b) (changed_others q' x n m) ∙ true_right (same x p)
      ];
    },
  )

  back_sound : (q' : Process) → q.forks ≤ q'.forks → is_running q'.standing ≡ true → Fresh (with_at s.live p q') × Each (May (with_at s.live p q'))
      (others ++ p ∷ [])
  back_sound q' le r = (
    fresh_changed s.live p q q' found le fresh,
    record {
      once = once-append others (p ∷ []) each.once.1 (refl, tt) (λ x h. false_or (same x p) (other_than others p x each.once.0 h));
      holds = λ x h. elim (or_true (has others x) (has (p ∷ []) x) (sym (has-append others (p ∷ []) x) ∙ h)) [
        | inl e ↦ others_changed q' x e
        | inr e ↦ self_changed q' x r (sym (right_false (same x p)) ∙ e)
      ];
      all = λ x m. has-append others (p ∷ []) x ∙ elim (same-or-other x p) [
        | inl e ↦ ap (λ b. has others x || (b || false)) (ap (λ y. same y p) e ∙ same-refl p) ∙ true_right (has others x)
        | inr n ↦ ap (λ b. b || has (p ∷ []) x) (changed_others q' x n m)
      ];
    },
  )

  -- the others and the children stand once each, and may step
  fork_each : (q' : Process) (n : ℕ) (after : Table Process) → q'.forks ≡ suc q.forks → is_running q'.standing ≡ false → Forked (with_at s.live p q') after p
      (suc q.forks) 0 n → Each (May after) (others ++ children p (suc q.forks) 0 n)
  fork_each q' n after e waits fork = record {
    once = once-append others (children p (suc q.forks) 0 n) each.once.1 (once-children p (suc q.forks) 0 n)
        (λ x h. not_true (has (children p (suc q.forks) 0 n) x) (λ c. apart x h (has-children p (suc q.forks) 0 n x c)));
    holds = λ x h. elim (or_true (has others x) (has (children p (suc q.forks) 0 n) x) (sym (has-append others (children p (suc q.forks) 0 n) x) ∙ h)) [
      | inl o ↦ kept_may x (others_changed q' x o)
      | inr c ↦ born_may x (has-children p (suc q.forks) 0 n x c)
    ];
    all = λ x m. has-append others (children p (suc q.forks) 0 n) x ∙ in_either x (find after x) refl m;
  }
    where
      apart : (x : Name) → has others x ≡ true → (j : ℕ) × (0 ≤ j) × (j < 0 + n) × (x ≡ child p (suc q.forks) j) → ⊥
      apart x h c =
          let gone : find (with_at s.live p q') (child p (suc q.forks) c.0) ≡ None =
          free_name (with_at s.live p q') p (suc q.forks) 0 c.0 (omega arith) (free_next s.live p q q' found fresh) in
          let no : May (with_at s.live p q') x → ⊥ = λ m.
          let a : false ≡ true = sym (ap is_running_process (ap (find (with_at s.live p q')) c.3 ∙ gone)) ∙ m in absurd (cc) in
          no (others_changed q' x h)

      kept_may : (x : Name) → May (with_at s.live p q') x → May after x
      kept_may x m = go (find (with_at s.live p q') x) refl m
        where
          go : (y : Option Process) → find (with_at s.live p q') x ≡ y → is_running_process y ≡ true → May after x
          go None g h = absurd (cc)
          go (Some y) g h = ap is_running_process (fork.kept x y g) ∙ h

      -- the parent waits
      parent_waits : May (with_at s.live p q') p → ⊥
      parent_waits m = let a : false ≡ true = sym (ap is_running_process (find-with_at-same s.live p q') ∙ waits) ∙ m in absurd (cc)

      was_other : (x : Name) → May (with_at s.live p q') x → has others x ≡ true
      was_other x may = elim (same-or-other x p) [
        | inl k ↦ absurd (parent_waits (subst (May (with_at s.live p q')) k may))
        | inr k ↦ changed_others q' x k may
      ]

      in_either : (x : Name) (y : Option Process) → find after x ≡ y → May after x → (has others x || has (children p (suc q.forks) 0 n) x) ≡ true
      in_either x None g m = let a : false ≡ true = sym (ap is_running_process g) ∙ m in absurd (cc)
      in_either x (Some y) g m = elim (fork.only x y g) [
        | inl old ↦
            let may : May (with_at s.live p q') x = ap is_running_process old ∙ sym (ap is_running_process g) ∙ m in
            let here : has others x ≡ true = was_other x may in
            ap (λ b. b || has (children p (suc q.forks) 0 n) x) here
        | inr new ↦ ap (λ b. has others x || b) (ap (has (children p (suc q.forks) 0 n)) new.3 ∙ has-child p (suc q.forks) 0 n new.0 new.1 new.2)
            ∙ true_right (has others x)
      ]

      born_may : (x : Name) → (j : ℕ) × (0 ≤ j) × (j < 0 + n) × (x ≡ child p (suc q.forks) j) → May after x
      born_may x c =
          let b : (y : Process) × (find after (child p (suc q.forks) c.0) ≡ Some y) × (y.standing ≡ ready) = fork.born c.0 c.1 c.2 in
          ap (λ z. is_running_process (find after z)) c.3 ∙ ap is_running_process b.1 ∙ ap is_running b.2

  fork_sound : (bs : List ℕ) (work : List Work) (w : World) (n share : ℕ) → StepSound p others (fork_taken unit s p q bs work w (suc n) share)
  fork_sound bs work w n share =
      let f = suc q.forks in
      let q' : Process = record q { forks = suc q.forks; work = work; standing = waiting (length bs) } in
      let s1 : Processes = back s p q' (record w { turns = n }) in
      let after : Table Process = (with_children unit p f 0 share (now (shape w.store) p) bs s1).live in
      let fork : Forked s1.live after p f 0 (length bs) =
      forked_children unit p f share (now (shape w.store) p) bs 0 q' s1 (find-with_at-same s.live p q') (omega arith) (free_next s.live p q q' found fresh)
      (fresh_changed s.live p q q' found (omega arith) fresh) in
      (fork.fresh, fork_each q' (length bs) after refl refl fork)

  -- ---- its end

  rest_may : (x : Name) → has others x ≡ true → May (without s.live p) x
  rest_may x h = ap is_running_process (find-without-other s.live p x (other_than others p x each.once.0 h)) ∙ others_may x h

  may_rest : (x : Name) → May (without s.live p) x → has others x ≡ true
  may_rest x m = elim (same-or-other x p) [
    | inl e ↦ let a : false ≡ true = sym (ap is_running_process (ap (find (without s.live p)) e ∙ find-without-same s.live p)) ∙ m in absurd (cc)
    | inr n ↦ may_others x n (sym (ap is_running_process (find-without-other s.live p x n)) ∙ m)
  ]

  nobody_joins : (live : Table Process) → Fresh live → ((x : Name) → has others x ≡ true → May live x) → ((x : Name) → May live x → has others x ≡ true)
      → Fresh live × Each (May live) (others ++ [])
  nobody_joins live f h a = (f, subst (Each (May live)) (sym (append-nil others)) (record { once = each.once.1; holds = h; all = a }))

  -- its parent waits for one child less
  awaited_sound : (w : World) (r : Name) (y : Process) (n : ℕ) → find (without s.live p) r ≡ Some y → y.standing ≡ waiting n →
      StepSound p others (went (back (rest_of s p w) r (record y { standing = awaits (n - 1) }) (rest_of s p w).world) (freed (n - 1) r) false)
  awaited_sound w r y n e g = awaited (n - 1)
    where
      -- the parent waits, so it is not in the list
      waits : May (without s.live p) r → ⊥
      waits m = let a : false ≡ true = sym (ap is_running_process e ∙ ap is_running g) ∙ m in absurd (cc)

      apart : (x : Name) → has others x ≡ true → same x r ≡ false
      apart x h = go (same-or-other x r)
        where
          go : (x ≡ r) ⊎ (same x r ≡ false) → same x r ≡ false
          go (inl k) = absurd (waits (subst (May (without s.live p)) k (rest_may x h)))
          go (inr k) = k

      still : (y' : Process) (x : Name) → has others x ≡ true → May (with_at (without s.live p) r y') x
      still y' x h = ap is_running_process (find-with_at-other (without s.live p) r x y' (apart x h)) ∙ rest_may x h

      changed_rest : (y' : Process) (x : Name) → same x r ≡ false → May (with_at (without s.live p) r y') x → has others x ≡ true
      changed_rest y' x n m = may_rest x (sym (ap is_running_process (find-with_at-other (without s.live p) r x y' n)) ∙ m)

      still_waits : (m : ℕ) (x : Name) → May (with_at (without s.live p) r (record y { standing = waiting (suc m) })) x → has others x ≡ true
      still_waits m x t = elim (same-or-other x r) [
        | inl e ↦
            let gone : find (with_at (without s.live p) r (record y { standing = waiting (suc m) })) x ≡ Some (record y { standing = waiting (suc m) }) =
            ap (find (with_at (without s.live p) r (record y { standing = waiting (suc m) }))) e ∙ find-with_at-same (without s.live p) r
            (record y { standing = waiting (suc m) }) in
            let a : false ≡ true = sym (ap is_running_process gone) ∙ t in absurd (cc)
        | inr n ↦ changed_rest (record y { standing = waiting (suc m) }) x n t
      ]

      awaited : (m : ℕ) → StepSound p others (went (back (rest_of s p w) r (record y { standing = awaits m }) (rest_of s p w).world) (freed m r) false)
      awaited zero = (
        fresh_changed (without s.live p) r y (record y { standing = ready }) e (omega arith) (fresh_without s.live p fresh),
        record {
          once = once-append others (r ∷ []) each.once.1 (refl, tt) (λ x h. false_or (same x r) (apart x h));
          holds = λ x h. elim (or_true (has others x) (has (r ∷ []) x) (sym (has-append others (r ∷ []) x) ∙ h)) [
            | inl o ↦ still (record y { standing = ready }) x o
            | inr o ↦ ap (λ z. is_running_process (find (with_at (without s.live p) r (record y { standing = ready })) z))
                (same-equal x r (sym (right_false (same x r)) ∙ o))
                ∙ ap is_running_process (find-with_at-same (without s.live p) r (record y { standing = ready }))
          ];
          all = λ x t. has-append others (r ∷ []) x ∙ elim (same-or-other x r) [
            | inl e ↦ ap (λ b. has others x || (b || false)) (ap (λ z. same z r) e ∙ same-refl r) ∙ true_right (has others x)
            | inr n ↦ ap (λ b. b || has (r ∷ []) x) (changed_rest (record y { standing = ready }) x n t)
          ];
        },
      )
      awaited (suc m) = nobody_joins (with_at (without s.live p) r (record y { standing = waiting (suc m) }))
          (fresh_changed (without s.live p) r y (record y { standing = waiting (suc m) }) e (omega arith) (fresh_without s.live p fresh))
          (still (record y { standing = waiting (suc m) })) (still_waits m)

  sound : Handles unit s p q (λ a w. ⊤) (λ ending system turns. ⊤) (StepSound p others)
  sound = record {
    of_end = λ ending system turns h. tt;
    of_goes = λ work w h. goes_sound (record q { work = work; standing = ready }) (omega arith) refl;
    of_arrives = λ cs position work w h. back_sound (record q { work = work; standing = at_when cs position }) (omega arith) refl;
    of_again = λ cs position quiet work w h. back_sound (record q { work = work; standing = at_when cs position }) (omega arith) refl;
    of_no_fork = λ bs line work w ending o h. tt;
    of_fork = λ bs line work w n share e h. fork_sound bs work w n share;
    of_leaves = λ w k h. nobody_joins (without s.live p) (fresh_without s.live p fresh) rest_may may_rest;
    of_awaited = λ w y n e g h. awaited_sound w (parent_of p) y n e g;
  }

  all_gives : (r : Evaluation Asks) → Gives (λ a w. ⊤) (λ ending system turns. ⊤) r
  all_gives (gives a w) = tt
  all_gives (ends ending system turns) = tt

pub step_sound : (unit : ProgramUnit) (s : Processes) (p : Name) (q : Process) (others : List Name) → find s.live p ≡ Some q → Fresh s.live
    → Each (May s.live) (p ∷ others) → StepSound p others (step unit s p)
step_sound unit s p q others found fresh each =
    let r : Evaluation Asks = local_step unit p q.size q.standing q.work s.world in
    of_process unit s p q (StepSound p others) found
    (kernel_handles unit s p q _ _ (StepSound p others) (sound unit s p q others found fresh each) r (all_gives unit s p q others found fresh each r))

-- ---- marks

module _ (unit : ProgramUnit) where
  -- every marked process is idle
  abbrev AreIdle : Processes → List Name → Type 0
  AreIdle s marks = (m : Name) → has marks m ≡ true → Idle unit s.live s.world.store m

  marks_after : (s t : Processes) (p : Name) (marks : List Name) (quiet : Bool) (next : Next) → Marks unit s p (went t next quiet) → AreIdle s marks
      → AreIdle t (marked quiet p marks)
  marks_after s t p marks false next h k = λ m i. let a : false ≡ true = i in absurd (cc)
  marks_after s t p marks true next h k = λ m i. elim (or_true (same m p) (has marks m) i) [
    | inl e ↦ idle_same unit s t m h.0 (subst (Idle unit s.live s.world.store) (sym (same-equal m p e)) h.1)
    | inr e ↦ idle_same unit s t m h.0 (k m e)
  ]

  and_true : (a b : Bool) → (a && b) ≡ true → (a ≡ true) × (b ≡ true)
  and_true true b e = (refl, e)
  and_true false b e = absurd (cc)

  -- where every ready process is marked, every process that may step is idle
  all_idle : (s t : Processes) (p : Name) (others marks : List Name) (quiet : Bool) (next : Next) → Each (May s.live) (p ∷ others)
      → Marks unit s p (went t next quiet) → AreIdle t (marked quiet p marks) →
      is_standstill quiet (marked quiet p marks) (p ∷ others) ≡ true → AllIdle unit t
  all_idle s t p others marks false next each h k e = absurd (cc)
  all_idle s t p others marks true next each h k e = λ x m.
      k x (marked_one (p ∷ marks) (p ∷ others) x e (each.all x (ap (λ l. is_running_process (find l x)) (sym h.0.live) ∙ m)))

-- ---- along a selection

-- how a step that ends the program ends it
own_leads : (unit : ProgramUnit) (ending : Ending) (end : Traced) (turns : ℕ) → IsOwn ending → LeadsTo unit (over ending end turns) ending end turns
own_leads unit outcome.done end turns h = refl
own_leads unit (outcome.halted line) end turns h = refl
own_leads unit (outcome.failed c line) end turns h = refl
own_leads unit outcome.turns end turns h = refl
own_leads unit outcome.standstill end turns h = absurd h
own_leads unit (outcome.bad address) end turns h = refl

module _ (unit : ProgramUnit) (choices : Choices) where
  -- a finished selection leads there
  abbrev LeadsAs : (List Name → Led) → Selected → Type 0
  LeadsAs led unfinished = ⊤
  LeadsAs led (finished ending end turns drawn order) = LeadsTo unit (led order) ending end turns

  at_standstill : (s : Processes) (drawn : ℕ) → AllIdle unit s → LeadsAs (λ order. permitted unit order s)
      (finished outcome.standstill s.world.system s.world.turns drawn [])
  at_standstill s drawn idle = (s, refl, refl, refl, nothing_happens unit s idle)

  -- the rest of a selection leads there
  abbrev MoreLeads : Processes → (Name → List Name → ℕ → Selected) → Type 0
  MoreLeads s more = (p : Name) (others : List Name) (d : ℕ) → Fresh s.live → Each (May s.live) (p ∷ others) → LeadsAs (λ order. permitted unit order s)
      (more p others d)

  taken_leads : (more : Name → List Name → ℕ → Selected) (s : Processes) (drawn : ℕ) (t : Taking) → EachTaken (May s.live) t → Fresh s.live → MoreLeads s more
      → LeadsAs (λ order. permitted unit order s) (go_on t more s drawn)
  taken_leads more s drawn nobody e f h = at_standstill s drawn (λ p m. absurd (e p m))
  taken_leads more s drawn (taking p others d) e f h = h p others d f e

  next_leads : (more : Name → List Name → ℕ → Selected) (s : Processes) (p : Name) (others : List Name) (drawn : ℕ) (next : Next) (quiet : Bool)
      → StepSound p others (went s next quiet) → MoreLeads s more →
      LeadsAs (λ order. permitted unit order s) (after_next choices more s p others drawn next)
  next_leads more s p others drawn stays quiet e h = h p others drawn e.0 e.1
  next_leads more s p others drawn (joins ps) quiet e h =
      taken_leads more s drawn (take_next choices drawn (others ++ ps)) (each_next (May s.live) choices drawn (others ++ ps) e.1) e.0 h

  tested_leads : (b : Bool) (more : Name → List Name → ℕ → Selected) (s : Processes) (p : Name) (others : List Name) (drawn : ℕ) (next : Next) (quiet : Bool)
      → (b ≡ true → AllIdle unit s) → StepSound p others (went s next quiet) → MoreLeads s more →
      LeadsAs (λ order. permitted unit order s)
      (if b then finished outcome.standstill s.world.system s.world.turns drawn [] else after_next choices more s p others drawn next)
  tested_leads true more s p others drawn next quiet idle e h = at_standstill s drawn (idle refl)
  tested_leads false more s p others drawn next quiet idle e h = next_leads more s p others drawn next quiet e h

  abbrev Rest : Type 0
  Rest = Processes → List Name → Name → List Name → ℕ → Selected

  abbrev RestLeads : Rest → Type 0
  RestLeads more = (s : Processes) (marks : List Name) → AreIdle unit s marks → MoreLeads s (more s marks)

  -- from a step of p on
  stepped_leads : (s : Processes) (x : Stepped) (more : Rest) (p : Name) (others marks : List Name) (drawn size turns : ℕ) → Each (May s.live) (p ∷ others)
      → AreIdle unit s marks →
      StepSound p others x → Falls size turns p x → Marks unit s p x → RestLeads more → LeadsAs (λ order. onward x order (permitted unit order))
      (after_step choices more p others marks drawn x)
  stepped_leads s (ended ending system t) more p others marks drawn size turns each idle e f m h = own_leads unit ending system t f
  stepped_leads s (went t next quiet) more p others marks drawn size turns each idle e f m h =
      let after : AreIdle unit t (marked quiet p marks) = marks_after unit s t p marks quiet next m idle in
      tested_leads (is_standstill quiet (marked quiet p marks) (p ∷ others)) (more t (marked quiet p marks)) t p others drawn next quiet
      (all_idle unit s t p others marks quiet next each m after) e (h t (marked quiet p marks) after)

  -- p steps first, where it may
  first_leads : (s : Processes) (p : Name) (r : Selected) → may_step s p ≡ true → LeadsAs (λ order. onward (step unit s p) order (permitted unit order)) r
      → LeadsAs (λ order. permitted unit order s) (stepped_first p r)
  first_leads s p unfinished m h = tt
  first_leads s p (finished ending end turns drawn order) m h =
      let P : Bool → Type 0 = λ b. LeadsTo unit (if b then onward (step unit s p) order (permitted unit order) else nowhere) ending end turns in
      subst P (sym m) h

  select_leads : (n : ℕ) → RestLeads (select unit choices n)
  select_leads zero s marks idle p others drawn f e = tt
  select_leads (suc n) s marks idle p others drawn f e = of_found (find s.live p) refl (select_leads n)
    where
      may : may_step s p ≡ true
      may = e.holds p (ap (λ b. b || has others p) (same-refl p))

      of_found : (x : Option Process) → find s.live p ≡ x → RestLeads (select unit choices n) → LeadsAs (λ order. permitted unit order s)
          (stepped_first p (after_step choices (select unit choices n) p others marks drawn (step unit s p)))
      of_found None g ih = let a : false ≡ true = sym (ap is_running_process g) ∙ may in absurd (cc)
      of_found (Some q) g ih =
          first_leads s p (after_step choices (select unit choices n) p others marks drawn (step unit s p)) may
          (stepped_leads s (step unit s p) (select unit choices n) p others marks drawn (standing_size q.standing + work_size q.work) s.world.turns e idle
          (step_sound unit s p q others g f e) (step_falls unit s p q g) (step_marks unit s p q g) ih)

-- ---- the start

pub start_may : (unit : ProgramUnit) (system : State) (bound : ℕ) (x : Name) → has ([] ∷ []) x ≡ true → May (start unit system bound).live x
start_may unit system bound [] h = refl
start_may unit system bound (y ∷ ys) h = absurd (cc)

pub start_all : (unit : ProgramUnit) (system : State) (bound : ℕ) (x : Name) → May (start unit system bound).live x → has ([] ∷ []) x ≡ true
start_all unit system bound [] h = refl
start_all unit system bound (y ∷ ys) h = absurd (cc)

pub select_is_permitted : SelectIsPermitted
select_is_permitted unit system bound choices ending end turns drawn order e =
    let l : LeadsAs unit choices (λ order. permitted unit order (start unit system bound)) (select_from_start unit system bound choices e.0) =
    select_leads unit choices e.0 (start unit system bound) [] (λ m i. let a : false ≡ true = i in absurd (cc)) [] [] 0 (start_fresh unit system bound)
    (record { once = (refl, tt); holds = start_may unit system bound; all = start_all unit system bound }) in
    let P : Selected → Type 0 = λ r. LeadsAs unit choices (λ order. permitted unit order (start unit system bound)) r in
    subst P e.1 l
