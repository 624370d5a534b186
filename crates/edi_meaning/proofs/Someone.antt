-- Some process may always step, so a standstill comes by the marks.
use Rattle.std.proofs.Common.{◌≡◌, ℕ, zero, suc, ◌+◌, ◌-◌, ◌<◌, ◌≤◌, inl, inr, Bool, true, false, not, ◌||◌, ◌&&◌, if◌then◌else◌, max, List, [], ◌∷◌, ◌++◌}
use Rattle.std.proofs.Common.{length, Option, Some, None, refl, sym, subst, ap, ◌∙◌, arith}
use Rattle.std.specs.Prelude.{⊤}
use Rattle.std.proofs.lemmas.List.{length-take}
use Rattle.edi_calls.specs.Choice.{Choices}
use Rattle.edi_calls.specs.Names.{Name, same, find, names}
use Rattle.edi_calls.specs.Outcome as outcome
use Rattle.edi_calls.specs.Ready.{parent_of, has, all_marked, Next, stays, joins, Taking, nobody, taking, take_next}
use Rattle.edi_calls.proofs.Tables.{same-refl, same-equal}
use Rattle.edi_unit.specs.Tree.{ProgramUnit}
use Rattle.edi_meaning.specs.Step.{Standing, ready, at_when, waiting, Process, Processes, Stepped, went, ended, step, start}
use Rattle.edi_meaning.specs.Permitted.{is_running, is_running_process}
use Rattle.edi_meaning.specs.Step.{local_step}
use Rattle.edi_meaning.specs.Permitted.{may_step, nowhere, onward, permitted}
use Rattle.edi_meaning.specs.Evaluation.{Evaluation, gives, ends}
use Rattle.edi_meaning.specs.Step.{Asks}
use Rattle.edi_meaning.specs.Select.{Selected, unfinished, finished, stepped_first, marked, is_standstill, go_on, after_next, after_step, select}
use Rattle.edi_meaning.specs.Select.{select_from_start}
use Rattle.edi_meaning.specs.Laws.{is_child, children_in}
use Rattle.edi_meaning.specs.Someone.{ForksHaveBranches, SomeoneMayStep, LastIsMarked, StandstillIsMarked}
use Rattle.edi_meaning.proofs.Lasting.{IsOwn, Gives}
use Rattle.edi_meaning.proofs.Kernel.{After, Handles, kernel_handles, of_process, permitted_keep}
use Rattle.edi_meaning.proofs.Work.{Falls, standing_size, work_size, step_falls}
use Rattle.edi_meaning.proofs.Family.{Fresh, start_fresh}
use Rattle.edi_meaning.proofs.Parents.{has-found, found_of}
use Rattle.edi_meaning.proofs.Sound.{or_true, Each, EachTaken, each_next}
use Rattle.edi_meaning.proofs.Permitted.{May, StepSound, step_sound, start_may, start_all}
use Rattle.edi_meaning.proofs.Dangling.{Coherent, step_coherent, start_coherent, permitted_coherent}
use Rattle.edi_meaning.proofs.Branching.{StateGood, step_good, start_good}

-- ---- from a process that waits to one that does not

longest : List Name → ℕ
longest [] = 0
longest (r ∷ rs) = max (length r) (longest rs)

not_longer : (rs : List Name) (r : Name) → has rs r ≡ true → length r ≤ longest rs
unfolding longest
not_longer [] r h = absurd (cc)
not_longer (x ∷ rs) r h = elim (or_true (same r x) (has rs r) h) [
  | inl e ↦ let one : length r ≡ length x = ap length (same-equal r x e) in omega (arith, one)
  | inr e ↦ omega (arith, not_longer rs r e)
]

child_among : (rs : List Name) (p : Name) → 0 < children_in rs p → (r : Name) × (has rs r ≡ true) × (is_child r p ≡ true)
child_among [] p some = absurd (omega (arith, some))
child_among (r ∷ rs) p some = go (is_child r p) refl some (λ l. child_among rs p l)
  where
    go : (b : Bool) → is_child r p ≡ b → 0 < (if b then suc (children_in rs p) else children_in rs p)
        → (0 < children_in rs p → (r : Name) × (has rs r ≡ true) × (is_child r p ≡ true)) →
        (x : Name) × (has (r ∷ rs) x ≡ true) × (is_child x p ≡ true)
    go true e some ih = (r, ap (λ b. b || has rs r) (same-refl r), e)
    go false e some ih =
        let x : (x : Name) × (has rs x ≡ true) × (is_child x p ≡ true) = ih some in
        (x.0, or_later (same x.0 r) (has rs x.0) x.1, x.2)
      where
        or_later : (a b : Bool) → b ≡ true → (a || b) ≡ true
        or_later true b h = refl
        or_later false b h = h

and_both : (a b : Bool) → (a && b) ≡ true → (a ≡ true) × (b ≡ true)
and_both true b e = (refl, e)
and_both false b e = absurd (cc)

-- a child has a longer name
child_longer : (r p : Name) → is_child r p ≡ true → length p < length r
child_longer [] p h =
    let both : (same [] p ≡ true) × (not (same [] p) ≡ true) = and_both (same [] p) (not (same [] p)) h in
    let no : not true ≡ true = sym (ap not both.0) ∙ both.1 in
    absurd (cc)
child_longer (x ∷ xs) p h =
    let both : (same (parent_of (x ∷ xs)) p ≡ true) × (not (same (x ∷ xs) p) ≡ true) = and_both (same (parent_of (x ∷ xs)) p) (not (same (x ∷ xs) p)) h in
    let is : length (parent_of (x ∷ xs)) ≡ length p = ap length (same-equal (parent_of (x ∷ xs)) p both.0) in
    omega (arith, is, length-take (length (x ∷ xs) - 2) (x ∷ xs))

module _ (s : Processes) (coherent : Coherent s) (good : StateGood s) where
  climb : (fuel : ℕ) (p : Name) (q : Process) → find s.live p ≡ Some q → longest (names s.live) < length p + fuel → (x : Name) × (may_step s x ≡ true)
  climb zero p q found less = absurd (omega (arith, less, not_longer (names s.live) p (has-found s.live p q found)))
  climb (suc fuel) p q found less = go q.standing refl (λ r y e l. climb fuel r y e l)
    where
      go : (standing : Standing) → q.standing ≡ standing
          → ((r : Name) (y : Process) → find s.live r ≡ Some y → longest (names s.live) < length r + fuel → (x : Name) × (may_step s x ≡ true)) → (x : Name)
          × (may_step s x ≡ true)
      go ready e rest = (p, ap is_running_process found ∙ ap is_running e)
      go (at_when cs position) e rest = (p, ap is_running_process found ∙ ap is_running e)
      go (waiting n) e rest =
          let some : 0 < n = (good.each p q found).waits n e in
          let count : children_in (names s.live) p ≡ n = coherent.family.family.counts p q n found e in
          let r : (r : Name) × (has (names s.live) r ≡ true) × (is_child r p ≡ true) = child_among (names s.live) p (omega (arith, count, some)) in
          let y : (y : Process) × (find s.live r.0 ≡ Some y) = found_of s.live r.0 r.1 in
          rest r.0 y.0 y.1 (omega (arith, less, child_longer r.0 p r.2))

  pub someone : (x : Name) × (may_step s x ≡ true)
  someone = climb (suc (longest (names s.live))) [] good.first.0 good.first.1 (omega arith)

pub someone_may_step : SomeoneMayStep
someone_may_step unit system bound order s have e =
    someone s (permitted_coherent unit system bound order s e)
    (permitted_keep unit StateGood (λ t p h. step_good unit have t p h) order (start unit system bound) s (start_good unit have system bound) e)

-- ---- an attempt that marks its process puts it at the back

abbrev QuietJoins : Name → Stepped → Type 0
QuietJoins p (went t next quiet) = quiet ≡ true → next ≡ joins (p ∷ [])
QuietJoins p (ended ending system turns) = ⊤

module _ (unit : ProgramUnit) (s : Processes) (p : Name) (q : Process) where
  marking : Handles unit s p q (λ a w. ⊤) (λ ending system turns. ⊤) (QuietJoins p)
  marking = record {
    of_end = λ ending system turns h. tt;
    of_goes = λ work w h e. absurd (cc);
    of_arrives = λ cs position work w h e. refl;
    of_again = λ cs position quiet work w h e. refl;
    of_no_fork = λ bs line work w ending o h. tt;
    of_fork = λ bs line work w n share f h e. absurd (cc);
    of_leaves = λ w k h e. absurd (cc);
    of_awaited = λ w y n f g h e. absurd (cc);
  }

  any : (r : Evaluation Asks) → Gives (λ a w. ⊤) (λ ending system turns. ⊤) r
  any (gives a w) = tt
  any (ends ending system turns) = tt

  quiet_joins : find s.live p ≡ Some q → QuietJoins p (step unit s p)
  quiet_joins found =
      of_process unit s p q (QuietJoins p) found
      (kernel_handles unit s p q _ _ (QuietJoins p) marking (local_step unit p q.size q.standing q.work s.world)
      (any (local_step unit p q.size q.standing q.work s.world)))

-- ---- along a selection

module _ (unit : ProgramUnit) (have : ForksHaveBranches unit) (choices : Choices) where
  -- where it stands still, its last step marks
  abbrev Marked : Processes → Selected → Type 0
  Marked s unfinished = ⊤
  Marked s (finished ending end turns drawn order) = ending ≡ outcome.standstill → LastIsMarked unit s order

  abbrev MoreMarked : Processes → (Name → List Name → ℕ → Selected) → Type 0
  MoreMarked s more = (p : Name) (others : List Name) (d : ℕ) → Fresh s.live → Each (May s.live) (p ∷ others) → Marked s (more p others d)

  abbrev Rest : Type 0
  Rest = Processes → List Name → Name → List Name → ℕ → Selected

  abbrev RestMarked : Rest → Type 0
  RestMarked more = (s : Processes) (marks : List Name) → Coherent s → StateGood s → MoreMarked s (more s marks)

  module _ (s t : Processes) (p : Name) (next : Next) (quiet : Bool) (may : may_step s p ≡ true) (is : step unit s p ≡ went t next quiet) where
    -- a selection from t, with the step of p before it
    first_marked : (r : Selected) → Marked t r → Marked s (stepped_first p r)
    first_marked unfinished h = tt
    first_marked (finished ending end turns drawn order) h = λ e. longer (h e)
      where
        longer : LastIsMarked unit t order → LastIsMarked unit s (p ∷ order)
        longer l = record {
          before = p ∷ l.before;
          name = l.name;
          is = ap (λ x. p ∷ x) l.is;
          state = l.state;
          leads =
              ap (λ b. if b then onward (step unit s p) l.before (permitted unit l.before) else nowhere) may
              ∙ ap (λ x. onward x l.before (permitted unit l.before)) is ∙ l.leads;
          after = l.after;
          marks = l.marks;
        }

    taken_marked : (more : Name → List Name → ℕ → Selected) (drawn : ℕ) (k : Taking) → EachTaken (May t.live) k → Fresh t.live → Coherent t → StateGood t
        → MoreMarked t more → Marked s (stepped_first p (go_on k more t drawn))
    taken_marked more drawn nobody e f c g h = let x : (x : Name) × (may_step t x ≡ true) = someone t c g in absurd (e x.0 x.1)
    taken_marked more drawn (taking r others d) e f c g h = first_marked (more r others d) (h r others d f e)

    next_marked : (more : Name → List Name → ℕ → Selected) (others : List Name) (drawn : ℕ) (n : Next) → StepSound p others (went t n quiet) → Coherent t
        → StateGood t → MoreMarked t more → Marked s (stepped_first p (after_next choices more t p others drawn n))
    next_marked more others drawn stays e c g h = first_marked (more p others drawn) (h p others drawn e.0 e.1)
    next_marked more others drawn (joins ps) e c g h = taken_marked more drawn (take_next choices drawn (others ++ ps))
        (each_next (May t.live) choices drawn (others ++ ps) e.1) e.0 c g h

    tested_marked : (b : Bool) (more : Name → List Name → ℕ → Selected) (others : List Name) (drawn : ℕ) → (b ≡ true → quiet ≡ true)
        → QuietJoins p (went t next quiet) → StepSound p others (went t next quiet) → Coherent t → StateGood t → MoreMarked t more →
        Marked s (stepped_first p (if b then finished outcome.standstill t.world.system t.world.turns drawn [] else after_next choices more t p others drawn
        next))
    tested_marked true more others drawn by q e c g h = λ f. record {
      before = [];
      name = p;
      is = refl;
      state = s;
      leads = refl;
      after = t;
      marks = is ∙ ap (λ n. went t n quiet) (q (by refl)) ∙ ap (λ b. went t (joins (p ∷ [])) b) (by refl);
    }
    tested_marked false more others drawn by q e c g h = next_marked more others drawn next e c g h

  stepped_marked : (s : Processes) (p : Name) (x : Stepped) (more : Rest) (others marks : List Name) (drawn size turns : ℕ) → may_step s p ≡ true
      → step unit s p ≡ x →
      StepSound p others x → Falls size turns p x → After Coherent x → After StateGood x → QuietJoins p x → RestMarked more
      → Marked s (stepped_first p (after_step choices more p others marks drawn x))
  stepped_marked s p (ended ending system t) more others marks drawn size turns may is e f c g q h = λ k. absurd (subst IsOwn k f)
  stepped_marked s p (went t next quiet) more others marks drawn size turns may is e f c g q h =
      tested_marked s t p next quiet may is (is_standstill quiet (marked quiet p marks) (p ∷ others)) (more t (marked quiet p marks)) others drawn
      (λ b. (and_both quiet (all_marked (marked quiet p marks) (p ∷ others)) b).0) q e c g (h t (marked quiet p marks) c g)

  select_marked : (n : ℕ) → RestMarked (select unit choices n)
  select_marked zero s marks c g p others drawn f e = tt
  select_marked (suc n) s marks c g p others drawn f e = of_found (find s.live p) refl (select_marked n)
    where
      may : may_step s p ≡ true
      may = e.holds p (ap (λ b. b || has others p) (same-refl p))

      of_found : (x : Option Process) → find s.live p ≡ x → RestMarked (select unit choices n)
          → Marked s (stepped_first p (after_step choices (select unit choices n) p others marks drawn (step unit s p)))
      of_found None k ih = let a : false ≡ true = sym (ap is_running_process k) ∙ may in absurd (cc)
      of_found (Some q) k ih =
          stepped_marked s p (step unit s p) (select unit choices n) others marks drawn (standing_size q.standing + work_size q.work) s.world.turns may refl
          (step_sound unit s p q others k f e) (step_falls unit s p q k) (step_coherent unit s p c) (step_good unit have s p g) (quiet_joins unit s p q k) ih

pub standstill_is_marked : StandstillIsMarked
standstill_is_marked unit system bound choices end turns drawn order have e =
    let first : Processes = start unit system bound in
    let l : Marked unit have choices first (select_from_start unit system bound choices e.0) =
    select_marked unit have choices e.0 first [] (start_coherent unit system bound) (start_good unit have system bound) [] [] 0 (start_fresh unit system bound)
    (record { once = (refl, tt); holds = start_may unit system bound; all = start_all unit system bound }) in
    let P : Selected → Type 0 = λ r. Marked unit have choices first r in
    (subst P e.1 l) refl
