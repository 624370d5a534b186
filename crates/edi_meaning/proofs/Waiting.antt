-- A fork makes children for which its process waits; so in every state that permitted steps reach, parents wait.
use Rattle.std.proofs.Common.{◌≡◌, ℕ, suc, ◌+◌, ◌⊎◌, inl, inr, true, false, List, [], ◌∷◌, length, Option, Some, None, refl, sym, subst, ap, ◌∙◌, arith}
use Rattle.std.specs.Prelude.{⊤}
use Rattle.edi_calls.specs.State.{State}
use Rattle.edi_calls.specs.Names.{Name, Table, same, find, with_at, names}
use Rattle.edi_calls.specs.Ready.{child, parent_of}
use Rattle.edi_calls.proofs.Tables.{same-or-other, same-symmetric, find-with_at-same, find-with_at-other}
use Rattle.edi_unit.specs.Tree.{ProgramUnit}
use Rattle.edi_meaning.specs.Store.{Spot, shape, now}
use Rattle.edi_meaning.specs.Evaluation.{World, Evaluation, gives, ends}
use Rattle.edi_meaning.specs.Step.{Work, Standing, ready, at_when, waiting, Asks, Process, Processes, Stepped, went, ended, back, child_process, with_child}
use Rattle.edi_meaning.specs.Step.{with_children, fork_taken, local_step, step_of, step, start}
use Rattle.edi_meaning.specs.Permitted.{is_running, at, permitted}
use Rattle.edi_meaning.specs.Laws.{is_child, children_in, IsWaiting, ParentsWait}
use Rattle.edi_meaning.proofs.Lasting.{Gives}
use Rattle.edi_meaning.proofs.Kernel.{Handles, kernel_handles, of_process, After, permitted_keep}
use Rattle.edi_calls.proofs.Names.{some_is, no_some, parent-child}
use Rattle.edi_meaning.proofs.Family.{Fresh, Free, free_name, free_next, free_child, kept_child}
use Rattle.edi_meaning.proofs.Parents.{names-with_at, names-with_new, once-new, children-append, children-one, one_if, child_is_child, not_child_of, Family}
use Rattle.edi_meaning.proofs.Parents.{FamilyBut, whole_family, still_waiting, no_children, changed, family_goes, family_left, family_awaited}
use Rattle.edi_meaning.proofs.Private.{Proper, start_proper, step_proper}

-- ---- children

module _ (live : Table Process) (p : Name) (f k : ℕ) (c : Process) (free : find live (child p f k) ≡ None) (new : c.standing ≡ ready) where
  -- a child more for p, and for nobody else
  one_more : (z : Name) → children_in (names (with_at live (child p f k) c)) z ≡ children_in (names live) z + one_if (is_child (child p f k) z)
  one_more z = ap (λ l. children_in l z) (names-with_new live (child p f k) c free) ∙ children-append (names live) (child p f k ∷ []) z
      ∙ ap (λ n. children_in (names live) z + n) (children-one (child p f k) z)

  child_joins : IsWaiting live p → FamilyBut live p → FamilyBut (with_at live (child p f k) c) p
  child_joins waits family = record {
    once = once-new live (child p f k) c free family.once;
    parents = λ r x e. up r x e (same-or-other r (child p f k));
    counts = λ z x n m e w. count z x n m e w (same-or-other z (child p f k));
  }
    where
      -- who waits is another
      old : (z : Name) → IsWaiting live z → same z (child p f k) ≡ false
      old z w = elim (same-or-other z (child p f k)) [ inl e ↦ absurd (no_some (find live z) (ap (find live) e ∙ free) w.found) | inr n ↦ n ]

      up : (r : Name) (x : Process) → find (with_at live (child p f k) c) r ≡ Some x → (r ≡ child p f k) ⊎ (same r (child p f k) ≡ false) → (r ≡ [])
          ⊎ IsWaiting (with_at live (child p f k) c) (parent_of r)
      up r x e (inl h) = inr (subst (IsWaiting (with_at live (child p f k) c)) (sym (ap parent_of h ∙ parent-child p f k))
          (still_waiting live (child p f k) c p (old p waits) waits))
      up r x e (inr n) = elim (family.parents r x (sym (find-with_at-other live (child p f k) r c n) ∙ e))
          [ inl h ↦ inl h | inr w ↦ inr (still_waiting live (child p f k) c (parent_of r) (old (parent_of r) w) w) ]

      count : (z : Name) (x : Process) (n : ℕ) → same z p ≡ false → find (with_at live (child p f k) c) z ≡ Some x → x.standing ≡ waiting n
          → (z ≡ child p f k) ⊎ (same z (child p f k) ≡ false) → children_in (names (with_at live (child p f k) c)) z ≡ n
      count z x n m e w (inl h) =
          let a : ready ≡ waiting n = sym new ∙ ap (λ y. y.standing)
          (some_is (sym (find-with_at-same live (child p f k) c) ∙ sym (ap (find (with_at live (child p f k) c)) h) ∙ e)) ∙ w in
          absurd (cc)
      count z x n m e w (inr d) =
          let other : is_child (child p f k) z ≡ false = not_child_of (child p f k) z (ap (λ y. same y z) (parent-child p f k) ∙ same-symmetric z p m) in
          omega (arith, one_more z, ap one_if other, family.counts z x n m (sym (find-with_at-other live (child p f k) z c d) ∙ e) w)

module _ (unit : ProgramUnit) (p : Name) (f share : ℕ) (parent : Spot) where
  -- what the children of a fork make of a family, of which p waits for m
  record Joined (live : Table Process) (q : Process) (n : ℕ) : Type 0 where
    found : find live p ≡ Some q
    family : FamilyBut live p
    number : children_in (names live) p ≡ n

  children_join : (bs : List ℕ) (k m : ℕ) (q : Process) (s : Processes) → q.standing ≡ waiting m → Free s.live p f k → Joined s.live q k
      → Joined (with_children unit p f k share parent bs s).live q (k + length bs)
  children_join [] k m q s w free j = record { found = j.found; family = j.family; number = omega (arith, j.number) }
  children_join (b ∷ bs) k m q s w free j =
      let c : Process = child_process unit share b in
      let none : find s.live (child p f k) ≡ None = free_name s.live p f k k (omega arith) free in
      let mine : is_child (child p f k) p ≡ true = child_is_child p f k in
      let joined : Joined (with_at s.live (child p f k) c) q (suc k) = record {
        found = kept_child s.live p f k c p q free j.found;
        family = child_joins s.live p f k c none refl (record { process = q; found = j.found; number = m; standing = w }) j.family;
        number = omega (arith, one_more s.live p f k c none refl p, ap one_if mine, j.number);
      } in
      let rest : Joined (with_children unit p f (suc k) share parent bs (with_child unit (child p f k) share parent b s)).live q (suc k + length bs) =
      children_join bs (suc k) m q (with_child unit (child p f k) share parent b s) w (free_child s.live p f k c free) joined in
      record { found = rest.found; family = rest.family; number = omega (arith, rest.number) }

-- ---- steps

abbrev IsFamily : Processes → Type 0
IsFamily s = Family s.live

module _ (unit : ProgramUnit) (s : Processes) (p : Name) (q : Process) (found : find s.live p ≡ Some q) (fresh : Fresh s.live) (family : Family s.live) where
  fork_family : (runs : is_running q.standing ≡ true) (bs : List ℕ) (work : List Work) (w : World) (n share : ℕ)
      → After IsFamily (fork_taken unit s p q bs work w (suc n) share)
  fork_family runs bs work w n share = whole_family t.live p joined.family own
    where
      q' : Process
      q' = record q { forks = suc q.forks; work = work; standing = waiting (length bs) }

      s1 : Processes
      s1 = back s p q' (record w { turns = n })

      t : Processes
      t = with_children unit p (suc q.forks) 0 share (now (shape w.store) p) bs s1

      joined : Joined unit p (suc q.forks) share (now (shape w.store) p) t.live q' (0 + length bs)
      joined = children_join unit p (suc q.forks) share (now (shape w.store) p) bs 0 (length bs) q' s1 refl (free_next s.live p q q' found fresh) (record {
        found = find-with_at-same s.live p q';
        family = changed s.live p q found runs family q';
        number = ap (λ l. children_in l p) (names-with_at s.live p q' q found) ∙ no_children s.live p q found runs family;
      })

      waiting_is : (m k : ℕ) → waiting m ≡ waiting k → m ≡ k
      waiting_is m k e = cc

      own : (x : Process) (m : ℕ) → find t.live p ≡ Some x → x.standing ≡ waiting m → children_in (names t.live) p ≡ m
      own x m e g =
          let number : length bs ≡ m = waiting_is (length bs) m (ap (λ y. y.standing) (some_is (sym joined.found ∙ e)) ∙ g) in
          omega (arith, joined.number)

  keeping : Handles unit s p q (λ a w. is_running q.standing ≡ true) (λ ending system turns. ⊤) (After IsFamily)
  keeping = record {
    of_end = λ ending system turns h. tt;
    of_goes = λ work w h. family_goes s.live p q found h family (record q { work = work; standing = ready }) refl;
    of_arrives = λ cs position work w h. family_goes s.live p q found h family (record q { work = work; standing = at_when cs position }) refl;
    of_again = λ cs position quiet work w h. family_goes s.live p q found h family (record q { work = work; standing = at_when cs position }) refl;
    of_no_fork = λ bs line work w ending o h. tt;
    of_fork = λ bs line work w n share e h. fork_family h bs work w n share;
    of_leaves = λ w k h. family_left s.live p q found h family k;
    of_awaited = λ w y n e g h. family_awaited s.live p q found h family y n e g;
  }

any_run : (r : Evaluation Asks) → Gives (λ a v. true ≡ true) (λ ending system turns. ⊤) r
any_run (gives a v) = refl
any_run (ends ending system turns) = tt

-- only who runs takes a step that goes on
pub only_running : (unit : ProgramUnit) (p : Name) (size : ℕ) (standing : Standing) (work : List Work) (w : World) → Gives (λ a v. is_running standing ≡ true)
    (λ ending system turns. ⊤) (local_step unit p size standing work w)
only_running unit p size ready work w = any_run (local_step unit p size ready work w)
only_running unit p size (at_when cs position) work w = any_run (local_step unit p size (at_when cs position) work w)
only_running unit p size (waiting n) work w = tt

step_family : (unit : ProgramUnit) (s : Processes) (p : Name) → Fresh s.live → Family s.live → After IsFamily (step unit s p)
step_family unit s p fresh family = go (find s.live p) refl
  where
    go : (x : Option Process) → find s.live p ≡ x → After IsFamily (step unit s p)
    go None e = subst (λ x. After IsFamily (step_of unit s p x)) (sym e) tt
    go (Some q) e =
        of_process unit s p q (After IsFamily) e
        (kernel_handles unit s p q _ _ (After IsFamily) (keeping unit s p q e fresh family) (local_step unit p q.size q.standing q.work s.world)
        (only_running unit p q.size q.standing q.work s.world))

-- ---- along permitted steps

-- what holds of a state beside what every state keeps
pub record WithFamily (s : Processes) : Type 0 where
  pub proper : Proper s
  pub family : Family s.live

pub step_both : (unit : ProgramUnit) (s : Processes) (p : Name) → WithFamily s → After WithFamily (step unit s p)
step_both unit s p h = go (step unit s p) (step_proper unit s p h.proper) (step_family unit s p h.proper.fresh h.family)
  where
    go : (x : Stepped) → After Proper x → After IsFamily x → After WithFamily x
    go (went t next quiet) a b = record { proper = a; family = b }
    go (ended ending system turns) a b = tt

start_family : (unit : ProgramUnit) (system : State) (bound : ℕ) → Family (start unit system bound).live
start_family unit system bound = record { once = (refl, tt); parents = λ r q e. inl (alone r q e); counts = λ p q n e w. idle p q n e w }
  where
    alone : (r : Name) (q : Process) → find (start unit system bound).live r ≡ Some q → r ≡ []
    alone [] q e = refl
    alone (y ∷ ys) q e = absurd (cc)

    idle : (p : Name) (q : Process) (n : ℕ) → find (start unit system bound).live p ≡ Some q → q.standing ≡ waiting n
        → children_in (names (start unit system bound).live) p ≡ n
    idle [] q n e w = let a : ready ≡ waiting n = ap (λ y. y.standing) (some_is e) ∙ w in absurd (cc)
    idle (y ∷ ys) q n e w = absurd (cc)

pub start_with : (unit : ProgramUnit) (system : State) (bound : ℕ) → WithFamily (start unit system bound)
start_with unit system bound = record { proper = start_proper unit system bound; family = start_family unit system bound }

pub permitted_family : (unit : ProgramUnit) (system : State) (bound : ℕ) (order : List Name) (s : Processes) → permitted unit order (start unit system bound)
    ≡ at s → WithFamily s
permitted_family unit system bound order s e =
    permitted_keep unit WithFamily (step_both unit) order (start unit system bound) s (start_with unit system bound) e

pub parents_wait : ParentsWait
parents_wait unit system bound order s e =
    let f : Family s.live = (permitted_family unit system bound order s e).family in
    record { parents = f.parents; counts = f.counts; none = λ p q found runs. no_children s.live p q found runs f }
