-- The list of ready processes is sound: each of them is live, ready or at its `when`, and stands once. The names of later
-- forks are free.
use Rattle.std.proofs.Common.{◌≡◌, ℕ, suc, ◌+◌, ◌<◌, ◌≤◌, ◌⊎◌, inl, inr, false, List, [], ◌∷◌, ◌++◌, length, Option, Some, None, refl, sym, ap, ◌∙◌, arith}
use Rattle.std.proofs.lemmas.Bool.{cases_lt}
use Rattle.std.proofs.lemmas.List.{append-nil}
use Rattle.edi_calls.specs.State.{State}
use Rattle.edi_calls.specs.Names.{Name, Table, same, find, with_at, without}
use Rattle.edi_calls.specs.Ready.{child}
use Rattle.edi_calls.proofs.Tables.{same-or-other, find-with_at-same, find-with_at-other, find-without-same, find-without-other}
use Rattle.edi_unit.specs.Tree.{ProgramUnit}
use Rattle.edi_meaning.specs.Store.{Spot}
use Rattle.edi_meaning.specs.Step.{Process, Processes, ready, child_process, with_child, with_children, start}
use Rattle.edi_calls.proofs.Names.{some_is, no_some, flat, below_child, not_below, deeper}

-- ---- names of later forks are free

pub record Fresh (live : Table Process) : Type 0 where
  pub old : (p : Name) (q : Process) (f i : ℕ) (rest : List (ℕ × ℕ)) (x : Process) → find live p ≡ Some q → find live (child p f i ++ flat rest) ≡ Some x
      → f ≤ q.forks

-- who is live after a change of p, which was live, was live before
was_live : (live : Table Process) (p : Name) (q q' : Process) (z : Name) (x : Process) → find live p ≡ Some q → find (with_at live p q') z ≡ Some x
    → (y : Process) × (find live z ≡ Some y)
was_live live p q q' z x e f = go (same-or-other z p)
  where
    go : (z ≡ p) ⊎ (same z p ≡ false) → (y : Process) × (find live z ≡ Some y)
    go (inl h) = (q, ap (find live) h ∙ e)
    go (inr n) = (x, sym (find-with_at-other live p z q' n) ∙ f)

pub fresh_changed : (live : Table Process) (p : Name) (q q' : Process) → find live p ≡ Some q → q.forks ≤ q'.forks → Fresh live → Fresh (with_at live p q')
fresh_changed live p q q' e le fresh = record { old = old }
  where
    old : (r : Name) (rq : Process) (f i : ℕ) (rest : List (ℕ × ℕ)) (x : Process) → find (with_at live p q') r ≡ Some rq
        → find (with_at live p q') (child r f i ++ flat rest) ≡ Some x → f ≤ rq.forks
    old r rq f i rest x g h =
        let was : (y : Process) × (find live (child r f i ++ flat rest) ≡ Some y) = was_live live p q q' (child r f i ++ flat rest) x e h in
        go was (same-or-other r p)
      where
        go : (y : Process) × (find live (child r f i ++ flat rest) ≡ Some y) → (r ≡ p) ⊎ (same r p ≡ false) → f ≤ rq.forks
        go was (inl k) =
            let mine : Some q' ≡ Some rq = sym (find-with_at-same live p q') ∙ sym (ap (find (with_at live p q')) k) ∙ g in
            let forks : q'.forks ≡ rq.forks = ap (λ y. y.forks) (some_is mine) in
            omega (arith, fresh.old r q f i rest was.0 (ap (find live) k ∙ e) was.1)
        go was (inr n) = fresh.old r rq f i rest was.0 (sym (find-with_at-other live p r q' n) ∙ g) was.1

pub kept_without : (live : Table Process) (p z : Name) (x : Process) → find (without live p) z ≡ Some x → find live z ≡ Some x
kept_without live p z x e = go (same-or-other z p)
  where
    go : (z ≡ p) ⊎ (same z p ≡ false) → find live z ≡ Some x
    go (inl h) = absurd (no_some (find (without live p) z) (ap (find (without live p)) h ∙ find-without-same live p) e)
    go (inr n) = sym (find-without-other live p z n) ∙ e

pub fresh_without : (live : Table Process) (p : Name) → Fresh live → Fresh (without live p)
fresh_without live p fresh = record {
  old = λ r rq f i rest x g h. fresh.old r rq f i rest x (kept_without live p r rq g)
      (kept_without live p (child r f i ++ flat rest) x h);
}

-- ---- children

-- no process has the name of child k or a later one of the f-th fork of p, or a name below
abbrev pub Free : Table Process → Name → ℕ → ℕ → Type 0
Free live p f k = (j : ℕ) (rest : List (ℕ × ℕ)) → k ≤ j → find live (child p f j ++ flat rest) ≡ None

pub free_name : (live : Table Process) (p : Name) (f k j : ℕ) → k ≤ j → Free live p f k → find live (child p f j) ≡ None
free_name live p f k j le free = ap (find live) (sym (append-nil (child p f j))) ∙ free j [] le

fresh_child : (live : Table Process) (p : Name) (q : Process) (f k : ℕ) (c : Process) → find live p ≡ Some q → f ≤ q.forks → Free live p f k → c.forks ≡ 0
    → Fresh live → Fresh (with_at live (child p f k) c)
fresh_child live p q f k c e le free none fresh = record { old = old }
  where
    old : (r : Name) (rq : Process) (g i : ℕ) (rest : List (ℕ × ℕ)) (x : Process) → find (with_at live (child p f k) c) r ≡ Some rq
        → find (with_at live (child p f k) c) (child r g i ++ flat rest) ≡ Some x → g ≤ rq.forks
    old r rq g i rest x a b = go (same-or-other r (child p f k)) (same-or-other (child r g i ++ flat rest) (child p f k))
      where
        go : (r ≡ child p f k) ⊎ (same r (child p f k) ≡ false) → (child r g i ++ flat rest ≡ child p f k)
            ⊎ (same (child r g i ++ flat rest) (child p f k) ≡ false) → g ≤ rq.forks
        go (inl h) (inl l) = absurd (not_below r g i rest (l ∙ sym h))
        go (inl h) (inr n) =
            let gone : find live (child r g i ++ flat rest) ≡ None =
            ap (λ y. find live (child y g i ++ flat rest)) h ∙ ap (find live) (deeper p f k g i rest) ∙ free k ((g, i) ∷ rest) (omega arith) in
            absurd (no_some (find live (child r g i ++ flat rest)) gone (sym (find-with_at-other live (child p f k) (child r g i ++ flat rest) c n) ∙ b))
        go (inr m) (inl l) = elim (below_child r p g i f k rest l) [
          | inl same3 ↦
              let mine : find live r ≡ Some rq = sym (find-with_at-other live (child p f k) r c m) ∙ a in
              let is : Some q ≡ Some rq = sym e ∙ sym (ap (find live) same3.0) ∙ mine in
              let forks : q.forks ≡ rq.forks = ap (λ y. y.forks) (some_is is) in
              let which : g ≡ f = same3.1 in
              omega arith
          | inr below ↦ fresh.old r rq g i below.0 q (sym (find-with_at-other live (child p f k) r c m) ∙ a) (ap (find live) below.1 ∙ e)
        ]
        go (inr m) (inr n) = fresh.old r rq g i rest x (sym (find-with_at-other live (child p f k) r c m) ∙ a)
            (sym (find-with_at-other live (child p f k) (child r g i ++ flat rest) c n) ∙ b)

pub free_child : (live : Table Process) (p : Name) (f k : ℕ) (c : Process) → Free live p f k → Free (with_at live (child p f k) c) p f (suc k)
free_child live p f k c free j rest le = go (same-or-other (child p f j ++ flat rest) (child p f k))
  where
    go : (child p f j ++ flat rest ≡ child p f k) ⊎ (same (child p f j ++ flat rest) (child p f k) ≡ false) → find (with_at live (child p f k) c)
        (child p f j ++ flat rest) ≡ None
    go (inl h) = elim (below_child p p f j f k rest h) [
      | inl same3 ↦ let which : j ≡ k = same3.2 in absurd (omega arith)
      | inr below ↦ absurd (not_below p f j below.0 below.1)
    ]
    go (inr n) = find-with_at-other live (child p f k) (child p f j ++ flat rest) c n ∙ free j rest (omega arith)

-- the names of the next fork of p are free
pub free_next : (live : Table Process) (p : Name) (q q' : Process) → find live p ≡ Some q → Fresh live → Free (with_at live p q') p (suc q.forks) 0
free_next live p q q' found fresh j rest h = go (find (with_at live p q') (child p (suc q.forks) j ++ flat rest)) refl
  where
    go : (x : Option Process) → find (with_at live p q') (child p (suc q.forks) j ++ flat rest) ≡ x
        → find (with_at live p q') (child p (suc q.forks) j ++ flat rest) ≡ None
    go None f = f
    go (Some y) f = elim (same-or-other (child p (suc q.forks) j ++ flat rest) p) [
      | inl k ↦ absurd (not_below p (suc q.forks) j rest k)
      | inr n ↦
          let le : suc q.forks ≤ q.forks = fresh.old p q (suc q.forks) j rest y found
          (sym (find-with_at-other live p (child p (suc q.forks) j ++ flat rest) q' n) ∙ f) in
          absurd (omega arith)
    ]

-- a process that is live keeps its place in the table beside a new child
pub kept_child : (live : Table Process) (p : Name) (f k : ℕ) (c : Process) (x : Name) (q : Process) → Free live p f k → find live x ≡ Some q
    → find (with_at live (child p f k) c) x ≡ Some q
kept_child live p f k c x q free e = go (same-or-other x (child p f k))
  where
    go : (x ≡ child p f k) ⊎ (same x (child p f k) ≡ false) → find (with_at live (child p f k) c) x ≡ Some q
    go (inl h) = absurd (no_some (find live x) (ap (find live) h ∙ free_name live p f k k (omega arith) free) e)
    go (inr n) = find-with_at-other live (child p f k) x c n ∙ e

-- what a fork leaves: everybody who was live stands as before, and the children are ready
pub record Forked (live after : Table Process) (p : Name) (f k n : ℕ) : Type 0 where
  pub fresh : Fresh after
  pub kept : (x : Name) (q : Process) → find live x ≡ Some q → find after x ≡ Some q
  pub born : (j : ℕ) → k ≤ j → j < k + n → (c : Process) × (find after (child p f j) ≡ Some c) × (c.standing ≡ ready)
  pub only : (x : Name) (q : Process) → find after x ≡ Some q → (find live x ≡ Some q) ⊎ ((j : ℕ) × (k ≤ j) × (j < k + n) × (x ≡ child p f j))

born_at : (after : Table Process) (p : Name) (f k n : ℕ) (c : Process) (j : ℕ) → k ≤ j → j < k + suc n → find after (child p f k) ≡ Some c
    → c.standing ≡ ready →
    ((j : ℕ) → suc k ≤ j → j < suc k + n → (c : Process) × (find after (child p f j) ≡ Some c) × (c.standing ≡ ready)) → (c : Process)
    × (find after (child p f j) ≡ Some c) × (c.standing ≡ ready)
born_at after p f k n c j h l e r more = elim (cases_lt k j) [
  | inl above ↦ more j (omega arith) (omega arith)
  | inr below ↦ let same : k ≡ j = omega arith in (c, ap (λ i. find after (child p f i)) (sym same) ∙ e, r)
]

only_at : (live : Table Process) (p : Name) (f k n : ℕ) (c : Process) (x : Name) (y : Process) →
    (find (with_at live (child p f k) c) x ≡ Some y) ⊎ ((j : ℕ) × (suc k ≤ j) × (j < suc k + n) × (x ≡ child p f j)) → (find live x ≡ Some y)
    ⊎ ((j : ℕ) × (k ≤ j) × (j < k + suc n) × (x ≡ child p f j))
only_at live p f k n c x y (inr h) = inr (h.0, omega arith, omega arith, h.3)
only_at live p f k n c x y (inl h) = elim (same-or-other x (child p f k)) [
  | inl e ↦ inr (k, omega arith, omega arith, e)
  | inr m ↦ inl (sym (find-with_at-other live (child p f k) x c m) ∙ h)
]

module _ (unit : ProgramUnit) (p : Name) (f share : ℕ) (parent : Spot) where
  pub forked_children : (bs : List ℕ) (k : ℕ) (q : Process) (s : Processes) → find s.live p ≡ Some q → f ≤ q.forks → Free s.live p f k → Fresh s.live →
      Forked s.live (with_children unit p f k share parent bs s).live p f k (length bs)
  forked_children [] k q s e le free fresh = record { fresh = fresh; kept = λ x y h. h; born = λ j h l. absurd (omega arith); only = λ x y h. inl h }
  forked_children (b ∷ bs) k q s e le free fresh =
      let s1 : Processes = with_child unit (child p f k) share parent b s in
      let c : Process = child_process unit share b in
      let more : Forked s1.live (with_children unit p f (suc k) share parent bs s1).live p f (suc k) (length bs) =
      forked_children bs (suc k) q s1 (kept_child s.live p f k c p q free e) le (free_child s.live p f k c free)
      (fresh_child s.live p q f k c e le free refl fresh) in
      record {
        fresh = more.fresh;
        kept = λ x y h. more.kept x y (kept_child s.live p f k c x y free h);
        born = λ j h l. born_at (with_children unit p f (suc k) share parent bs s1).live p f k (length bs) c j h l
            (more.kept (child p f k) c (find-with_at-same s.live (child p f k) c)) refl more.born;
        only = λ x y h. only_at s.live p f k (length bs) c x y (more.only x y h);
      }

-- ---- the start

-- the first process stands alone
pub start_fresh : (unit : ProgramUnit) (system : State) (bound : ℕ) → Fresh (start unit system bound).live
start_fresh unit system bound = record { old = λ p q f i rest x g h. absurd (alone p f i rest x h) }
  where
    alone : (p : Name) (f i : ℕ) (rest : List (ℕ × ℕ)) (x : Process) → find (start unit system bound).live (child p f i ++ flat rest) ≡ Some x → ⊥
    alone [] f i rest x h = absurd (cc)
    alone (y ∷ ys) f i rest x h = absurd (cc)
