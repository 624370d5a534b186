-- Whoever joins the ready processes after a step lives and does not wait, once, and was not among them.
use Rattle.std.proofs.Common.{◌≡◌, ℕ, zero, suc, ◌+◌, ◌-◌, ◌/◌, ◌<◌, ◌≤◌, ◌⊎◌, inl, inr, Bool, true, false, ◌||◌, if◌then◌else◌, List, [], ◌∷◌, length}
use Rattle.std.proofs.Common.{get_or, Option, Some, None, refl, sym, subst, ap, ◌∙◌, arith}
use Rattle.std.specs.Prelude.{⊤}
use Rattle.std.proofs.lemmas.List.{get_or-append_right}
use Rattle.edi_calls.proofs.Names.{some_is, no_some}
use Rattle.edi_calls.specs.Names.{Name, same, find, with_at, without}
use Rattle.edi_calls.specs.Ready.{child, children, parent_of, has, all_marked, stays, joins, freed}
use Rattle.edi_calls.proofs.Tables.{same-refl, same-or-other, find-with_at-same, find-with_at-other, find-without-same, find-without-other}
use Rattle.edi_calls.specs.Outcome.{standstill}
use Rattle.edi_target.specs.Op.{Instruction, Branch}
use Rattle.edi_target.specs.Effect.{Turn, entering, leaving, looping, arriving, again, forking, exiting, finishing}
use Rattle.edi_target.specs.Mach.{Running, Answer, on, behind, turned, over, Standing, ready, at_when, waiting, Activity, Machine, Stepped, went, ended}
use Rattle.edi_target.specs.Mach.{running_of, activity_of, back, with_child, with_children, awaits, one_less, notified, attempted, at_turn, kernel}
use Rattle.edi_target.specs.Mach.{is_first, local_step, step_of, step}
use Rattle.edi_target.specs.segments.Nested.{MayGoOn}
use Rattle.edi_target.proofs.segments.Families.{IsFree, Sound}
use Rattle.edi_target.proofs.segments.Steps.{no_child}

abbrev pub Once : List Name → Type 0
Once [] = ⊤
Once (q ∷ qs) = (has qs q ≡ false) × Once qs

-- these processes may go on after a step of p, and none of them could before but p
pub record Join (m : Machine) (p : Name) (t : Machine) (ps : List Name) : Type 0 where
  pub once : Once ps
  pub free : (q : Name) → has ps q ≡ true → MayGoOn t q
  pub new : (q : Name) → has ps q ≡ true → (q ≡ p) ⊎ (MayGoOn m q → ⊥)

abbrev pub Queues : Machine → Name → Stepped → Type 0
Queues m p (went t stays) = MayGoOn t p
Queues m p (went t (joins ps)) = Join m p t ps
Queues m p (ended ending t) = ⊤

nobody_joins : (m t : Machine) (p : Name) → Join m p t []
nobody_joins m t p = record { once = tt; free = λ q h. absurd (cc); new = λ q h. absurd (cc) }

pub in_one : (p q : Name) → has (p ∷ []) q ≡ true → q ≡ p
in_one p q h = go (same-or-other q p)
  where
    go : (q ≡ p) ⊎ (same q p ≡ false) → q ≡ p
    go (inl e) = e
    go (inr n) = let no : false ≡ true = sym (ap (λ b. b || false) n) ∙ h in absurd (cc)

one_joins : (m t : Machine) (p q : Name) → MayGoOn t q → (q ≡ p) ⊎ (MayGoOn m q → ⊥) → Join m p t (q ∷ [])
one_joins m t p q free new = record {
  once = (refl, tt);
  free = λ r h. subst (MayGoOn t) (sym (in_one q r h)) free;
  new = λ r h. subst (λ x. (x ≡ p) ⊎ (MayGoOn m x → ⊥)) (sym (in_one q r h)) new;
}

-- ---- the children of a fork

child_number : (p : Name) (f i : ℕ) → get_or (child p f i) (length p + 1) 0 ≡ i
child_number p f i = get_or-append_right p (f ∷ i ∷ []) (length p) (length p + 1) 0 refl (omega arith) ∙ ap (λ n. get_or (f ∷ i ∷ []) n 0) (one_more (length p))
  where
    one_more : (n : ℕ) → n + 1 - n ≡ 1
    one_more n = omega arith

pub children_apart : (p : Name) (f i j : ℕ) → i < j → same (child p f i) (child p f j) ≡ false
children_apart p f i j h = go (same-or-other (child p f i) (child p f j))
  where
    go : (child p f i ≡ child p f j) ⊎ (same (child p f i) (child p f j) ≡ false) → same (child p f i) (child p f j) ≡ false
    go (inr n) = n
    go (inl e) =
        let k : i ≡ j = sym (child_number p f i) ∙ ap (λ x. get_or x (length p + 1) 0) e ∙ child_number p f j in
        absurd (omega (arith, h, k))

not_later : (p : Name) (f i j n : ℕ) → i < j → has (children p f j n) (child p f i) ≡ false
not_later p f i j zero h = refl
not_later p f i j (suc n) h = ap (λ b. b || has (children p f (suc j) n) (child p f i)) (children_apart p f i j h)
    ∙ not_later p f i (suc j) n (omega (arith, h))

children_once : (p : Name) (f i n : ℕ) → Once (children p f i n)
children_once p f i zero = tt
children_once p f i (suc n) = (not_later p f i (suc i) n (omega arith), children_once p f (suc i) n)

-- a name among the children is one of theirs
named : (p : Name) (f i n : ℕ) (q : Name) → has (children p f i n) q ≡ true → (j : ℕ) × (i ≤ j) × (j < i + n) × (q ≡ child p f j)
named p f i zero q h = absurd (cc)
named p f i (suc n) q h = go (named p f (suc i) n q) (same-or-other q (child p f i))
  where
    go : (has (children p f (suc i) n) q ≡ true → (j : ℕ) × (suc i ≤ j) × (j < suc i + n) × (q ≡ child p f j)) → (q ≡ child p f i)
        ⊎ (same q (child p f i) ≡ false) →
        (j : ℕ) × (i ≤ j) × (j < i + suc n) × (q ≡ child p f j)
    go ih (inl e) = (i, omega arith, omega arith, e)
    go ih (inr d) =
        let r : (j : ℕ) × (suc i ≤ j) × (j < suc i + n) × (q ≡ child p f j) = ih (sym (ap (λ b. b || has (children p f (suc i) n) q) d) ∙ h) in
        (r.0, omega (arith, r.1), omega (arith, r.2), r.3)

module _ (p : Name) (f base share : ℕ) where
  earlier_stays : (j : ℕ) (branches : List Branch) (i at : ℕ) (m : Machine) → j < i → MayGoOn m (child p f j)
      → MayGoOn (with_children p f i base at share branches m) (child p f j)
  earlier_stays j [] i at m h g = g
  earlier_stays j (branch ∷ branches) i at m h g =
      earlier_stays j branches (suc i) (at + share) (with_child (child p f i) base at share branch m) (omega (arith, h)) (record {
        activity = g.activity;
        lives = find-with_at-other m.activities (child p f i) (child p f j) _ (children_apart p f j i h) ∙ g.lives;
        free = g.free;
      })

  each_may_go_on : (branches : List Branch) (i at : ℕ) (m : Machine) (j : ℕ) → i ≤ j → j < i + length branches
      → MayGoOn (with_children p f i base at share branches m) (child p f j)
  each_may_go_on [] i at m j h k = absurd (omega (arith, h, k))
  each_may_go_on (branch ∷ branches) i at m j h k =
      go (λ l. each_may_go_on branches (suc i) (at + share) (with_child (child p f i) base at share branch m) j l (omega (arith, k))) (either_order i j h)
    where
      either_order : (i j : ℕ) → i ≤ j → (i ≡ j) ⊎ (suc i ≤ j)
      either_order zero zero h = inl refl
      either_order zero (suc j) h = inr (omega arith)
      either_order (suc i) zero h = absurd (omega (arith, h))
      either_order (suc i) (suc j) h = elim (either_order i j (omega (arith, h))) [ inl e ↦ inl (ap suc e) | inr l ↦ inr (omega (arith, l)) ]

      go : (suc i ≤ j → MayGoOn (with_children p f i base at share (branch ∷ branches) m) (child p f j)) → (i ≡ j) ⊎ (suc i ≤ j) →
          MayGoOn (with_children p f i base at share (branch ∷ branches) m) (child p f j)
      go ih (inr l) = ih l
      go ih (inl e) = subst (λ x. MayGoOn (with_children p f i base at share (branch ∷ branches) m) (child p f x)) e
          (earlier_stays i branches (suc i) (at + share) (with_child (child p f i) base at share branch m) (omega arith)
          (record { activity = _; lives = find-with_at-same m.activities (child p f i) _; free = λ n w. absurd (cc) }))

-- ---- what the kernel makes of an answer

module _ (m : Machine) (p : Name) (a : Activity) (lives : find m.activities p ≡ Some a) (free : IsFree a) (s : Sound m.activities) where
  goes_on : (a' : Activity) (marks : List Name) (r : Running) → IsFree a' → MayGoOn (back m p a' marks r) p
  goes_on a' marks r idle = record { activity = a'; lives = find-with_at-same m.activities p a'; free = idle }

  is_ready : (n : ℕ) → ready ≡ waiting n → ⊥
  is_ready n e = cc

  is_at_when : (n : ℕ) → at_when ≡ waiting n → ⊥
  is_at_when n e = cc

  stands : (forks : ℕ) (marks : List Name) (r : Running) → Join m p (back m p (activity_of r.local forks at_when) marks r) (p ∷ [])
  stands forks marks r = one_joins m (back m p (activity_of r.local forks at_when) marks r) p p
      (goes_on (activity_of r.local forks at_when) marks r is_at_when) (inl refl)

  tried : (others : List Name) (marks : Bool) (r : Running) → Queues m p (attempted m p others a marks r)
  tried others false r = stands a.forks [] r
  tried others true r = go (all_marked (p ∷ m.marks) (p ∷ others))
    where
      go : (b : Bool) → Queues m p (if b then ended standstill (back m p (activity_of r.local a.forks at_when) (p ∷ m.marks) r) else went
          (back m p (activity_of r.local a.forks at_when) (p ∷ m.marks) r) (joins (p ∷ [])))
      go true = tt
      go false = stands a.forks (p ∷ m.marks) r

  forked : (branches : List Branch) (r : Running) (share : ℕ) (n f : ℕ) (after : Machine) → n ≡ length branches →
      Join m p (with_children p f 0 r.local.base r.local.end share branches after) (children p f 0 n)
  forked branches r share n f after count = record {
    once = children_once p f 0 n;
    free = λ q h. let k : (j : ℕ) × (0 ≤ j) × (j < 0 + n) × (q ≡ child p f j) = named p f 0 n q h in
        subst (MayGoOn (with_children p f 0 r.local.base r.local.end share branches after)) (sym k.3)
        (each_may_go_on p f r.local.base share branches 0 r.local.end after k.0 k.1 (omega (arith, k.2, count)));
    new = λ q h. let k : (j : ℕ) × (0 ≤ j) × (j < 0 + n) × (q ≡ child p f j) = named p f 0 n q h in
        inr (λ g. not_live q k.0 k.3 g);
  }
    where
      not_live : (q : Name) (j : ℕ) → q ≡ child p f j → MayGoOn m q → ⊥
      not_live q j e g =
          let yes : same q (child p f j) ≡ true = ap (λ x. same x (child p f j)) e ∙ same-refl (child p f j) in
          let no : true ≡ false = sym yes ∙ no_child m p a lives free s q g.activity f j g.lives in
          absurd (cc)

  abbrev without_it : Running → Machine
  without_it r = record { memory = r.local.memory; activities = without m.activities p; marks = []; turns = r.turns; system = r.system }

  -- the parent waited before
  joined : (r : Running) (y : Activity) (n k : ℕ) → find (without m.activities p) (parent_of p) ≡ Some y → y.standing ≡ waiting n →
      Queues m p (went (record (without_it r) { activities = with_at (without m.activities p) (parent_of p) (record y { standing = awaits k }) })
      (freed k (parent_of p)))
  joined r y n (suc k) found waits = nobody_joins m _ p
  joined r y n zero found waits =
      one_joins m _ p (parent_of p)
      (record {
        activity = record y { standing = ready };
        lives = find-with_at-same (without m.activities p) (parent_of p) (record y { standing = ready });
        free = is_ready;
      })
      (inr (λ g. g.free n (ap (λ x. x.standing)
      (some_is (sym g.lives ∙ sym (find-without-other m.activities p (parent_of p) (other (same-or-other (parent_of p) p))) ∙ found)) ∙ waits)))
    where
      other : (parent_of p ≡ p) ⊎ (same (parent_of p) p ≡ false) → same (parent_of p) p ≡ false
      other (inr n) = n
      other (inl e) = absurd (no_some (find (without m.activities p) (parent_of p))
          (ap (find (without m.activities p)) e ∙ find-without-same m.activities p) found)

  lessening : (r : Running) (y : Activity) (standing : Standing) → find (without m.activities p) (parent_of p) ≡ Some y → y.standing ≡ standing
      → Queues m p (one_less (without_it r) (parent_of p) y standing)
  lessening r y ready found e = nobody_joins m _ p
  lessening r y at_when found e = nobody_joins m _ p
  lessening r y (waiting n) found e = joined r y n (n - 1) found e

  telling : (r : Running) (y : Option Activity) → find (without m.activities p) (parent_of p) ≡ y → Queues m p (notified (without_it r) (parent_of p) y)
  telling r None e = nobody_joins m _ p
  telling r (Some y) e = lessening r y y.standing e refl

  turn_queues : (others : List Name) (kind : Turn) (r : Running) → Queues m p (at_turn m p others a kind r)
  turn_queues others entering r = goes_on (activity_of r.local a.forks ready) [] r is_ready
  turn_queues others leaving r = goes_on (activity_of r.local a.forks ready) [] r is_ready
  turn_queues others looping r = goes_on (activity_of r.local a.forks ready) [] r is_ready
  turn_queues others arriving r = stands a.forks [] r
  turn_queues others (again marks) r = tried others marks r
  turn_queues others (forking branches) r =
      forked branches r ((r.local.last - r.local.end) / length branches) (length branches) (suc a.forks)
      (back m p (activity_of r.local (suc a.forks) (waiting (length branches))) [] r) refl
  turn_queues others exiting r = telling r (find (without m.activities p) (parent_of p)) refl
  turn_queues others finishing r = tt

  kernel_queues : (others : List Name) (answer : Answer) → Queues m p (kernel m p others a answer)
  kernel_queues others (on r) = goes_on (activity_of r.local a.forks ready) m.marks r is_ready
  kernel_queues others (behind r) = goes_on (activity_of r.local a.forks ready) [] r is_ready
  kernel_queues others (turned kind r) = turn_queues others kind r
  kernel_queues others (over ending r) = tt

  pub step_queues : (code : ℕ → Option (Instruction × ℕ)) (others : List Name) → Queues m p (step code m p others)
  step_queues code others =
      subst (λ x. Queues m p (step_of code m p others x)) (sym lives)
      (kernel_queues others (local_step code (length m.activities) (is_first p) (running_of m a)))
