-- Tables of activities whose segments are nested as their processes are, and what changes leave them so.
use Rattle.std.proofs.Common.{◌≡◌, ℕ, ◌-◌, ◌<◌, ◌≤◌, ◌⊎◌, inl, inr, true, false, List, [], ◌∷◌, length, Option, Some, None, refl, sym}
use Rattle.std.proofs.Common.{subst, ap, ◌∙◌, arith}
use Rattle.std.proofs.lemmas.List.{length-take}
use Rattle.edi_calls.specs.Names.{Name, Table, same, find, with_at, without}
use Rattle.edi_calls.specs.Ready.{parent_of, has}
use Rattle.edi_calls.proofs.Names.{some_is, no_some}
use Rattle.edi_calls.proofs.Tables.{same-refl, same-or-other, find-with_at-same, find-with_at-other, find-without-same, find-without-other}
use Rattle.edi_target.specs.Mach.{waiting, Activity}
use Rattle.edi_target.specs.segments.Nested.{IsInOrder, IsBehind, IsInParent, AreApart}

-- ---- small facts

pub parent_shorter : (p : Name) → 0 < length p → length (parent_of p) < length p
parent_shorter p some = omega (arith, length-take (length p - 2) p)

-- nobody is the own parent but the first
pub parent_apart : (p : Name) → 0 < length p → same (parent_of p) p ≡ false
parent_apart p some = go (same-or-other (parent_of p) p)
  where
    go : (parent_of p ≡ p) ⊎ (same (parent_of p) p ≡ false) → same (parent_of p) p ≡ false
    go (inr n) = n
    go (inl e) = let l : length (parent_of p) ≡ length p = ap length e in absurd (omega (arith, l, parent_shorter p some))

-- a process that does not wait
abbrev pub IsFree : Activity → Type 0
IsFree a = (n : ℕ) → a.standing ≡ waiting n → ⊥

-- at most n children of p live
pub record Few (t : Table Activity) (p : Name) (n : ℕ) : Type 0 where
  pub list : List Name
  pub size : length list ≤ n
  pub all : (r : Name) (b : Activity) → 0 < length r → parent_of r ≡ p → find t r ≡ Some b → has list r ≡ true

pub record Sound (t : Table Activity) : Type 0 where
  pub ordered : (p : Name) (a : Activity) → find t p ≡ Some a → IsInOrder a
  pub nested : (p : Name) (a : Activity) → 0 < length p → find t p ≡ Some a → IsInParent t p a
  pub siblings : (p q : Name) (a b : Activity) → 0 < length p → 0 < length q → parent_of p ≡ parent_of q → same p q ≡ false →
      find t p ≡ Some a → find t q ≡ Some b → AreApart a b
  pub few : (p : Name) (a : Activity) (n : ℕ) → find t p ≡ Some a → a.standing ≡ waiting n → Few t p n

-- the same segment
abbrev pub Alike : Activity → Activity → Type 0
Alike a b = (a.first ≡ b.first) × (a.last ≡ b.last)

pub behind_alike : (a b c : Activity) → Alike a b → IsBehind a c → IsBehind b c
behind_alike a b c e h = record { behind = subst (λ n. c.end ≤ n) e.0 h.behind; within = subst (λ n. n ≤ c.last) e.1 h.within }

pub apart_alike : (a b c d : Activity) → Alike a c → Alike b d → AreApart a b → AreApart c d
apart_alike a b c d e f (inl h) = inl (omega (arith, h, e.1, f.0))
apart_alike a b c d e f (inr h) = inr (omega (arith, h, e.0, f.1))

pub apart_swapped : (a b : Activity) → AreApart a b → AreApart b a
apart_swapped a b (inl h) = inr h
apart_swapped a b (inr h) = inl h

-- the same where each process lived before, in the same segment
pub few_stay : (t u : Table Activity) (p : Name) (n : ℕ)
    → ((r : Name) (b : Activity) → find u r ≡ Some b → (c : Activity) × (find t r ≡ Some c) × Alike c b) → Few t p n → Few u p n
few_stay t u p n was few = record {
  list = few.list;
  size = few.size;
  all = λ r b some own f. let c : (c : Activity) × (find t r ≡ Some c) × Alike c b = was r b f in few.all r c.0 some own c.1;
}

-- ---- a process that does not wait

module _ (t : Table Activity) (p : Name) (a : Activity) (lives : find t p ≡ Some a) (free : IsFree a) (s : Sound t) where
  -- has no children
  pub no_children : (q : Name) (b : Activity) → 0 < length q → find t q ≡ Some b → same (parent_of q) p ≡ false
  no_children q b some e = go (same-or-other (parent_of q) p) (s.nested q b some e)
    where
      go : (parent_of q ≡ p) ⊎ (same (parent_of q) p ≡ false) → IsInParent t q b → same (parent_of q) p ≡ false
      go (inr n) h = n
      go (inl k) h =
          let one : a ≡ h.parent = some_is (sym lives ∙ sym (ap (find t) k) ∙ h.lives) in
          absurd (free h.number (ap (λ x. x.standing) one ∙ h.waits))

  -- goes on in its segment, or waits
  module _ (a' : Activity) (alike : Alike a a') (order : IsInOrder a') where
    pub was : (q : Name) (b : Activity) → find (with_at t p a') q ≡ Some b → (c : Activity) × (find t q ≡ Some c) × Alike c b
    was q b e = go (same-or-other q p)
      where
        go : (q ≡ p) ⊎ (same q p ≡ false) → (c : Activity) × (find t q ≡ Some c) × Alike c b
        go (inr n) = (b, sym (find-with_at-other t p q a' n) ∙ e, (refl, refl))
        go (inl k) =
            let one : a' ≡ b = some_is (sym (find-with_at-same t p a') ∙ sym (ap (find (with_at t p a')) k) ∙ e) in
            (a, ap (find t) k ∙ lives, (alike.0 ∙ ap (λ x. x.first) one, alike.1 ∙ ap (λ x. x.last) one))

    pub replaced : Sound (with_at t p a')
    replaced = record {
      ordered = λ q b e. in_order q b e (same-or-other q p);
      nested = λ q b some e. let c : (c : Activity) × (find t q ≡ Some c) × Alike c b = was q b e in
          let h : IsInParent t q c.0 = s.nested q c.0 some c.1 in
          record {
            parent = h.parent;
            lives = find-with_at-other t p (parent_of q) a' (no_children q c.0 some c.1) ∙ h.lives;
            number = h.number;
            waits = h.waits;
            lies = behind_alike c.0 b h.parent c.2 h.lies;
          };
      siblings = λ q r b d some some' k n e f. let c : (c : Activity) × (find t q ≡ Some c) × Alike c b = was q b e in
          let g : (c : Activity) × (find t r ≡ Some c) × Alike c d = was r d f in
          apart_alike c.0 g.0 b d c.2 g.2 (s.siblings q r c.0 g.0 some some' k n c.1 g.1);
      few = λ q b n e w. fewer q b n e w (same-or-other q p);
    }
      where
        in_order : (q : Name) (b : Activity) → find (with_at t p a') q ≡ Some b → (q ≡ p) ⊎ (same q p ≡ false) → IsInOrder b
        in_order q b e (inr n) = s.ordered q b (sym (find-with_at-other t p q a' n) ∙ e)
        in_order q b e (inl k) = subst IsInOrder (some_is (sym (find-with_at-same t p a') ∙ sym (ap (find (with_at t p a')) k) ∙ e)) order

        fewer : (q : Name) (b : Activity) (n : ℕ) → find (with_at t p a') q ≡ Some b → b.standing ≡ waiting n → (q ≡ p) ⊎ (same q p ≡ false)
            → Few (with_at t p a') q n
        fewer q b n e w (inl k) = record {
          list = [];
          size = omega arith;
          all = λ r x some own f. let c : (c : Activity) × (find t r ≡ Some c) × Alike c x = was r x f in
              let yes : same (parent_of r) p ≡ true = ap (λ y. same y p) (own ∙ k) ∙ same-refl p in
              let no : true ≡ false = sym yes ∙ no_children r c.0 some c.1 in
              absurd (cc);
        }
        fewer q b n e w (inr m) = few_stay t (with_at t p a') q n was (s.few q b n (sym (find-with_at-other t p q a' m) ∙ e) w)

  -- ends
  pub left_apart : (q : Name) (b : Activity) → find (without t p) q ≡ Some b → same q p ≡ false
  left_apart q b e = go (same-or-other q p)
    where
      go : (q ≡ p) ⊎ (same q p ≡ false) → same q p ≡ false
      go (inr n) = n
      go (inl k) = absurd (no_some (find (without t p) q) (ap (find (without t p)) k ∙ find-without-same t p) e)

  pub left_was : (q : Name) (b : Activity) → find (without t p) q ≡ Some b → find t q ≡ Some b
  left_was q b e = sym (find-without-other t p q (left_apart q b e)) ∙ e

  pub left : Sound (without t p)
  left = record {
    ordered = λ q b e. s.ordered q b (left_was q b e);
    nested = λ q b some e. let h : IsInParent t q b = s.nested q b some (left_was q b e) in
        record {
          parent = h.parent;
          lives = find-without-other t p (parent_of q) (no_children q b some (left_was q b e)) ∙ h.lives;
          number = h.number;
          waits = h.waits;
          lies = h.lies;
        };
    siblings = λ q r b d some some' k n e f. s.siblings q r b d some some' k n (left_was q b e) (left_was r d f);
    few = λ q b n e w. let old : Few t q n = s.few q b n (left_was q b e) w in
        record { list = old.list; size = old.size; all = λ r x some own f. old.all r x some own (left_was r x f) };
  }
