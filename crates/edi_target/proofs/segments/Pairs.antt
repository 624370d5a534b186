-- Of two different processes one is a descendant of the other, or their segments have no word in common.
use Rattle.std.proofs.Common.{◌≡◌, ℕ, zero, suc, ◌+◌, ◌-◌, ◌<◌, ◌⊎◌, inl, inr, false, [], ◌∷◌, ◌++◌, length, drop, Some, sym, subst, ap, ◌∙◌, arith}
use Rattle.std.proofs.Common.{append_assoc, length-drop, length-append}
use Rattle.std.proofs.lemmas.List.{take-append-drop}
use Rattle.edi_calls.proofs.Names.{some_is}
use Rattle.edi_calls.specs.Names.{Name, Table, same, find}
use Rattle.edi_calls.specs.Ready.{parent_of}
use Rattle.edi_calls.proofs.Tables.{same-or-other}
use Rattle.edi_target.specs.Mach.{Activity, IsAncestor}
use Rattle.edi_target.specs.segments.Nested.{IsInOrder, IsBehind, IsInParent, AreApart, Lie, apart, inside, around}
use Rattle.edi_target.proofs.segments.Families.{parent_shorter, apart_swapped, Sound}

-- q is a child of p, or a child of such a one
pub data Under (p : Name) : Name → Type 0 where
  child_of : (q : Name) → 0 < length q → parent_of q ≡ p → Under p q
  deeper : (q : Name) → 0 < length q → Under p (parent_of q) → Under p q

under_longer : (p q : Name) → Under p q → length p < length q
under_longer p _ (child_of q some e) = subst (λ y. length y < length q) e (parent_shorter q some)
under_longer p _ (deeper q some u) = omega (arith, under_longer p (parent_of q) u, parent_shorter q some)

-- what a child's name has behind that of its parent
tail_of : (q : Name) → 0 < length q → IsAncestor (parent_of q) q
tail_of q some = (drop (length q - 2) q, omega (arith, length-drop (length q - 2) q), sym (take-append-drop (length q - 2) q))

pub under_ancestor : (p q : Name) → Under p q → IsAncestor p q
under_ancestor p _ (child_of q some e) = subst (λ y. IsAncestor y q) e (tail_of q some)
under_ancestor p _ (deeper q some u) =
    let up : IsAncestor p (parent_of q) = under_ancestor p (parent_of q) u in
    let down : IsAncestor (parent_of q) q = tail_of q some in
    (up.0 ++ down.0, omega (arith, length-append up.0 down.0, down.1), down.2 ∙ ap (λ y. y ++ down.0) up.2 ∙ append_assoc p up.0 down.0)

pub data Lying (p : Name) (a : Activity) (q : Name) (b : Activity) : Type 0 where
  apart_from : AreApart a b → Lying p a q b
  under : Under q p → IsBehind a b → Lying p a q b
  over : Under p q → IsBehind b a → Lying p a q b

swapped : (p q : Name) (a b : Activity) → Lying p a q b → Lying q b p a
swapped p q a b (apart_from h) = apart_from (apart_swapped a b h)
swapped p q a b (under u h) = over u h
swapped p q a b (over u h) = under u h

-- how they lie, or p is below the parent of q
data Half (p : Name) (a : Activity) (q : Name) (b : Activity) : Type 0 where
  settled : Lying p a q b → Half p a q b
  still_open : Under (parent_of q) p → Half p a q b

deeper_behind : (a b c : Activity) → IsInOrder b → IsBehind a b → IsBehind b c → IsBehind a c
deeper_behind a b c o h k = record { behind = omega (arith, k.behind, o.begins, o.links, o.uses, h.behind); within = omega (arith, h.within, k.within) }

part_apart : (a b c : Activity) → IsInOrder c → IsBehind b c → AreApart a c → AreApart a b
part_apart a b c o h (inl k) = inl (omega (arith, k, o.begins, o.links, o.uses, h.behind))
part_apart a b c o h (inr k) = inr (omega (arith, k, h.within))

module _ (t : Table Activity) (s : Sound t) where
  -- by the parent of q
  half : (p q : Name) (a b c : Activity) → 0 < length q → IsInOrder c → IsBehind b c → Lying p a (parent_of q) c → Half p a q b
  half p q a b c some o h (apart_from k) = settled (apart_from (part_apart a b c o h k))
  half p q a b c some o h (under u k) = still_open u
  half p q a b c some o h (over u k) = settled (over (deeper q some u) (deeper_behind b c a o h k))

  half_of : (p q : Name) (a b : Activity) → find t p ≡ Some a → 0 < length q → IsInParent t q b →
      ((c : Activity) → same p (parent_of q) ≡ false → find t (parent_of q) ≡ Some c → Lying p a (parent_of q) c) → (p ≡ parent_of q)
      ⊎ (same p (parent_of q) ≡ false) → Half p a q b
  half_of p q a b e some h ih (inl k) =
      settled (over (child_of q some (sym k)) (subst (IsBehind b) (some_is (sym h.lives ∙ sym (ap (find t) k) ∙ e)) h.lies))
  half_of p q a b e some h ih (inr n) = half p q a b h.parent some (s.ordered (parent_of q) h.parent h.lives) h.lies (ih h.parent n h.lives)

  -- neither is below the parent of the other but where they are siblings
  both_open : (p q : Name) (a b : Activity) → same p q ≡ false → find t p ≡ Some a → find t q ≡ Some b → 0 < length p → 0 < length q → Under (parent_of q) p
      → Under (parent_of p) q → Lying p a q b
  both_open _ q a b n e f some some' (child_of p more k) v = apart_from (s.siblings p q a b some some' k n e f)
  both_open _ _ a b n e f some some' (deeper p more u) (child_of q more' k) = apart_from (s.siblings p q a b some some' (sym k) n e f)
  both_open _ _ a b n e f some some' (deeper p more u) (deeper q more' v) =
      absurd (omega (arith, under_longer (parent_of q) (parent_of p) u, under_longer (parent_of p) (parent_of q) v))

  joined : (p q : Name) (a b : Activity) → same p q ≡ false → find t p ≡ Some a → find t q ≡ Some b → 0 < length p → 0 < length q → Half p a q b
      → Half q b p a → Lying p a q b
  joined p q a b n e f some some' (settled h) k = h
  joined p q a b n e f some some' (still_open u) (settled k) = swapped q p b a k
  joined p q a b n e f some some' (still_open u) (still_open v) = both_open p q a b n e f some some' u v

  first_of_all : (q : Name) (a b : Activity) → Half [] a q b → Lying [] a q b
  first_of_all q a b (settled h) = h
  first_of_all q a b (still_open u) = absurd (omega (arith, under_longer (parent_of q) [] u))

  pub lying : (n : ℕ) (p q : Name) (a b : Activity) → length p + length q < n → same p q ≡ false → find t p ≡ Some a → find t q ≡ Some b → Lying p a q b
  lying zero p q a b h n e f = absurd (omega (arith, h))
  lying (suc k) [] [] a b h n e f = absurd (cc)
  lying (suc k) [] (y ∷ q) a b h n e f =
      first_of_all (y ∷ q) a b (half_of [] (y ∷ q) a b e (omega arith) (s.nested (y ∷ q) b (omega arith) f)
      (λ c m g. lying k [] (parent_of (y ∷ q)) a c (omega (arith, h, parent_shorter (y ∷ q) (omega arith))) m e g) (same-or-other [] (parent_of (y ∷ q))))
  lying (suc k) (x ∷ p) [] a b h n e f =
      swapped [] (x ∷ p) b a (first_of_all (x ∷ p) b a (half_of [] (x ∷ p) b a f (omega arith) (s.nested (x ∷ p) a (omega arith) e)
      (λ c m g. lying k [] (parent_of (x ∷ p)) b c (omega (arith, h, parent_shorter (x ∷ p) (omega arith))) m f g) (same-or-other [] (parent_of (x ∷ p)))))
  lying (suc k) (x ∷ p) (y ∷ q) a b h n e f =
      joined (x ∷ p) (y ∷ q) a b n e f (omega arith) (omega arith)
      (half_of (x ∷ p) (y ∷ q) a b e (omega arith) (s.nested (y ∷ q) b (omega arith) f)
      (λ c m g. lying k (x ∷ p) (parent_of (y ∷ q)) a c (omega (arith, h, parent_shorter (y ∷ q) (omega arith))) m e g)
      (same-or-other (x ∷ p) (parent_of (y ∷ q))))
      (half_of (y ∷ q) (x ∷ p) b a f (omega arith) (s.nested (x ∷ p) a (omega arith) e)
      (λ c m g. lying k (y ∷ q) (parent_of (x ∷ p)) b c (omega (arith, h, parent_shorter (x ∷ p) (omega arith))) m f g)
      (same-or-other (y ∷ q) (parent_of (x ∷ p))))

  by_names : (p q : Name) (a b : Activity) → Lying p a q b → Lie p a q b
  by_names p q a b (apart_from h) = apart h
  by_names p q a b (under u h) = inside (under_ancestor q p u) h
  by_names p q a b (over u h) = around (under_ancestor p q u) h

  pub pair : (p q : Name) (a b : Activity) → same p q ≡ false → find t p ≡ Some a → find t q ≡ Some b → Lie p a q b
  pair p q a b n e f = by_names p q a b (lying (suc (length p + length q)) p q a b (omega arith) n e f)
