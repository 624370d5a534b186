-- The slots in the order of their use.
use Rattle.std.proofs.Common.{◌≡◌, ◌⊎◌, ℕ, ◌+◌, ◌≤◌, inl, inr, true, false, cond, not, List, [], ◌∷◌, ◌++◌, length, map, refl, ◌∙◌, ap, arith, eqb, eq-eqb}
use Rattle.std.specs.Prelude.{Some, None, IsSome, IfSome, slice_get, nat_eq, drop, filter}
use Rattle.std.specs.List.{IsDistinct, AllByRecursion}
use Rattle.std.proofs.lemmas.Bool.{ne_eqb, cases_eq, cases_lt, lt-ltb, le-ltb, cases_Bool, or_from, or_right}
use Rattle.std.proofs.lemmas.List.{length-map}
use Rattle.edi_ring.specs.Lists.{list_at, has, home_of, appended, without, IsSound}
use Rattle.edi_disk.specs.Use.{with_room}
use Rattle.edi_disk.specs.Slots.{IsPacked, Vacates}

-- the one list
home_is : (order : List (List ℕ)) (node : ℕ) → length order ≡ 1 → home_of order node ≡ cond (has (list_at order 0) node) (Some 0) None
home_is [] node one = absurd (omega arith)
home_is (xs ∷ []) node one = refl
home_is (xs ∷ ys ∷ zs) node one = absurd (omega arith)

pub home_of_has : (order : List (List ℕ)) (node : ℕ) → length order ≡ 1 → has (list_at order 0) node ≡ true → home_of order node ≡ Some 0
home_of_has order node one h = home_is order node one ∙ rw h refl

pub is_home : (order : List (List ℕ)) (node : ℕ) → length order ≡ 1 → has (list_at order 0) node ≡ true → IsSome (home_of order node)
is_home order node one h = rw (home_of_has order node one h) refl

pub has_from_home : (order : List (List ℕ)) (node : ℕ) → length order ≡ 1 → IsSome (home_of order node) → has (list_at order 0) node ≡ true
has_from_home order node one h =
    elim (cases_Bool (has (list_at order 0) node)) [
      | inl yes' ↦ yes'
      | inr no' ↦ let e : false ≡ true = rw (home_is order node one, no') at h in absurd (cc)
    ]

-- the others
abbrev pub minus : ℕ → List ℕ → List ℕ
minus node nodes = filter (λ other. not (nat_eq node other)) nodes

moved_one : (order : List (List ℕ)) (node : ℕ) → length order ≡ 1 → list_at (appended (without order node) 0 node) 0 ≡ minus node (list_at order 0) ++ node ∷ []
moved_one [] node one = absurd (omega arith)
moved_one (xs ∷ []) node one = refl
moved_one (xs ∷ ys ∷ zs) node one = absurd (omega arith)

-- what `to_back` leaves of the one list
pub moved : (order new : List (List ℕ)) (node : ℕ) → length order ≡ 1 → has (list_at order 0) node ≡ true
    → IfSome (home_of order node) (λ list. new ≡ appended (without order node) list node) → list_at new 0 ≡ minus node (list_at order 0) ++ node ∷ []
moved order new node one h exact =
    let is : new ≡ appended (without order node) 0 node = rw (home_of_has order node one h) at exact in
    rw is (moved_one order node one)

has_push : (q node : ℕ) (xs : List ℕ) → has (xs ++ node ∷ []) q ≡ true → (has xs q ≡ true) ⊎ (q ≡ node)
has_push q node [] h = elim (cases_eq q node) [ inl e ↦ inr e | inr ne ↦ inl (rw (ne_eqb q node ne) at h) ]
has_push q node (x ∷ xs) h =
    elim (cases_eq q x) [
      | inl e ↦ inl (rw (eq-eqb q x e) refl)
      | inr ne ↦ elim (has_push q node xs (rw (ne_eqb q x ne) at h)) [ inl there ↦ inl (rw (ne_eqb q x ne) there) | inr e ↦ inr e ]
    ]

pub has_push_cases : (q node : ℕ) (xs : List ℕ) → has (xs ++ node ∷ []) q ≡ true → (has xs q ≡ true) ⊎ (q ≡ node)
has_push_cases = has_push

pub has_minus : (q node : ℕ) (xs : List ℕ) → has (minus node xs) q ≡ true → has xs q ≡ true
has_minus q node [] h = h
has_minus q node (x ∷ xs) h =
    elim (cases_eq node x) [
      | inl e ↦ or_right (nat_eq q x) _ (has_minus q node xs (rw (eq-eqb node x e) at h))
      | inr ne ↦
          let kept : has (x ∷ minus node xs) q ≡ true = rw (ne_eqb node x ne) at h in
          elim (cases_eq q x) [
            | inl e ↦ rw (eq-eqb q x e) refl
            | inr other ↦ rw (ne_eqb q x other) (has_minus q node xs (rw (ne_eqb q x other) at kept))
          ]
    ]

pub has_not_minus : (node : ℕ) (xs : List ℕ) → has (minus node xs) node ≡ false
has_not_minus node [] = refl
has_not_minus node (x ∷ xs) =
    elim (cases_eq node x) [
      | inl e ↦ rw (eq-eqb node x e) (has_not_minus node xs)
      | inr ne ↦ rw (ne_eqb node x ne) (rw (ne_eqb node x ne) (has_not_minus node xs))
    ]

-- no node stands twice
apart : (x : ℕ) (xs : List ℕ) → AllByRecursion (λ y. eqb x y ≡ false) xs → has xs x ≡ false
apart x [] h = refl
apart x (y ∷ ys) h = or_from _ _ h.0 (apart x ys h.1)

pub head_apart : (x : ℕ) (xs : List ℕ) → IsDistinct nat_eq (x ∷ xs) → has xs x ≡ false
unfolding IsDistinct
head_apart x xs d = apart x xs d.0

tail_distinct : (x : ℕ) (xs : List ℕ) → IsDistinct nat_eq (x ∷ xs) → IsDistinct nat_eq xs
unfolding IsDistinct
tail_distinct x xs d = d.1

pub minus_absent : (node : ℕ) (xs : List ℕ) → has xs node ≡ false → minus node xs ≡ xs
minus_absent node [] h = refl
minus_absent node (x ∷ xs) h =
    elim (cases_eq node x) [
      | inl e ↦ let no' : true ≡ false = rw (eq-eqb node x e) at h in absurd (cc)
      | inr ne ↦ rw (ne_eqb node x ne) (ap (λ ys. x ∷ ys) (minus_absent node xs (rw (ne_eqb node x ne) at h)))
    ]

-- only one is left out
pub length-minus : (node : ℕ) (xs : List ℕ) → IsDistinct nat_eq xs → length xs ≤ length (minus node xs) + 1
length-minus node [] d = omega arith
length-minus node (x ∷ xs) d =
    elim (cases_eq node x) [
      | inl e ↦
          let none : has xs node ≡ false = rw e (head_apart x xs d) in
          let same = ap length (minus_absent node xs none) in
          rw (eq-eqb node x e) (omega arith)
      | inr ne ↦ let rest = length-minus node xs (tail_distinct x xs d) in rw (ne_eqb node x ne) (omega arith)
    ]

length_push : (xs : List ℕ) (x : ℕ) → length (xs ++ x ∷ []) ≡ length xs + 1
length_push [] x = refl
length_push (y ∷ xs) x = let rest = length_push xs x in omega arith

-- a slot that is moved to the back: the slots in use are those that were, below their number
pub packed_moved : (order new : List (List ℕ)) (node : ℕ) → IsPacked order → IsSound 16 1 new → has (list_at order 0) node ≡ true
    → list_at new 0 ≡ minus node (list_at order 0) ++ node ∷ [] → IsPacked new
packed_moved order new node packed sound h is = record {
  sound = sound;
  below = λ q there.
      let was : has (list_at order 0) q ≡ true = was_there q (rw is at there) in
      let lt = packed.below q was in
      let few = length-minus node (list_at order 0) (packed.sound.once 0) in
      rw is (omega (arith, length_push (minus node (list_at order 0)) node));
}
  where
    was_there : (q : ℕ) → has (minus node (list_at order 0) ++ node ∷ []) q ≡ true → has (list_at order 0) q ≡ true
    was_there q there = elim (has_push q node (minus node (list_at order 0)) there) [ inl i ↦ has_minus q node (list_at order 0) i | inr e ↦ rw e h ]

pub has_moved : (xs : List ℕ) (q node : ℕ) → has xs node ≡ true → has (minus node xs ++ node ∷ []) q ≡ true → has xs q ≡ true
has_moved xs q node h there = elim (has_push q node (minus node xs) there) [ inl i ↦ has_minus q node xs i | inr e ↦ rw e h ]

-- the first of the slots in use
pub first_in : (xs : List ℕ) (first : ℕ) → slice_get xs 0 ≡ Some first → has xs first ≡ true
first_in [] first e = let h : None ≡ Some first = e in absurd (cc)
first_in (x ∷ xs) first e = let h : Some x ≡ Some first = e in let same : first ≡ x = cc in rw (eq-eqb first x same) refl

minus_first : (xs : List ℕ) (first : ℕ) → IsDistinct nat_eq xs → slice_get xs 0 ≡ Some first → minus first xs ≡ drop 1 xs
minus_first [] first d e = refl
minus_first (x ∷ xs) first d e =
    let h : Some x ≡ Some first = e in
    let same : first ≡ x = cc in
    rw (eq-eqb first x same) (minus_absent first xs (rw same (head_apart x xs d)))

pub vacates_first : (order new : List (List ℕ)) (first : ℕ) → IsPacked order → IsSound 16 1 new → 16 ≤ length (list_at order 0)
    → slice_get (list_at order 0) 0 ≡ Some first
    → IfSome (home_of order first) (λ list. new ≡ appended (without order first) list first) → Vacates order new first
vacates_first order new first packed sound full e exact =
    let in_use = first_in (list_at order 0) first e in
    let is = moved order new first packed.sound.as_many in_use exact in
    let rest = minus_first (list_at order 0) first (packed.sound.once 0) e in
    record {
      packed = packed_moved order new first packed sound in_use is;
      in_range = packed.sound.in_range 0 first in_use;
      last = rw (le-ltb (length (list_at order 0)) 16 full, ← rest) is;
      other = rw (le-ltb (length (list_at order 0)) 16 full, ← rest) (has_not_minus first (list_at order 0));
    }

pub room_in : (xs : List ℕ) (q : ℕ) → has (with_room xs) q ≡ true → has xs q ≡ true
room_in xs q h =
    elim (cases_lt (length xs) 16) [
      | inl lt ↦ rw (lt-ltb (length xs) 16 lt) at h
      | inr le ↦ rest xs (rw (le-ltb (length xs) 16 le) at h)
    ]
  where
    rest : (xs : List ℕ) → has (drop 1 xs) q ≡ true → has xs q ≡ true
    rest [] h = h
    rest (x ∷ xs) h = or_right (nat_eq q x) _ h

pub room_map : {A B : Type 0} (f : A → B) (xs : List A) → with_room (map f xs) ≡ map f (with_room xs)
room_map {A = A} f xs =
    elim (cases_lt (length xs) 16) [
      | inl lt ↦ rw (lt-ltb (length xs) 16 lt, lt-ltb (length (map f xs)) 16 (omega (arith, length-map xs f))) refl
      | inr le ↦ rw (le-ltb (length xs) 16 le, le-ltb (length (map f xs)) 16 (omega (arith, length-map xs f))) (rest xs)
    ]
  where
    rest : (xs : List A) → drop 1 (map f xs) ≡ map f (drop 1 xs)
    rest [] = refl
    rest (x ∷ xs) = refl
