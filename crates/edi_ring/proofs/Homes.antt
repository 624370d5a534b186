-- What callers learn of the lists: the home of each node, and that no node stands in two places.
use Rattle.std.proofs.Common.{◌≡◌, ℕ, suc, zero, ◌+◌, ◌<◌, ◌≤◌, ◌⊎◌, inl, inr, Bool, true, false, List, [], ◌∷◌, length, refl, sym, ◌∙◌, ap}
use Rattle.std.proofs.Common.{arith, eqb}
use Rattle.std.proofs.Common.{eq-eqb, get_or}
use Rattle.std.specs.Prelude.{Option, Some, None}
use Rattle.std.specs.List.{position_from, IsDistinct, AllByRecursion}
use Rattle.std.proofs.lemmas.Bool.{ne_eqb, cases_eq, cases_lt}
use Rattle.std.proofs.lemmas.List.{get_or_past}
use Rattle.std.proofs.lemmas.Map.Steps.{length-le_from_distinct_below}
use Rattle.edi_ring.specs.declared.Row.{Row}
use Rattle.edi_ring.specs.Lists.{list_at, has, home_of, IsSound}
use Rattle.edi_ring.specs.Links.{IsListed, IsAmong, NoneTwice}

-- the test for a node says whether it is among the nodes
pub has-from_among : (n : ℕ) (xs : List ℕ) → IsAmong n xs → has xs n ≡ true
has-from_among n [] i = absurd i
has-from_among n (x ∷ xs) (inl e) = rw (eq-eqb n x e) refl
has-from_among n (x ∷ xs) (inr i) =
    elim (cases_eq n x) [ inl e ↦ rw (eq-eqb n x e) refl | inr ne ↦ rw (ne_eqb n x ne) (has-from_among n xs i) ]

pub among-from_has : (n : ℕ) (xs : List ℕ) → has xs n ≡ true → IsAmong n xs
among-from_has n [] h = absurd (cc)
among-from_has n (x ∷ xs) h =
    elim (cases_eq n x) [ inl e ↦ inl e | inr ne ↦ inr (among-from_has n xs (rw (ne_eqb n x ne) at h)) ]

two : (b : Bool) → (b ≡ true) ⊎ (b ≡ false)
two true = inl refl
two false = inr refl

-- a list that is not the first has the node at a later place
further : (q k m : ℕ) (xs : List ℕ) (lists : List (List ℕ)) (l : ℕ) → has xs q ≡ false → m ≡ k + l → IsAmong q (list_at (xs ∷ lists) l)
    → (l : ℕ) × (m ≡ k + 1 + l) × IsAmong q (list_at lists l)
further q k m xs lists zero none e i = let some = has-from_among q xs i in absurd (cc)
further q k m xs lists (suc l) none e i = (l, omega arith, i)

-- the search for the first list that has a node finds its home
home_from : (q k : ℕ) (lists : List (List ℕ)) (h : Option ℕ)
    → ((l m : ℕ) → m ≡ k + l → IsAmong q (list_at lists l) → h ≡ Some m)
    → ((m : ℕ) → h ≡ Some m → (l : ℕ) × (m ≡ k + l) × IsAmong q (list_at lists l))
    → position_from (λ nodes. has nodes q) k lists ≡ h
home_from q k [] None homes among_list = refl
home_from q k [] (Some m) homes among_list = absurd (among_list m refl).2
home_from q k (xs ∷ lists) h homes among_list =
    elim (two (has xs q)) [
      | inl here ↦ rw here (sym (homes 0 k (omega arith) (among-from_has q xs here)))
      | inr none ↦
          rw none (home_from q (k + 1) lists h (λ l m e i. homes (suc l) m (omega arith) i)
          (λ m e. let f = among_list m e in further q k m xs lists f.0 none f.1 f.2))
    ]

pub home_of-IsListed : (home : List (Option ℕ)) (rows : List Row) (lists : List (List ℕ)) → IsListed home rows lists
    → (q : ℕ) → home_of lists q ≡ get_or home q None
home_of-IsListed home rows lists h q =
    home_from q 0 lists (get_or home q None)
    (λ l m e i. let same : m ≡ l = omega arith in h.homes l q i ∙ ap (λ k. Some k) (sym same))
    (λ m e. (m, omega arith, h.among_list m q e))

-- no node twice, in the library's word
apart : (n : ℕ) (xs : List ℕ) → (IsAmong n xs → ⊥) → AllByRecursion (λ y. eqb n y ≡ false) xs
apart n [] none = tt
apart n (x ∷ xs) none = (ne_eqb n x (λ e. none (inl e)), apart n xs (λ i. none (inr i)))

pub IsDistinct-from_NoneTwice : (xs : List ℕ) → NoneTwice xs → IsDistinct eqb xs
unfolding IsDistinct
IsDistinct-from_NoneTwice [] t = tt
IsDistinct-from_NoneTwice (x ∷ xs) t = (apart x xs t.0, IsDistinct-from_NoneTwice xs t.1)

-- a place that has a value is in the array
pub within : (home : List (Option ℕ)) (q l : ℕ) → get_or home q None ≡ Some l → q < length home
within home q l e =
    elim (cases_lt q (length home)) [ inl lt ↦ lt | inr le ↦ let past : get_or home q None ≡ None = get_or_past home q None le in cc ]

pub IsSound-IsListed : (nodes count : ℕ) (home : List (Option ℕ)) (rows : List Row) (lists : List (List ℕ))
    → IsListed home rows lists → length home ≡ nodes → length rows ≡ count → IsSound nodes count lists
IsSound-IsListed nodes count home rows lists h wide many = record {
  as_many = h.as_many ∙ many;
  in_range = λ l q i. let lt = within home q l (h.homes l q (among-from_has q (list_at lists l) i)) in omega arith;
  in_one_list = λ a b q i j.
      let first = h.homes a q (among-from_has q (list_at lists a) i) in
      let second = h.homes b q (among-from_has q (list_at lists b) j) in cc;
  once = λ l. IsDistinct-from_NoneTwice (list_at lists l) (h.once l);
}

-- a list is no longer than there are nodes
pub length-le-nodes : (nodes count : ℕ) (lists : List (List ℕ)) (l : ℕ) → IsSound nodes count lists → length (list_at lists l) ≤ nodes
length-le-nodes nodes count lists l s = length-le_from_distinct_below (list_at lists l) nodes (s.once l) (λ q h. s.in_range l q h)
