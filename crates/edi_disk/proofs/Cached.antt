-- What is cached after a use of a block.
use Rattle.std.proofs.Common.{◌≡◌, ℕ, ◌≤◌, inl, inr, true, false, List, [], ◌∷◌, ◌++◌, length, map, refl, sym, ◌∙◌, ap, arith, eq-eqb}
use Rattle.std.specs.Prelude.{Option, Some, None, IfSome, drop}
use Rattle.std.specs.Option.{option_map}
use Rattle.std.proofs.lemmas.Bool.{cases_Bool, cases_eq, cases_lt, ne_eqb, lt-ltb, le-ltb}
use Rattle.std.proofs.lemmas.List.{length-map}
use Rattle.edi_disk.specs.declared.cache.Slot.{Slot}
use Rattle.edi_disk.specs.Use.{slot_of, without_block, with_room, settled_slot, driven_out, first_of_full, is_listed, after_use, AreDifferent}
use Rattle.edi_disk.specs.Shown.{numbers_of, cached_in, CachesIn}
use Rattle.edi_disk.proofs.Lookup.{slot_of_after, without_absent, absent_listed, absent_rest, listed_absent, slot_of_settled}
use Rattle.edi_disk.proofs.Numbers.{others_absent}

abbrev bytes_of : Option Slot → Option (List ℕ)
bytes_of found = option_map (λ (slot : Slot). slot.bytes) found

-- a block that is cached is given as it is
pub cached_given : (n : ℕ) (ps : List Slot) (p : Slot) (into : List ℕ) → slot_of n ps ≡ Some p → into ≡ p.bytes → IfSome (cached_in n ps) (λ bytes. into ≡ bytes)
cached_given n ps p into there is = rw there is

pub none_cached : (n : ℕ) (ps : List Slot) (P : List ℕ → Type 0) → slot_of n ps ≡ None → IfSome (cached_in n ps) P
none_cached n ps P none = rw none tt

-- block n stands last with these bytes, and the others as they were
used : (n : ℕ) (ps new : List Slot) (q : Slot) (bytes : List ℕ) → q.number ≡ n → q.bytes ≡ bytes → new ≡ without_block n ps ++ q ∷ []
    → (cached_in n new ≡ Some bytes) × ((m : ℕ) → (m ≡ n → ⊥) → cached_in m new ≡ cached_in m ps)
used n ps new q bytes number is new_is = (
  let here : slot_of n (without_block n ps ++ q ∷ []) ≡ Some q = slot_of_after n n ps q number ∙ rw (eq-eqb n n refl) refl in
      rw (new_is, here) (ap (λ (v : List ℕ). Some v) is),
  λ m ne.
      let other : slot_of m (without_block n ps ++ q ∷ []) ≡ slot_of m ps = slot_of_after n m ps q number ∙ rw (ne_eqb m n ne) refl in
      rw (new_is, other) refl,
)

-- a block that was cached
pub caches_hit : (n : ℕ) (ps new : List Slot) (q : Slot) (bytes : List ℕ) → q.number ≡ n → q.bytes ≡ bytes → new ≡ without_block n ps ++ q ∷ []
    → CachesIn n bytes ps new
caches_hit n ps new q bytes number is new_is = let u = used n ps new q bytes number is new_is in record { there = u.0; others = λ m ne _. u.1 m ne }

-- the first of 16 is driven out
room_as_before : (m n : ℕ) (ps : List Slot) → slot_of n ps ≡ None → (driven_out n (numbers_of ps) ≡ Some m → ⊥) → slot_of m (with_room ps) ≡ slot_of m ps
room_as_before m n ps none stays =
    elim (cases_lt (length ps) 16) [
      | inl lt ↦ rw (lt-ltb (length ps) 16 lt) refl
      | inr le ↦ rw (le-ltb (length ps) 16 le) (rest ps le (λ h. stays (rw (absent_listed n ps none) h)))
    ]
  where
    rest : (ps : List Slot) → 16 ≤ length ps → (first_of_full (numbers_of ps) ≡ Some m → ⊥) → slot_of m (drop 1 ps) ≡ slot_of m ps
    rest [] le out = refl
    rest (p ∷ ps) le out =
        let other : m ≡ p.number → ⊥ = λ same. out (rw (le-ltb (length (numbers_of (p ∷ ps))) 16 (omega (arith, length-map ps (λ (x : Slot). x.number), le)))
        (ap (λ (k : ℕ). Some k) (sym same))) in
        rw (ne_eqb m p.number other) refl

-- and one that is taken in
pub caches_taken : (n : ℕ) (ps new : List Slot) (q : Slot) (bytes : List ℕ) → slot_of n ps ≡ None → q.number ≡ n → q.bytes ≡ bytes
    → new ≡ with_room ps ++ q ∷ [] → CachesIn n bytes ps new
caches_taken n ps new q bytes none number is new_is =
    let absent : slot_of n (with_room ps) ≡ None = room_none ps none in
    let u = used n (with_room ps) new q bytes number is (new_is ∙ ap (λ v. v ++ q ∷ []) (sym (without_absent n (with_room ps) absent))) in
    record {
      there = u.0;
      others = λ m ne stays.
          let before : slot_of m (with_room ps) ≡ slot_of m ps = room_as_before m n ps none stays in
          u.1 m ne ∙ ap bytes_of before;
    }
  where
    rest : (ps : List Slot) → slot_of n ps ≡ None → slot_of n (drop 1 ps) ≡ None
    rest [] e = e
    rest (q ∷ ps) e = absent_rest n q ps e

    room_none : (ps : List Slot) → slot_of n ps ≡ None → slot_of n (with_room ps) ≡ None
    room_none ps e =
        elim (cases_lt (length ps) 16) [
          | inl lt ↦ rw (lt-ltb (length ps) 16 lt) e
          | inr le ↦ rw (le-ltb (length ps) 16 le) (rest ps e)
        ]

-- what is settled is cached as before
pub cached_settled : (n : ℕ) (ps new : List Slot) → new ≡ map settled_slot ps → cached_in n new ≡ cached_in n ps
cached_settled n ps new is = rw is (ap bytes_of (slot_of_settled n ps) ∙ same (slot_of n ps))
  where
    same : (found : Option Slot) → bytes_of (option_map settled_slot found) ≡ bytes_of found
    same None = refl
    same (Some p) = refl

-- ---- what is cached after a use was cached so before it

-- one more number
listed_push : (m n : ℕ) (ns : List ℕ) → is_listed m ns ≡ false → (m ≡ n → ⊥) → is_listed m (ns ++ n ∷ []) ≡ false
listed_push m n [] e ne = rw (ne_eqb m n ne) refl
listed_push m n (k ∷ ns) e ne =
    elim (cases_eq m k) [
      | inl same ↦ let h : true ≡ false = rw (eq-eqb m k same) at e in absurd (cc)
      | inr other ↦ rw (ne_eqb m k other) (listed_push m n ns (rw (ne_eqb m k other) at e) ne)
    ]

-- the first of 16 is listed no longer
first_out : (n k : ℕ) (ns : List ℕ) → is_listed n (k ∷ ns) ≡ false → 16 ≤ length (k ∷ ns) → AreDifferent (k ∷ ns) → (k ≡ n → ⊥)
    → is_listed k (after_use n (k ∷ ns)) ≡ false
first_out n k ns absent full different ne =
    rw (others_absent n (k ∷ ns) absent, le-ltb (length (k ∷ ns)) 16 full) (listed_push k n ns different.0 ne)

-- Of the blocks but n each that is cached after a use of n was cached so before: the one that is driven out is cached no longer.
pub was_cached : (n : ℕ) (used : List ℕ) (before after : List Slot) → CachesIn n used before after → numbers_of after ≡ after_use n (numbers_of before)
    → AreDifferent (numbers_of before) → (m : ℕ) → (m ≡ n → ⊥) → (bytes : List ℕ) → cached_in m after ≡ Some bytes → cached_in m before ≡ Some bytes
was_cached n used before after caches order different m ne bytes now = go (numbers_of before) refl different where
  stays : (driven_out n (numbers_of before) ≡ Some m → ⊥) → cached_in m before ≡ Some bytes
  stays out = sym (caches.others m ne out) ∙ now

  full : (k : ℕ) (ns : List ℕ) → numbers_of before ≡ k ∷ ns → AreDifferent (k ∷ ns) → is_listed n (k ∷ ns) ≡ false → 16 ≤ length (k ∷ ns)
      → cached_in m before ≡ Some bytes
  full k ns is d absent le =
      elim (cases_eq m k) [
        | inl same ↦
            let gone : is_listed m (numbers_of after) ≡ false = rw (order, is, same) (first_out n k ns absent le d (λ e. ne (same ∙ e))) in
            let none : None ≡ Some bytes = rw (listed_absent m after gone) at now in
            absurd (cc)
        | inr other ↦
            stays (λ e.
            let there : Some k ≡ Some m = rw (is, absent, le-ltb (length (k ∷ ns)) 16 le) at e in
            other (let here : m ≡ k = cc in here))
      ]

  go : (ns : List ℕ) → numbers_of before ≡ ns → AreDifferent ns → cached_in m before ≡ Some bytes
  go [] is d = stays (λ e. let none : None ≡ Some m = rw is at e in absurd (cc))
  go (k ∷ ns) is d =
      elim (cases_Bool (is_listed n (k ∷ ns))) [
        | inl listed ↦ stays (λ e. let none : None ≡ Some m = rw (is, listed) at e in absurd (cc))
        | inr absent ↦
            elim (cases_lt (length (k ∷ ns)) 16) [
              | inl lt ↦ stays (λ e. let none : None ≡ Some m = rw (is, absent, lt-ltb (length (k ∷ ns)) 16 lt) at e in absurd (cc))
              | inr le ↦ full k ns is d absent le
            ]
      ]
