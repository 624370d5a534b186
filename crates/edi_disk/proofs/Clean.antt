-- Nothing was put that is not written: what a read and a flush leave of that.
use Rattle.std.proofs.Common.{◌≡◌, ℕ, inl, inr, Bool, true, false, not, List, [], ◌∷◌, ◌++◌, length, map, refl, ◌∙◌, ap, subst, eq-eqb}
use Rattle.std.specs.Prelude.{◌&&◌, Some, None, drop}
use Rattle.std.proofs.lemmas.Bool.{and_parts, and_from, ne_eqb, cases_eq, cases_lt, lt-ltb, le-ltb}
use Rattle.edi_disk.specs.declared.cache.Slot.{Slot}
use Rattle.edi_disk.specs.Use.{slot_of, without_block, with_room, settled_slot}
use Rattle.edi_disk.specs.Shown.{are_written}

-- one block more
one_more : (ps : List Slot) (q : Slot) → q.unwritten ≡ false → are_written ps ≡ true → are_written (ps ++ q ∷ []) ≡ true
one_more [] q clean h = ap (λ b. not b && true) clean
one_more (p ∷ ps) q clean h = let parts = and_parts _ _ h in and_from _ _ parts.0 (one_more ps q clean parts.1)

not_unwritten : (p : Slot) → not p.unwritten ≡ true → p.unwritten ≡ false
not_unwritten p h = go p.unwritten h where
  go : (b : Bool) → not b ≡ true → b ≡ false
  go true h = let no' : false ≡ true = h in absurd (cc)
  go false h = refl

-- the block under a number, and the others
one_of : (n : ℕ) (ps : List Slot) (p : Slot) → slot_of n ps ≡ Some p → are_written ps ≡ true → p.unwritten ≡ false
one_of n [] p e h = let no' : None ≡ Some p = e in absurd (cc)
one_of n (q ∷ ps) p e h =
    let parts : (not q.unwritten ≡ true) × (are_written ps ≡ true) = and_parts _ _ h in
    elim (cases_eq n q.number) [
      | inl same ↦
          let is : Some q ≡ Some p = rw (eq-eqb n q.number same) at e in
          let it : q ≡ p = cc in
          subst (λ (x : Slot). x.unwritten ≡ false) it (not_unwritten q parts.0)
      | inr ne ↦ one_of n ps p (rw (ne_eqb n q.number ne) at e) parts.1
    ]

others : (n : ℕ) (ps : List Slot) → are_written ps ≡ true → are_written (without_block n ps) ≡ true
others n [] h = refl
others n (q ∷ ps) h =
    let parts = and_parts _ _ h in
    elim (cases_eq n q.number) [
      | inl same ↦ rw (eq-eqb n q.number same) (others n ps parts.1)
      | inr ne ↦ rw (ne_eqb n q.number ne) (and_from _ _ parts.0 (others n ps parts.1))
    ]

-- a block that was cached is used
pub clean_hit : (n : ℕ) (ps new : List Slot) (p : Slot) → slot_of n ps ≡ Some p → new ≡ without_block n ps ++ p ∷ [] → are_written ps ≡ true
    → are_written new ≡ true
clean_hit n ps new p e is h = ap are_written is ∙ one_more (without_block n ps) p (one_of n ps p e h) (others n ps h)

-- one is taken in as the drive has it
pub clean_taken : (ps same new : List Slot) (q : Slot) → same ≡ ps → new ≡ with_room same ++ q ∷ [] → q.unwritten ≡ false → are_written ps ≡ true
    → are_written new ≡ true
clean_taken ps same new q was is clean h =
    ap are_written (is ∙ ap (λ qs. with_room qs ++ q ∷ []) was) ∙ one_more (with_room ps) q clean (roomy ps h)
  where
    rest : (ps : List Slot) → are_written ps ≡ true → are_written (drop 1 ps) ≡ true
    rest [] h = refl
    rest (p ∷ ps) h = (and_parts _ _ h).1

    roomy : (ps : List Slot) → are_written ps ≡ true → are_written (with_room ps) ≡ true
    roomy ps h =
        elim (cases_lt (length ps) 16) [
          | inl lt ↦ rw (lt-ltb (length ps) 16 lt) h
          | inr le ↦ rw (le-ltb (length ps) 16 le) (rest ps h)
        ]

-- all are settled
pub clean_settled : (ps new : List Slot) → new ≡ map settled_slot ps → are_written new ≡ true
clean_settled ps new is = ap are_written is ∙ all ps where
  all : (ps : List Slot) → are_written (map settled_slot ps) ≡ true
  all [] = refl
  all (p ∷ ps) = all ps
