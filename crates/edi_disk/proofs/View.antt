-- The cached blocks as callers see them, and the slots that keep them.
use Rattle.std.proofs.Common.{◌≡◌, ◌⊎◌, ℕ, zero, suc, ◌+◌, ◌<◌, ◌≤◌, inl, inr, true, false, List, [], ◌∷◌, ◌++◌, length, map, take, drop, refl, sym, ◌∙◌, ap}
use Rattle.std.proofs.Common.{subst, arith, eq-eqb, get_or, set, length-set, get_or-set_same, get_or-set_other}
use Rattle.std.specs.Prelude.{Some, None, IsSome, IfSome, slice_get, nat_eq}
use Rattle.std.proofs.lemmas.Bool.{ne_eqb, cases_eq, or_right}
use Rattle.std.proofs.lemmas.List.{get_or_default, length-map, length-append, length-take, length-drop}
use Rattle.std.proofs.lemmas.List.Edits.{map_over_more}
use Rattle.edi_ring.specs.Lists.{list_at, has, home_of, appended, without, IsSound}
use Rattle.edi_ring.proofs.Homes.{length-le-nodes}
use Rattle.edi_disk.specs.declared.cache.Slot.{Slot}
use Rattle.edi_disk.specs.Use.{slot_of, without_block, with_room, settled_slot}
use Rattle.edi_disk.specs.Slots.{blank_slot, slot_at, slots_in, OrderIsKept, Vacates}
use Rattle.edi_disk.proofs.Order.{minus, moved, packed_moved, has_moved, has_push_cases, has_not_minus, room_in, room_map, has_from_home, is_home}

-- one slot more is settled
pub settled_more : (xs ys : List Slot) (i : ℕ) (d : Slot) → length xs ≡ 16 → i < 16 → ys ≡ map settled_slot (take i xs) ++ drop i xs
    → set ys i (settled_slot (get_or ys i d)) ≡ map settled_slot (take (i + 1) xs) ++ drop (i + 1) xs
settled_more xs ys i d long lt is =
    let within : i < length ys = rw is (simp (length-append, length-map, length-take, length-drop) (omega arith)) in
    map_over_more settled_slot xs ys i (get_or ys i d) (omega arith) is (get_or_default ys i d (get_or ys i d) within)

-- no slot in use has the block
pub absent_view : (slots : List Slot) (n : ℕ) (nodes : List ℕ) → ((node : ℕ) → has nodes node ≡ true → (slot_at slots node).number ≡ n → ⊥)
    → slot_of n (map (slot_at slots) nodes) ≡ None
absent_view slots n [] none = refl
absent_view slots n (x ∷ nodes) none =
    elim (cases_eq n (slot_at slots x).number) [
      | inl same ↦ absurd (none x (rw (eq-eqb x x refl) refl) (sym same))
      | inr ne ↦ rw (ne_eqb n (slot_at slots x).number ne) (absent_view slots n nodes (λ node h. none node (or_right (nat_eq node x) _ h)))
    ]

pub view_absent : (slots : List Slot) (n : ℕ) (nodes : List ℕ) (node : ℕ) → slot_of n (map (slot_at slots) nodes) ≡ None → has nodes node ≡ true
    → (slot_at slots node).number ≡ n → ⊥
view_absent slots n [] node none h is = let no' : false ≡ true = h in absurd (cc)
view_absent slots n (x ∷ nodes) node none h is =
    elim (cases_eq n (slot_at slots x).number) [
      | inl same ↦ let some : Some (slot_at slots x) ≡ None = rw (eq-eqb n (slot_at slots x).number same) at none in absurd (cc)
      | inr ne ↦
          view_absent slots n nodes node (rw (ne_eqb n (slot_at slots x).number ne) at none)
          (elim (cases_eq node x) [
            | inl e ↦ absurd (ne (sym (subst (λ (m : ℕ). (slot_at slots m).number ≡ n) e is)))
            | inr other ↦ rw (ne_eqb node x other) at h
          ]) is
    ]

-- one slot in use has it, and no other
pub found_view : (slots : List Slot) (n : ℕ) (nodes : List ℕ) (node : ℕ) → has nodes node ≡ true → (slot_at slots node).number ≡ n
    → ((other : ℕ) → has nodes other ≡ true → (slot_at slots other).number ≡ n → other ≡ node) → slot_of n (map (slot_at slots) nodes) ≡ Some
    (slot_at slots node)
found_view slots n [] node h is only = let no' : false ≡ true = h in absurd (cc)
found_view slots n (x ∷ nodes) node h is only =
    elim (cases_eq n (slot_at slots x).number) [
      | inl same ↦
          let e : x ≡ node = only x (rw (eq-eqb x x refl) refl) (sym same) in
          rw (eq-eqb n (slot_at slots x).number same) (ap (λ (m : ℕ). Some (slot_at slots m)) e)
      | inr ne ↦
          rw (ne_eqb n (slot_at slots x).number ne)
          (found_view slots n nodes node (elim (cases_eq node x) [
            | inl e ↦ absurd (ne (sym (subst (λ (m : ℕ). (slot_at slots m).number ≡ n) e is)))
            | inr other ↦ rw (ne_eqb node x other) at h
          ]) is (λ other i. only other (or_right (nat_eq other x) _ i)))
    ]

view_minus : (slots : List Slot) (n : ℕ) (nodes : List ℕ) (node : ℕ) → (slot_at slots node).number ≡ n
    → ((other : ℕ) → has nodes other ≡ true → (slot_at slots other).number ≡ n → other ≡ node)
    → map (slot_at slots) (minus node nodes) ≡ without_block n (map (slot_at slots) nodes)
view_minus slots n [] node is only = refl
view_minus slots n (x ∷ nodes) node is only =
    let rest = view_minus slots n nodes node is (λ other i. only other (or_right (nat_eq other x) _ i)) in
    elim (cases_eq n (slot_at slots x).number) [
      | inl same ↦
          let e : node ≡ x = sym (only x (rw (eq-eqb x x refl) refl) (sym same)) in
          rw (eq-eqb n (slot_at slots x).number same, eq-eqb node x e) rest
      | inr ne ↦
          let other : node ≡ x → ⊥ = λ e. ne (sym (subst (λ (m : ℕ). (slot_at slots m).number ≡ n) e is)) in
          rw (ne_eqb n (slot_at slots x).number ne, ne_eqb node x other) (ap (λ ps. slot_at slots x ∷ ps) rest)
    ]

view_push : (slots : List Slot) (nodes : List ℕ) (node : ℕ) → map (slot_at slots) (nodes ++ node ∷ []) ≡ map (slot_at slots) nodes ++ slot_at slots node ∷ []
view_push slots [] node = refl
view_push slots (x ∷ nodes) node = ap (λ ps. slot_at slots x ∷ ps) (view_push slots nodes node)

view_other : (slots : List Slot) (nodes : List ℕ) (node : ℕ) (v : Slot) → has nodes node ≡ false → map (slot_at (set slots node v)) nodes ≡ map
    (slot_at slots) nodes
view_other slots [] node v h = refl
view_other slots (x ∷ nodes) node v h =
    elim (cases_eq node x) [
      | inl e ↦ let no' : true ≡ false = rw (eq-eqb node x e) at h in absurd (cc)
      | inr ne ↦
          let here : slot_at (set slots node v) x ≡ slot_at slots x = get_or-set_other slots node x v blank_slot (λ e. ne (sym e)) in
          let rest = view_other slots nodes node v (rw (ne_eqb node x ne) at h) in cc
    ]

view_put : (slots : List Slot) (nodes : List ℕ) (node : ℕ) (v : Slot) → node < length slots → has nodes node ≡ false
    → map (slot_at (set slots node v)) (nodes ++ node ∷ []) ≡ map (slot_at slots) nodes ++ v ∷ []
view_put slots nodes node v lt h =
    let here : slot_at (set slots node v) node ≡ v = get_or-set_same slots node v blank_slot lt in
    view_push (set slots node v) nodes node ∙ rw (view_other slots nodes node v h, here) refl

module _ (slots : List Slot) (order : List (List ℕ)) (kept : OrderIsKept slots order) where
  pub bound : length (slots_in slots order) ≤ 16
  bound = rw (length-map (list_at order 0) (slot_at slots)) (length-le-nodes 16 1 order 0 kept.packed.sound)

  pub absent : (n : ℕ) → ((node : ℕ) → node < 16 → IsSome (home_of order node) → (slot_at slots node).number ≡ n → ⊥) → slot_of n (slots_in slots order) ≡ None
  absent n none =
      absent_view slots n (list_at order 0) (λ node h is. none node (kept.packed.sound.in_range 0 node h) (is_home order node kept.packed.sound.as_many h) is)

  pub read : (node : ℕ) (d : Slot) → node < 16 → get_or slots node d ≡ slot_at slots node
  read node d lt = let long = kept.as_many in get_or_default slots node d blank_slot (omega arith)

  -- a slot is moved to the back
  module _ (n node : ℕ) (new : List (List ℕ)) (home : IsSome (home_of order node)) (is : (slot_at slots node).number ≡ n)
      (exact : IfSome (home_of order node) (λ list. new ≡ appended (without order node) list node)) (sound : IsSound 16 1 new) where
    in_use : has (list_at order 0) node ≡ true
    in_use = has_from_home order node kept.packed.sound.as_many home

    back : list_at new 0 ≡ minus node (list_at order 0) ++ node ∷ []
    back = moved order new node kept.packed.sound.as_many in_use exact

    only : (other : ℕ) → has (list_at order 0) other ≡ true → (slot_at slots other).number ≡ n → other ≡ node
    only other h same = kept.different other node h in_use (same ∙ sym is)

    was : (q : ℕ) → has (list_at new 0) q ≡ true → has (list_at order 0) q ≡ true
    was q h = has_moved (list_at order 0) q node in_use (rw back at h)

    pub found : slot_of n (slots_in slots order) ≡ Some (slot_at slots node)
    found = found_view slots n (list_at order 0) node in_use is only

    pub kept_moved : OrderIsKept slots new
    kept_moved = record {
      packed = packed_moved order new node kept.packed sound in_use back;
      as_many = kept.as_many;
      different = λ a b i j same. kept.different a b (was a i) (was b j) same;
    }

    pub view_moved : slots_in slots new ≡ without_block n (slots_in slots order) ++ slot_at slots node ∷ []
    view_moved =
        ap (λ (nodes : List ℕ). map (slot_at slots) nodes) back
        ∙ view_push slots (minus node (list_at order 0)) node
        ∙ ap (λ ps. ps ++ slot_at slots node ∷ []) (view_minus slots n (list_at order 0) node is only)

    -- with other bytes
    module _ (v : Slot) (number : v.number ≡ n) where
      within : node < length slots
      within = let lt = kept.packed.sound.in_range 0 node in_use in let long = kept.as_many in omega arith

      same_number : (q : ℕ) → (slot_at (set slots node v) q).number ≡ (slot_at slots q).number
      same_number q =
          elim (cases_eq q node) [
            | inl e ↦
                let here : slot_at (set slots node v) node ≡ v = get_or-set_same slots node v blank_slot within in
                rw e (ap (λ (p : Slot). p.number) here ∙ number ∙ sym is)
            | inr ne ↦ ap (λ (p : Slot). p.number) (get_or-set_other slots node q v blank_slot ne)
          ]

      pub kept_put : OrderIsKept (set slots node v) new
      kept_put = record {
        packed = packed_moved order new node kept.packed sound in_use back;
        as_many = length-set slots node v ∙ kept.as_many;
        different = λ a b i j same. kept.different a b (was a i) (was b j) (sym (same_number a) ∙ same ∙ same_number b);
      }

      pub view_moved_put : slots_in (set slots node v) new ≡ without_block n (slots_in slots order) ++ v ∷ []
      view_moved_put =
          ap (λ (nodes : List ℕ). map (slot_at (set slots node v)) nodes) back
          ∙ view_put slots (minus node (list_at order 0)) node v within (has_not_minus node (list_at order 0))
          ∙ ap (λ ps. ps ++ v ∷ []) (view_minus slots n (list_at order 0) node is only)

  -- a slot is vacated for a block that is not cached
  module _ (n node : ℕ) (new : List (List ℕ)) (vacates : Vacates order new node) (none : slot_of n (slots_in slots order) ≡ None) (v : Slot)
      (number : v.number ≡ n) where
    within_16 : node < length slots
    within_16 = let lt = vacates.in_range in let long = kept.as_many in omega arith

    abbrev rest : List ℕ
    rest = with_room (list_at order 0)

    stays : (q : ℕ) → has rest q ≡ true → slot_at (set slots node v) q ≡ slot_at slots q
    stays q h =
        get_or-set_other slots node q v blank_slot
        (λ e. let yes' : has rest node ≡ true = subst (λ (m : ℕ). has rest m ≡ true) e h in let no' : true ≡ false = sym yes' ∙ vacates.other in cc)

    here : slot_at (set slots node v) node ≡ v
    here = get_or-set_same slots node v blank_slot within_16

    -- a slot that stays has another block
    not_here : (q : ℕ) → has rest q ≡ true → (slot_at (set slots node v) q).number ≡ n → ⊥
    not_here q h same =
        view_absent slots n (list_at order 0) q none (room_in (list_at order 0) q h)
        (ap (λ (p : Slot). p.number) (sym (stays q h)) ∙ same)

    numbered : (q : ℕ) → q ≡ node → (slot_at (set slots node v) q).number ≡ n
    numbered q e = rw e (ap (λ (p : Slot). p.number) here ∙ number)

    differ : (a b : ℕ) → (has rest a ≡ true) ⊎ (a ≡ node) → (has rest b ≡ true) ⊎ (b ≡ node)
        → (slot_at (set slots node v) a).number ≡ (slot_at (set slots node v) b).number → a ≡ b
    differ a b (inl i) (inl j) same =
        kept.different a b (room_in (list_at order 0) a i) (room_in (list_at order 0) b j)
        (ap (λ (p : Slot). p.number) (sym (stays a i)) ∙ same ∙ ap (λ (p : Slot). p.number) (stays b j))
    differ a b (inl i) (inr f) same = absurd (not_here a i (same ∙ numbered b f))
    differ a b (inr e) (inl j) same = absurd (not_here b j (sym same ∙ numbered a e))
    differ a b (inr e) (inr f) same = e ∙ sym f

    pub kept_hold : OrderIsKept (set slots node v) new
    kept_hold = record {
      packed = vacates.packed;
      as_many = length-set slots node v ∙ kept.as_many;
      different = λ a b i j same. differ a b (has_push_cases a node rest (rw vacates.last at i)) (has_push_cases b node rest (rw vacates.last at j)) same;
    }

    pub view_hold : slots_in (set slots node v) new ≡ with_room (slots_in slots order) ++ v ∷ []
    view_hold =
        ap (λ (nodes : List ℕ). map (slot_at (set slots node v)) nodes) vacates.last
        ∙ view_put slots rest node v within_16 vacates.other
        ∙ ap (λ ps. ps ++ v ∷ []) (sym (room_map (slot_at slots) (list_at order 0)))

  -- all are settled
  pub kept_settle : OrderIsKept (map settled_slot slots) order
  kept_settle = record {
    packed = kept.packed;
    as_many = length-map slots settled_slot ∙ kept.as_many;
    different = λ a b i j same. kept.different a b i j (sym (number slots a) ∙ same ∙ number slots b);
  }
    where
      number : (ps : List Slot) (a : ℕ) → (slot_at (map settled_slot ps) a).number ≡ (slot_at ps a).number
      number [] a = refl
      number (p ∷ ps) zero = refl
      number (p ∷ ps) (suc a) = number ps a

  pub view_settle : slots_in (map settled_slot slots) order ≡ map settled_slot (slots_in slots order)
  view_settle = each (list_at order 0)
    where
      one : (ps : List Slot) (a : ℕ) → slot_at (map settled_slot ps) a ≡ settled_slot (slot_at ps a)
      one [] a = refl
      one (p ∷ ps) zero = refl
      one (p ∷ ps) (suc a) = one ps a

      each : (nodes : List ℕ) → map (slot_at (map settled_slot slots)) nodes ≡ map settled_slot (map (slot_at slots) nodes)
      each [] = refl
      each (x ∷ nodes) = let first = one slots x in let rest = each nodes in cc

  pub slot_within : (i node : ℕ) → slice_get (list_at order 0) i ≡ Some node → node < 16
  slot_within i node e = kept.packed.sound.in_range 0 node (there (list_at order 0) i e)
    where
      there : (nodes : List ℕ) (i : ℕ) → slice_get nodes i ≡ Some node → has nodes node ≡ true
      there [] i e = let none : None ≡ Some node = e in absurd (cc)
      there (x ∷ nodes) zero e = let h : Some x ≡ Some node = e in let same : node ≡ x = cc in rw (eq-eqb node x same) refl
      there (x ∷ nodes) (suc i) e = or_right (nat_eq node x) _ (there nodes i e)

  pub got : (i node : ℕ) (d : Slot) → slice_get (list_at order 0) i ≡ Some node → Some (get_or slots node d) ≡ slice_get (slots_in slots order) i
  got i node d e =
      let lt = slot_within i node e in
      let long = kept.as_many in
      ap (λ (p : Slot). Some p) (get_or_default slots node d blank_slot (omega arith)) ∙ sym (at (list_at order 0) i e)
    where
      at : (nodes : List ℕ) (i : ℕ) → slice_get nodes i ≡ Some node → slice_get (map (slot_at slots) nodes) i ≡ Some (slot_at slots node)
      at [] i e = let none : None ≡ Some node = e in absurd (cc)
      at (x ∷ nodes) zero e = let h : Some x ≡ Some node = e in let same : x ≡ node = cc in ap (λ (m : ℕ). Some (slot_at slots m)) same
      at (x ∷ nodes) (suc i) e = at nodes i e
