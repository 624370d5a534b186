-- Why a file is not stored, and when the disk is full for it.
use Rattle.std.proofs.Common.{◌≡◌, ◌⊎◌, inl, inr, ◌∙◌, ℕ, ◌<◌, ◌≤◌, Bool, true, false, List, length, Option, Some, None, refl, sym, ap, true≢false, arith}
use Rattle.std.specs.Prelude.{◌&&◌, ◌||◌, if◌then◌else◌, is_none, nat_lt}
use Rattle.std.specs.Option.{option_and_then}
use Rattle.std.proofs.lemmas.Bool.{ltb-true, ltb-false}
use Rattle.edi_calls.specs.State.{File, blocks_of, blocks_taken, find_file, find_slot, first_free, most_bytes, slot_at}
use Rattle.edi_calls.specs.Calls.{is_protected, open_slot, slot_for}
use Rattle.edi_image.specs.Image.{slots_of}
use Rattle.edi_catalog.specs.declared.ends.CatEnd.{CatEnd}
use Rattle.edi_catalog.specs.declared.ends.CatEnd.TheVariants as cat
use Rattle.edi_catalog.specs.InSlots.{free_in}
use Rattle.edi_catalog.specs.Refusing.{no_room}
use Rattle.edi_statuses.specs.Commands.{is_full}
use Rattle.edi_main.proofs.disk.Slots.{release, release_has_slot, release_opens, released_taken}

-- the first reason, by the four tests
abbrev chain : (protected long none few : Bool) (size wanted free : ℕ) → Option CatEnd
chain protected long none few size wanted free =
    if protected then Some cat.Protected
    else (if long then Some (cat.TooLarge size)
    else (if none then Some cat.CatalogFull
    else (if few then Some (cat.Full wanted free)
    else None)))

-- no reason
chain_none : (p l n f : Bool) (size wanted free : ℕ) → chain p l n f size wanted free ≡ None → (p ≡ false) × (n ≡ false) × (f ≡ false)
chain_none true l n f size wanted free h = absurd (cc)
chain_none false true n f size wanted free h = absurd (cc)
chain_none false false true f size wanted free h = absurd (cc)
chain_none false false false true size wanted free h = absurd (cc)
chain_none false false false false size wanted free h = (refl, refl, refl)

-- a reason
chain_some : (p l n f : Bool) (size wanted free : ℕ) (why : CatEnd) → chain p l n f size wanted free ≡ Some why
    → ((p ≡ true) × (why ≡ cat.Protected)) ⊎ ((l ≡ true) ⊎ (((p ≡ false) × (n ≡ true)) ⊎ (f ≡ true)))
chain_some true l n f size wanted free why h = inl (refl, (cc))
chain_some false true n f size wanted free why h = inr (inl refl)
chain_some false false true f size wanted free why h = inr (inr (inl (refl, refl)))
chain_some false false false true size wanted free why h = inr (inr (inr refl))
chain_some false false false false size wanted free why h = absurd (cc)

chain_protected : (p l n f : Bool) (size wanted free : ℕ) → chain p l n f size wanted free ≡ Some cat.Protected → p ≡ true
chain_protected true l n f size wanted free h = refl
chain_protected false true n f size wanted free h = absurd (cc)
chain_protected false false true f size wanted free h = absurd (cc)
chain_protected false false false true size wanted free h = absurd (cc)
chain_protected false false false false size wanted free h = absurd (cc)

chain_all : (p l n f : Bool) (size wanted free : ℕ) → p ≡ false → l ≡ false → n ≡ false → f ≡ false → chain p l n f size wanted free ≡ None
chain_all p l n f size wanted free a b c d = rw (a, b, c, d) refl

less : (a b : ℕ) → a < b → nat_lt a b ≡ true
less a b below = by_test (nat_lt a b) refl where
  by_test : (t : Bool) → nat_lt a b ≡ t → nat_lt a b ≡ true
  by_test true e = e
  by_test false e = let not = ltb-false a b e in absurd (omega (arith, below, not))

not_less : (a b : ℕ) → b ≤ a → nat_lt a b ≡ false
not_less a b above = by_test (nat_lt a b) refl where
  by_test : (t : Bool) → nat_lt a b ≡ t → nat_lt a b ≡ false
  by_test true e = let is = ltb-true a b e in absurd (omega (arith, above, is))
  by_test false e = e

or_true : (a b : Bool) → b ≡ true → (a || b) ≡ true
or_true true b h = refl
or_true false b h = h

or_first : (a b : Bool) → a ≡ true → (a || b) ≡ true
or_first a b h = rw h refl

or_false : (a b : Bool) → a ≡ false → b ≡ false → (a || b) ≡ false
or_false a b h k = rw h k

module _ (title : List ℕ) (slots : List (Option File)) where
  -- where a slot is found, the title has one or there is a free one
  has_slot : is_none (slot_for slots title) ≡ false → (is_none (find_slot slots title) && is_none (first_free slots)) ≡ false
  has_slot h = go (find_slot slots title) h where
    go : (o : Option ℕ) → is_none (if is_none o then first_free slots else open_slot slots title) ≡ false → (is_none o && is_none (first_free slots)) ≡ false
    go None h = h
    go (Some i) h = refl

  -- where none is found and the file is not protected, the title is new and no slot is free
  lacks_slot : is_protected (find_file slots title) ≡ false → is_none (slot_for slots title) ≡ true
      → (is_none (find_slot slots title) && is_none (first_free slots)) ≡ true
  lacks_slot open_ h = go (find_slot slots title) refl where
    go : (o : Option ℕ) → find_slot slots title ≡ o → (is_none o && is_none (first_free slots)) ≡ true
    go None none =
        let free : is_none (first_free slots) ≡ true = sym (ap (λ o. is_none (if is_none o then first_free slots else open_slot slots title)) none) ∙ h in
        free
    go (Some i) found =
        let here : is_protected (slot_at slots i) ≡ false = sym (ap (λ o. is_protected (option_and_then (slot_at slots) o)) found) ∙ open_ in
        let some : is_none (slot_for slots title) ≡ false =
        ap (λ o. is_none (if is_none o then first_free slots
        else option_and_then (λ index. if is_protected (slot_at slots index) then None else Some index) o)) found
        ∙ ap (λ b. is_none (if b then None else Some i)) here in
        absurd (true≢false (sym h ∙ some))

  -- a protected file has a slot
  protected_slot : is_protected (find_file slots title) ≡ true → (is_none (find_slot slots title) && is_none (first_free slots)) ≡ false
  protected_slot protected = ap (λ o. is_none o && is_none (first_free slots)) (release_has_slot title slots protected).1

module _ (title : List ℕ) (size : ℕ) (blocks : List (List ℕ)) where
  -- where nothing is against the store the disk is not full
  pub room_there : no_room title size (free_in blocks) (slots_of blocks) ≡ None
      → (is_protected (find_file (slots_of blocks) title) ≡ false) × (is_full blocks title size ≡ false)
  room_there h =
      let none = chain_none _ _ _ _ size (blocks_of size) (free_in blocks) h in
      (none.0, or_false _ _ none.2 (has_slot title (slots_of blocks) none.1))

  -- where something is, and it is neither protection nor its length, it is full
  pub no_room_there : (why : CatEnd) → size ≤ most_bytes → no_room title size (free_in blocks) (slots_of blocks) ≡ Some why → (why ≡ cat.Protected → ⊥)
      → is_full blocks title size ≡ true
  no_room_there why short h other = elim (chain_some _ _ _ _ size (blocks_of size) (free_in blocks) why h) [
    | inl p ↦ absurd (other p.1)
    | inr rest ↦
        elim rest [
          | inl l ↦ let long = ltb-true most_bytes size l in absurd (omega (arith, long, short))
          | inr more ↦
              elim more [
                | inl n ↦ or_true (nat_lt (free_in blocks) (blocks_of size)) _ (lacks_slot title (slots_of blocks) n.0 n.1)
                | inr f ↦ or_first _ _ f
              ]
        ]
  ]

  pub is_protected_there : no_room title size (free_in blocks) (slots_of blocks) ≡ Some cat.Protected → is_protected (find_file (slots_of blocks) title) ≡ true
  is_protected_there h = chain_protected _ _ _ _ size (blocks_of size) (free_in blocks) h

  -- a file of a protected title has its slot: only blocks may be wanting
  pub protected_full : is_protected (find_file (slots_of blocks) title) ≡ true → free_in blocks < blocks_of size → is_full blocks title size ≡ true
  protected_full protected few = or_first _ _ (less (free_in blocks) (blocks_of size) few)

  pub protected_room : is_protected (find_file (slots_of blocks) title) ≡ true → blocks_of size ≤ free_in blocks → is_full blocks title size ≡ false
  protected_room protected enough =
      or_false _ _ (not_less (free_in blocks) (blocks_of size) enough) (protected_slot title (slots_of blocks) protected)

  -- behind the release of a protected file nothing is against the store, where there are blocks enough
  pub room_behind : (mid : List (List ℕ)) → is_protected (find_file (slots_of blocks) title) ≡ true → size ≤ most_bytes → blocks_of size ≤ free_in blocks
      → length mid ≡ length blocks → slots_of mid ≡ release title (slots_of blocks) → no_room title size (free_in mid) (slots_of mid) ≡ None
  room_behind mid protected short enough many is =
      let own = release_has_slot title (slots_of blocks) protected in
      let taken : blocks_taken (slots_of mid) ≡ blocks_taken (slots_of blocks) = ap blocks_taken is ∙ released_taken title (slots_of blocks) in
      let same : free_in mid ≡ free_in blocks = omega (arith, many, taken) in
      chain_all (is_protected (find_file (slots_of mid) title)) (nat_lt most_bytes size) (is_none (slot_for (slots_of mid) title))
      (nat_lt (free_in mid) (blocks_of size))
      size (blocks_of size) (free_in mid)
      (ap (λ s. is_protected (find_file s title)) is ∙ release_opens title (slots_of blocks))
      (not_less most_bytes size short)
      (ap (λ s. is_none (slot_for s title)) is ∙ ap is_none own.2)
      (not_less (free_in mid) (blocks_of size) (omega (arith, same, enough)))
