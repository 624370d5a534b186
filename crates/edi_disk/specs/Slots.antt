-- Words of contracts. How the cache keeps its blocks: in slots, which stand in a list in the order of their use.
use Rattle.std.specs.Prelude.{◌≡◌, ℕ, ◌<◌, true, false, List, ◌++◌, [], ◌∷◌, length, map, replicate, slice_index_or}
use Rattle.edi_ring.specs.Lists.{list_at, has, IsSound}
use Rattle.edi_disk.specs.Use.{with_room}
use Rattle.edi_disk.specs.declared.cache.Slot.{Slot}

abbrev pub blank_slot : Slot
blank_slot = record { number = 0; unwritten = false; bytes = replicate 512 0 }

-- the block at a slot
abbrev pub slot_at : List Slot → ℕ → Slot
slot_at slots node = slice_index_or slots node blank_slot

-- the blocks in the order of their use
abbrev pub slots_in : List Slot → List (List ℕ) → List Slot
slots_in slots order = map (slot_at slots) (list_at order 0)

-- the slots in use are those below their number, so that the next one is free
pub record IsPacked (order : List (List ℕ)) : Type 0 where
  pub sound : IsSound 16 1 order
  pub below : (node : ℕ) → has (list_at order 0) node ≡ true → node < length (list_at order 0)

-- no two slots in use have the same block
pub record OrderIsKept (slots : List Slot) (order : List (List ℕ)) : Type 0 where
  pub packed : IsPacked order
  pub as_many : length slots ≡ 16
  pub different : (a b : ℕ) → has (list_at order 0) a ≡ true → has (list_at order 0) b ≡ true → (slot_at slots a).number ≡ (slot_at slots b).number → a ≡ b

-- a slot is last in the order of use, and was in no use but as the first of 16
pub record Vacates (before after : List (List ℕ)) (slot : ℕ) : Type 0 where
  pub packed : IsPacked after
  pub in_range : slot < 16
  pub last : list_at after 0 ≡ with_room (list_at before 0) ++ slot ∷ []
  pub other : has (with_room (list_at before 0)) slot ≡ false
