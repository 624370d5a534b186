-- Words of contracts. What is known of the files of an image of version 1.
use Rattle.std.specs.Prelude.{◌≡◌, ◌↔◌, ℕ, List, Option, None}
use Rattle.edi_calls.specs.State.{File}
use Rattle.edi_image.specs.migrate.OldImage.{old_fault_of, OldHolds}

abbrev pub OldHoldsOneList : Type 0
OldHoldsOneList =
    (blocks : List (List ℕ))
    → ((old_fault_of blocks ≡ None) ↔ ((slots : List (Option File)) × OldHolds blocks slots))
    × ((one other : List (Option File)) → OldHolds blocks one → OldHolds blocks other → one ≡ other)
