-- Words of contracts. What is known of the files of an image.
use Rattle.std.specs.Prelude.{◌≡◌, ◌↔◌, ℕ, List, Option, None}
use Rattle.edi_calls.specs.State.{File}
use Rattle.edi_image.specs.Image.{mount_fault_of, Holds}

-- there are files that the blocks hold, exactly where no rule is broken; and two lists of files that they hold are one
abbrev pub HoldsOneList : Type 0
HoldsOneList =
    (blocks : List (List ℕ))
    → ((mount_fault_of blocks ≡ None) ↔ ((slots : List (Option File)) × Holds blocks slots))
    × ((one other : List (Option File)) → Holds blocks one → Holds blocks other → one ≡ other)
