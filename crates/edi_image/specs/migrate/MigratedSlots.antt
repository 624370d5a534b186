-- Definition. The files that an image of version 1 has, on an image of version 2.
use Rattle.std.specs.Prelude.{ℕ, List, ◌++◌, replicate, Option, None}
use Rattle.edi_calls.specs.State.{File}
use Rattle.edi_image.specs.migrate.OldImage.{old_slots_of}

-- the files of an image of version 1 in the 256 slots of one of version 2, under their numbers
abbrev pub migrated_slots : List (List ℕ) → List (Option File)
migrated_slots blocks = old_slots_of blocks ++ replicate 192 None
