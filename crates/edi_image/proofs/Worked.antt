-- Worked images: a new one, one for each rule that is broken, and one with a file.
use Rattle.std.proofs.Common.{◌≡◌, true, [], ◌∷◌, ◌++◌, take, refl}
use Rattle.std.specs.Prelude.{replicate, None, Some}
use Rattle.edi_host.specs.Blocks.{zero_block}
use Rattle.edi_calls.specs.declared.kinds.FileKind.TheVariants as kind
use Rattle.edi_image.specs.declared.faults.MountFault.TheVariants as fault
use Rattle.edi_image.specs.Image.{header_block, entries_of, image_rules, mount_fault_of, slots_of}
use Rattle.edi_image.specs.Build.{filled, two, entry_bytes, map_block, image}

-- no files
a_new_image : mount_fault_of (image [] []) ≡ None
unfolding header_block image_rules entries_of filled image
a_new_image = refl

-- the kind is 3
a_wrong_kind : mount_fault_of (image (entry_bytes (97 ∷ []) 3 0 33 0 0) []) ≡ Some (fault.Entry 0)
unfolding header_block image_rules entries_of filled two entry_bytes image
a_wrong_kind = refl

-- the map lies in the catalogue
a_map_in_the_catalogue : mount_fault_of (image (entry_bytes (97 ∷ []) 1 0 32 0 0) []) ≡ Some (fault.Entry 0)
unfolding header_block image_rules entries_of filled two entry_bytes image
a_map_in_the_catalogue = refl

-- a page that lies behind the drive, one that is its own map, and a map that tells a page too many
a_wrong_map :
    (mount_fault_of (image (entry_bytes (97 ∷ []) 1 0 33 0 1) (map_block (64 ∷ []) ∷ [])) ≡ Some (fault.Page 0 64))
    × (mount_fault_of (image (entry_bytes (97 ∷ []) 1 0 33 0 1) (map_block (33 ∷ []) ∷ [])) ≡ Some (fault.Shared 33))
    × (mount_fault_of (image (entry_bytes (97 ∷ []) 1 0 33 0 0) (map_block (34 ∷ []) ∷ [])) ≡ Some (fault.Entry 0))
unfolding header_block image_rules entries_of filled two entry_bytes map_block image
a_wrong_map = (refl, refl, refl)

-- two files with one map, and with one title
two_files :
    (mount_fault_of (image (entry_bytes (97 ∷ []) 1 0 33 0 0 ++ entry_bytes (98 ∷ []) 1 0 33 0 0) []) ≡ Some (fault.Shared 33))
    × (mount_fault_of (image (entry_bytes (97 ∷ []) 1 0 33 0 0 ++ entry_bytes (97 ∷ []) 1 0 34 0 0) []) ≡ Some (fault.Entry 1))
unfolding header_block image_rules entries_of filled two entry_bytes image
two_files = (refl, refl)

-- a drive that is too short, one of zeros, and an image of version 1
a_short_drive : mount_fault_of (replicate 63 zero_block) ≡ Some fault.Short
unfolding header_block image_rules entries_of
a_short_drive = refl

a_drive_of_zeros : mount_fault_of (replicate 64 zero_block) ≡ Some fault.Header
unfolding header_block image_rules entries_of
a_drive_of_zeros = refl

-- a protected code of three bytes, in the first slot: its map is block 40, its page block 35
a_file_is_read : take 2 (slots_of (image (entry_bytes (97 ∷ 49 ∷ []) 2 1 40 0 3)
    (zero_block ∷ zero_block ∷ filled 512 (1 ∷ 2 ∷ 3 ∷ 4 ∷ []) ∷ (replicate 4 zero_block ++ map_block (35 ∷ []) ∷ []))))
    ≡ Some (record { title = 97 ∷ 49 ∷ []; kind = kind.Code; protected = true; bytes = 1 ∷ 2 ∷ 3 ∷ [] }) ∷ None ∷ []
unfolding header_block slots_of entries_of filled two entry_bytes map_block image
a_file_is_read = refl
