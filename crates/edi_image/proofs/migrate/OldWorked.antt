-- Worked images of version 1: one for each rule that is broken, and one with a file.
use Rattle.std.proofs.Common.{◌≡◌, false, [], ◌∷◌, ◌++◌, take, refl}
use Rattle.std.specs.Prelude.{Some}
use Rattle.edi_calls.specs.declared.kinds.FileKind.TheVariants as kind
use Rattle.edi_image.specs.declared.faults.MountFault.TheVariants as fault
use Rattle.edi_image.specs.Image.{header_block, entries_of, image_rules, mount_fault_of}
use Rattle.edi_image.specs.migrate.OldImage.{old_entries_of, old_fault_of, old_slots_of}
use Rattle.edi_image.specs.Build.{filled, two, map_block}
use Rattle.edi_image.specs.migrate.OldBuild.{old_entry_bytes, old_image}

an_image_of_version_1 : mount_fault_of (old_image [] []) ≡ Some fault.Header
unfolding header_block image_rules entries_of filled old_image
an_image_of_version_1 = refl

-- the same in version 1: the old blocks 4, 5 and 6 have entries, maps and pages
an_old_map_in_the_catalogue : old_fault_of (old_image (old_entry_bytes (97 ∷ []) 1 0 4 0) []) ≡ Some (fault.Entry 0)
unfolding header_block old_entries_of filled two old_entry_bytes old_image
an_old_map_in_the_catalogue = refl

an_old_page_behind_the_drive : old_fault_of (old_image (old_entry_bytes (97 ∷ []) 1 0 5 1) (map_block (64 ∷ []) ∷ [])) ≡ Some (fault.Page 0 64)
unfolding header_block old_entries_of filled two old_entry_bytes map_block old_image
an_old_page_behind_the_drive = refl

an_old_shared_map : old_fault_of (old_image (old_entry_bytes (97 ∷ []) 1 0 5 0 ++ old_entry_bytes (98 ∷ []) 1 0 5 0) []) ≡ Some (fault.Shared 5)
unfolding header_block old_entries_of filled two old_entry_bytes old_image
an_old_shared_map = refl

an_old_title_twice : old_fault_of (old_image (old_entry_bytes (97 ∷ []) 1 0 5 0 ++ old_entry_bytes (97 ∷ []) 1 0 6 0) []) ≡ Some (fault.Entry 1)
unfolding header_block old_entries_of filled two old_entry_bytes old_image
an_old_title_twice = refl

an_old_file_is_read : take 1 (old_slots_of (old_image (old_entry_bytes (98 ∷ []) 1 0 5 2) (map_block (6 ∷ []) ∷ filled 512 (7 ∷ 8 ∷ 9 ∷ []) ∷ [])))
    ≡ Some (record { title = 98 ∷ []; kind = kind.Text; protected = false; bytes = 7 ∷ 8 ∷ [] }) ∷ []
unfolding header_block old_slots_of old_entries_of filled two old_entry_bytes map_block old_image
an_old_file_is_read = refl
