-- Definition. What the bytes of an entry of version 1 say.
use Rattle.std.specs.Prelude.{ℕ, Bool, ◌&&◌, nat_le, if◌then◌else◌, List, [], ◌∷◌, take, drop, slice_index}
use Rattle.edi_calls.specs.State.{is_title, without_blanks}
use Rattle.edi_image.specs.Records.{FileRecord}
use Rattle.edi_image.specs.declared.entries.Said.{Said}
use Rattle.edi_image.specs.declared.entries.Said.TheVariants as said
use Rattle.edi_image.specs.Entries.{are_zeros, file_in, is_data, kind_and_protection_fit, long_at, short_at}

-- the greatest number of bytes of a file in an image of version 1
abbrev pub old_most_bytes : ℕ
old_most_bytes = 130560

-- An entry of 32 bytes:
--
--     bytes 0 to 11     the title, filled with blanks
--     byte 12           1 for a text, 2 for a code
--     byte 13           1 where the file is protected, else 0
--     bytes 14 and 15   the map block
--     bytes 16 to 19    the number of the file's bytes
--     bytes 20 to 31    zeros
abbrev pub old_fields_fit : (count : ℕ) → List ℕ → Bool
old_fields_fit count bytes =
    kind_and_protection_fit (slice_index bytes 12) (slice_index bytes 13)
    && nat_le (long_at bytes 16) old_most_bytes
    && is_data 5 count (short_at bytes 14)
    && are_zeros (drop 20 bytes)

abbrev pub is_old_entry : (count : ℕ) → List ℕ → Bool
is_old_entry count bytes = is_title (without_blanks (take 12 bytes)) && old_fields_fit count bytes

abbrev pub old_record_in : List ℕ → FileRecord
old_record_in bytes = file_in 12 (short_at bytes 14 ∷ []) (long_at bytes 16) bytes

abbrev pub old_entry_says : (count : ℕ) → List ℕ → Said
old_entry_says count bytes =
    if are_zeros bytes then said.Free else (if is_old_entry count bytes then said.File (old_record_in bytes) else said.Wrong)
