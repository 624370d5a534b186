-- Definition. The numbers in a block, and what the bytes of an entry say. Numbers stand with their high byte first.
use Rattle.std.specs.Prelude.{ℕ, suc, ◌+◌, ◌*◌, ◌^◌, Bool, ◌&&◌, ◌||◌, ◌==◌, nat_lt, nat_le, if◌then◌else◌, List, [], ◌∷◌, take, drop, slice_index}
use Rattle.std.specs.Prelude.{slice_index_or, Option, Some, None}
use Rattle.std.specs.List.{list_all}
use Rattle.edi_calls.specs.State.{is_title, without_blanks, most_bytes, pages_of}
use Rattle.edi_calls.specs.declared.kinds.FileKind.{FileKind}
use Rattle.edi_calls.specs.declared.kinds.FileKind.TheVariants as kind
use Rattle.edi_image.specs.Records.{FileRecord, maps_of}
use Rattle.edi_image.specs.declared.entries.Said.{Said}
use Rattle.edi_image.specs.declared.entries.Said.TheVariants as said

-- the number of two, or of four, bytes that stand from an address on
abbrev pub short_at : List ℕ → ℕ → ℕ
short_at bytes at = 2 ^ 8 * slice_index bytes at + slice_index bytes (at + 1)

abbrev pub long_at : List ℕ → ℕ → ℕ
long_at bytes at = 2 ^ 16 * short_at bytes at + short_at bytes (at + 2)

-- so many numbers of two bytes, one after another
abbrev pub shorts : ℕ → List ℕ → List ℕ
shorts (suc n) (high ∷ low ∷ bytes) = (2 ^ 8 * high + low) ∷ shorts n bytes
shorts n bytes = []

-- the block of this number
abbrev pub block_at : List (List ℕ) → ℕ → List ℕ
block_at blocks n = slice_index_or blocks n []

-- all bytes are zeros
abbrev pub are_zeros : List ℕ → Bool
are_zeros bytes = list_all (λ b. b == 0) bytes

-- a block lies behind those of the catalogue, and on the drive
abbrev pub is_data : (first count : ℕ) → ℕ → Bool
is_data first count block = nat_le first block && nat_lt block count

-- ---- entries

-- An entry is free, or it breaks a rule of its own, or it is that of a file.

abbrev pub kind_of : ℕ → FileKind
kind_of number = if number == 1 then kind.Text else kind.Code

-- a second map is there exactly where there are more than 255 pages
abbrev pub is_second_map : (count length : ℕ) → ℕ → Bool
is_second_map count length map = if nat_le (pages_of length) 255 then map == 0 else is_data 33 count map

abbrev pub second_map : (length : ℕ) → ℕ → Option ℕ
second_map length map = if nat_le (pages_of length) 255 then None else Some map

-- the numbers of a kind and of a protection
abbrev pub kind_and_protection_fit : (kind protected : ℕ) → Bool
kind_and_protection_fit kind protected = (kind == 1 || kind == 2) && nat_le protected 1

-- the file of an entry whose title takes so many bytes, and whose kind and protection stand behind it
abbrev pub file_in : (width : ℕ) → (maps : List ℕ) → (length : ℕ) → List ℕ → FileRecord
file_in width maps length bytes = record {
  title = without_blanks (take width bytes);
  kind = kind_of (slice_index bytes width);
  protected = slice_index bytes (width + 1) == 1;
  maps = maps;
  length = length;
}

-- An entry of 64 bytes:
--
--     bytes 0 to 23     the title, filled with blanks
--     byte 24           1 for a text, 2 for a code
--     byte 25           1 where the file is protected, else 0
--     bytes 26 and 27   the first map block
--     bytes 28 and 29   the second map block, 0 where the file has at most 255 pages
--     bytes 30 to 33    the number of the file's bytes
--     bytes 34 to 63    zeros
--
-- `count` is the number of the drive's blocks.
abbrev pub fields_fit : (count : ℕ) → List ℕ → Bool
fields_fit count bytes =
    kind_and_protection_fit (slice_index bytes 24) (slice_index bytes 25)
    && nat_le (long_at bytes 30) most_bytes
    && is_data 33 count (short_at bytes 26)
    && is_second_map count (long_at bytes 30) (short_at bytes 28)
    && are_zeros (drop 34 bytes)

abbrev pub is_entry : (count : ℕ) → List ℕ → Bool
is_entry count bytes = is_title (without_blanks (take 24 bytes)) && fields_fit count bytes

abbrev pub record_in : List ℕ → FileRecord
record_in bytes = file_in 24 (maps_of (short_at bytes 26) (second_map (long_at bytes 30) (short_at bytes 28))) (long_at bytes 30) bytes

-- a free entry is all zeros
abbrev pub entry_says : (count : ℕ) → List ℕ → Said
entry_says count bytes =
    if are_zeros bytes then said.Free else (if is_entry count bytes then said.File (record_in bytes) else said.Wrong)
