-- Definition. The file of a code: 32 bytes of header, then the words. Numbers stand with their high byte first.
--
--     bytes 0 and 1     237 21
--     bytes 2 and 3     the version, 1 or 2; files are written in version 2
--     bytes 4 to 7      the number of words
--     bytes 8 to 11     the address of the entry
--     byte 12           the number of the program's parameters
--     from byte 13 on   their call numbers, one byte each, and zeros up to byte 31
use Rattle.std.specs.Prelude.{ℕ, ◌+◌, ◌-◌, ◌*◌, ◌^◌, ◌/◌, ◌%◌, ◌||◌, ◌==◌, nat_le, List, [], ◌∷◌, ◌++◌, take, drop, length, replicate, slice_index, Option}
use Rattle.std.specs.Prelude.{None}
use Rattle.edi_target.specs.Check.{CodeParts, unless, or_else, fields_fault, words_fault}
use Rattle.edi_target.specs.declared.code_fault.CodeFault.{CodeFault}
use Rattle.edi_target.specs.declared.code_fault.CodeFault.TheVariants as fault

-- ---- the bytes of a code

abbrev pub number_bytes : ℕ → List ℕ
number_bytes n = n / 2 ^ 24 ∷ n / 2 ^ 16 % 2 ^ 8 ∷ n / 2 ^ 8 % 2 ^ 8 ∷ n % 2 ^ 8 ∷ []

abbrev pub bytes_of_words : List ℕ → List ℕ
bytes_of_words [] = []
bytes_of_words (word ∷ words) = word / 2 ^ 8 ∷ word % 2 ^ 8 ∷ bytes_of_words words

-- the file of a code
unfoldable pub code_bytes : CodeParts → List ℕ
code_bytes c =
    237 ∷ 21 ∷ 0 ∷ 2 ∷ (number_bytes (length c.words)
    ++ (number_bytes c.entry
    ++ (length c.calls ∷ (c.calls
    ++ (replicate (19 - length c.calls) 0
    ++ bytes_of_words c.words)))))

-- ---- the code of bytes

-- the number of two, or of four, bytes that stand from an address on
abbrev pub short_at : List ℕ → ℕ → ℕ
short_at bytes at = 2 ^ 8 * slice_index bytes at + slice_index bytes (at + 1)

abbrev pub number_at : List ℕ → ℕ → ℕ
number_at bytes at = 2 ^ 16 * short_at bytes at + short_at bytes (at + 2)

abbrev pub words_of_bytes : List ℕ → List ℕ
words_of_bytes (high ∷ low ∷ bytes) = (2 ^ 8 * high + low) ∷ words_of_bytes bytes
words_of_bytes _ = []

-- the code that stands in a file without fault
abbrev pub code_of : List ℕ → CodeParts
code_of bytes = record {
  words = words_of_bytes (drop 32 bytes);
  entry = number_at bytes 8;
  calls = take (slice_index bytes 12) (drop 13 bytes);
}

-- bytes that are zeros, of which the first stands at an address
abbrev pub zeros_fault : ℕ → List ℕ → Option CodeFault
zeros_fault at [] = None
zeros_fault at (b ∷ bytes) = or_else (unless (b == 0) (fault.Header at b)) (zeros_fault (at + 1) bytes)

-- each field of the header, one after another
abbrev pub header_fault : List ℕ → Option CodeFault
header_fault bytes =
    let parameters : ℕ = slice_index bytes 12 in
    let version : ℕ = short_at bytes 2 in
    or_else (unless (short_at bytes 0 == 60693) (fault.Header 0 (slice_index bytes 0)))
    (or_else (unless (version == 1 || version == 2) (fault.Header 2 (slice_index bytes 2)))
    (or_else (fields_fault (number_at bytes 4) (number_at bytes 8) parameters (take parameters (drop 13 bytes)))
    (zeros_fault (13 + parameters) (drop (13 + parameters) (take 32 bytes)))))

-- the file has the header and two bytes for each word, and no more
abbrev pub size_fault : List ℕ → Option CodeFault
size_fault bytes =
    let size : ℕ = 32 + 2 * number_at bytes 4 in
    or_else (unless (nat_le size (length bytes)) (fault.Short (length bytes)))
    (unless (nat_le (length bytes) size) (fault.Over size))

-- The first fault of a file: a header that is short, then its fields, then the size of the file, then the code. There is no
-- QUIET in a file of version 1.
unfoldable pub code_fault_of : List ℕ → Option CodeFault
code_fault_of bytes =
    or_else (unless (nat_le 32 (length bytes)) (fault.Short (length bytes)))
    (or_else (header_fault bytes)
    (or_else (size_fault bytes)
    (words_fault (short_at bytes 2 == 2) (words_of_bytes (drop 32 bytes)) (number_at bytes 8) (slice_index bytes 12))))
