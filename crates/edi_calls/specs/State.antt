-- Definition. The state of the system that a program sees: what is left of the input, what was shown and printed, the files
-- in their slots, and the two files that the program has open.
use Rattle.std.specs.Prelude.{ℕ, suc, ◌+◌, ◌-◌, ◌/◌, ◌%◌, Bool, false, ◌&&◌, ◌||◌, ◌==◌, nat_lt, nat_le, if◌then◌else◌, List, []}
use Rattle.std.specs.Prelude.{◌∷◌, ◌++◌, length, map, slice_set, slice_index_or, Option, Some, None, is_none}
use Rattle.std.specs.List.{list_all}
use Rattle.std.specs.Option.{option_map, option_and_then}
use Rattle.std.specs.Str.{bytes_eq}
use Rattle.edi_calls.specs.declared.kinds.FileKind.{FileKind}
use Rattle.edi_calls.specs.declared.kinds.FileKind.TheVariants as kind

-- a stored file; its title has 1 to 24 characters, none of them a blank
pub record File : Type 0 where
  pub title : List ℕ
  pub kind : FileKind
  pub protected : Bool
  pub bytes : List ℕ

-- the file that is being read, by its title, and the number of its bytes that were read
pub record Found : Type 0 where
  pub title : List ℕ
  pub position : ℕ

pub record State : Type 0 where
  -- the bytes of the input that are left
  pub input : List ℕ
  -- the bytes that the terminal and the printer took
  pub shown : List ℕ
  pub printed : List ℕ
  -- 256 slots for files
  pub slots : List (Option File)
  -- the number of blocks of the disk, 0 where there is no disk
  pub blocks : ℕ
  pub found : Option Found
  -- the bytes that were written so far, where a file is being written
  pub buffer : Option (List ℕ)

-- ---- titles

abbrev pub is_letter : ℕ → Bool
is_letter c = (nat_le 65 c && nat_le c 90) || (nat_le 97 c && nat_le c 122)

abbrev pub is_digit : ℕ → Bool
is_digit c = nat_le 48 c && nat_le c 57

-- a letter, a digit or `_`
abbrev pub is_title_character : ℕ → Bool
is_title_character c = is_letter c || is_digit c || c == 95

-- a letter, and after it at most 23 letters, digits and `_`
abbrev pub is_title : List ℕ → Bool
is_title [] = false
is_title (c ∷ cs) = is_letter c && list_all is_title_character cs && nat_lt (length cs) 24

-- a character before others; a blank before nothing is dropped
abbrev pub before : ℕ → List ℕ → List ℕ
before c [] = if c == 32 then [] else c ∷ []
before c (d ∷ ds) = c ∷ d ∷ ds

-- the characters without the blanks at the end
abbrev pub without_blanks : List ℕ → List ℕ
without_blanks [] = []
without_blanks (c ∷ cs) = before c (without_blanks cs)

-- a word as a character
abbrev pub character : ℕ → ℕ
character w = w % 128

-- the title that words spell which are filled with blanks at the end; none where they spell no title
abbrev pub title_of : List ℕ → Option (List ℕ)
title_of words = let title = without_blanks (map character words) in if is_title title then Some title else None

-- ---- sizes

-- the greatest number of bytes of a file
abbrev pub most_bytes : ℕ
most_bytes = 261120

-- the pages that a file of so many bytes takes, each of 512 bytes
abbrev pub pages_of : ℕ → ℕ
pages_of bytes = (bytes + 511) / 512

-- the blocks that a file of so many bytes takes: its pages, and a map block for the first 255 of them and one
-- for the others
abbrev pub blocks_of : ℕ → ℕ
blocks_of bytes = let pages = pages_of bytes in pages + (if nat_le pages 255 then 1 else 2)

abbrev pub blocks_in : Option File → ℕ
blocks_in None = 0
blocks_in (Some file) = blocks_of (length file.bytes)

-- the blocks that all files take
abbrev pub blocks_taken : List (Option File) → ℕ
blocks_taken [] = 0
blocks_taken (slot ∷ slots) = blocks_in slot + blocks_taken slots

-- the free blocks: those of the disk less the 33 of its catalogue and those that the files take
abbrev pub free : State → ℕ
free state = state.blocks - (33 + blocks_taken state.slots)

-- ---- slots

-- the file in the slot has this title
abbrev pub is_titled : List ℕ → Option File → Bool
is_titled title None = false
is_titled title (Some file) = bytes_eq file.title title

-- the index of the first slot that passes a test
abbrev pub first_index : (Option File → Bool) → List (Option File) → Option ℕ
first_index test [] = None
first_index test (slot ∷ slots) = if test slot then Some 0 else option_map suc (first_index test slots)

-- the index of the slot of the file with this title
abbrev pub find_slot : List (Option File) → List ℕ → Option ℕ
find_slot slots title = first_index (is_titled title) slots

-- the index of the first free slot
abbrev pub first_free : List (Option File) → Option ℕ
first_free slots = first_index is_none slots

-- what is in the slot of this index
abbrev pub slot_at : List (Option File) → ℕ → Option File
slot_at slots index = slice_index_or slots index None

-- the slots with this in the slot of that index
abbrev pub put_slot : List (Option File) → ℕ → Option File → List (Option File)
put_slot slots index slot = slice_set slots index slot

-- the file with this title
abbrev pub find_file : List (Option File) → List ℕ → Option File
find_file slots title = option_and_then (slot_at slots) (find_slot slots title)

-- ---- what every state keeps

-- the state in which a program is begun: it has no file open
abbrev pub fresh : State → State
fresh state = record state { found = None; buffer = None }

-- ---- a system with its past

-- the system as it is, and as it was after each call so far, the last one first
pub record Traced : Type 0 where
  pub now : State
  pub past : List State

-- before any call, and after one more
abbrev pub begun : State → Traced
begun state = record { now = state; past = [] }

abbrev pub after_call : State → Traced → Traced
after_call state traced = record { now = state; past = state ∷ traced.past }

-- all states of a system that was first so and went through this past, the last one first
abbrev pub moments_of : State → List State → List State
moments_of first past = past ++ first ∷ []

-- the last one of them
abbrev pub newest : State → List State → State
newest first [] = first
newest first (state ∷ past) = state
