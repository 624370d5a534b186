-- Words of contracts. When a state of the system is sound: its titles, its files, its open files.
use Rattle.std.specs.Prelude.{◌≡◌, ℕ, ◌≤◌, Bool, true, ◌&&◌, nat_lt, nat_le, IsTrue, ⊤, List}
use Rattle.std.specs.Prelude.{length, Option, Some, None}
use Rattle.std.specs.List.{list_all}
use Rattle.edi_calls.specs.declared.kinds.FileKind.TheVariants as kind
use Rattle.edi_calls.specs.State.{File, Found, State, find_file, find_slot, is_title, most_bytes, slot_at}

abbrev pub IsTitle : List ℕ → Type 0
IsTitle title = IsTrue (is_title title)

-- each file is the one that its title finds, so no two files have one title
abbrev pub AreDistinct : List (Option File) → Type 0
AreDistinct slots =
    (index : ℕ) (file : File) → slot_at slots index ≡ Some file → find_slot slots file.title ≡ Some index

abbrev pub is_byte : ℕ → Bool
is_byte b = nat_lt b 256

-- at most 261,120 bytes
abbrev pub are_bytes : List ℕ → Bool
are_bytes bytes = nat_le (length bytes) most_bytes && list_all is_byte bytes

-- a free slot, or a file with a title
abbrev pub is_slot : Option File → Bool
is_slot None = true
is_slot (Some file) = is_title file.title && are_bytes file.bytes

-- the found file is a text file of this title, and its position is not behind its end
pub record IsFoundAs (slots : List (Option File)) (found : Found) : Type 0 where
  pub file : File
  pub there : find_file slots found.title ≡ Some file
  pub text : file.kind ≡ kind.Text
  pub within : found.position ≤ length file.bytes

abbrev pub IsFoundIn : List (Option File) → Option Found → Type 0
IsFoundIn slots None = ⊤
IsFoundIn slots (Some found) = IsFoundAs slots found

abbrev pub is_buffer : Option (List ℕ) → Bool
is_buffer None = true
is_buffer (Some bytes) = are_bytes bytes

pub record IsState (state : State) : Type 0 where
  pub slot_count : length state.slots ≡ 256
  pub files : list_all is_slot state.slots ≡ true
  pub distinct : AreDistinct state.slots
  pub found : IsFoundIn state.slots state.found
  pub buffer : is_buffer state.buffer ≡ true
