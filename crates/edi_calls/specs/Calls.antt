-- Definition. The ten calls by which a program uses the system. Each takes its argument words and a state, and gives answer
-- words and the state after it, or fails and leaves the state as it is.
use Rattle.std.specs.Prelude.{ℕ, ◌+◌, Bool, true, false, ◌||◌, ◌==◌, nat_lt, nat_le, if◌then◌else◌, List, [], ◌∷◌, ◌++◌, length, slice_get, slice_index}
use Rattle.std.specs.Prelude.{Option, Some, None, is_some, is_none}
use Rattle.std.specs.Option.{option_and_then, option_map_or}
use Rattle.std.specs.Str.{bytes_eq}
use Rattle.edi_calls.specs.declared.kinds.FileKind.{FileKind}
use Rattle.edi_calls.specs.declared.kinds.FileKind.TheVariants as kind
use Rattle.edi_calls.specs.State.{File, Found, State, character, title_of, most_bytes, blocks_of, free, find_slot, first_free, slot_at, put_slot, find_file}

-- a call is answered by these words, in this state after it; or there is no file to be read or written; or the
-- file that is written has its greatest length
pub data CallResult : Type 0 where
  answered : List ℕ → State → CallResult
  no_file : CallResult
  file_limit : CallResult

-- a call with one answer word, and one without answer
abbrev pub gives : ℕ → State → CallResult
gives word state = answered (word ∷ []) state

abbrev pub does : State → CallResult
does state = answered [] state

-- the truth values as words
abbrev pub word_of : Bool → ℕ
word_of b = if b then 1 else 0

-- the character that stands for the end of the input and of a file
abbrev pub end_of_text : ℕ
end_of_text = 25

-- ---- the terminal and the printer

-- the next byte of the input as a character
abbrev pub accept_from : List ℕ → State → CallResult
accept_from [] state = gives end_of_text state
accept_from (byte ∷ input) state = gives (character byte) (record state { input = input })

abbrev pub accept : State → CallResult
accept state = accept_from state.input state

abbrev pub display : ℕ → State → CallResult
display word state = does (record state { shown = state.shown ++ character word ∷ [] })

abbrev pub print : ℕ → State → CallResult
print word state = does (record state { printed = state.printed ++ character word ∷ [] })

-- ---- reading a file

abbrev pub is_text : FileKind → Bool
is_text kind.Text = true
is_text kind.Code = false

-- the text file of this title is found, at its start; a code file is not found
abbrev pub found_as : List ℕ → File → Option Found
found_as title file = if is_text file.kind then Some (record { title = title; position = 0 }) else None

abbrev pub found_in : State → List ℕ → Option Found
found_in state title = option_and_then (found_as title) (find_file state.slots title)

-- the text file of a title becomes the found file; where there is none, no file is found
abbrev pub find : List ℕ → State → CallResult
find words state =
    let found = option_and_then (found_in state) (title_of words) in
    gives (word_of (is_some found)) (record state { found = found })

-- the bytes of the found file
abbrev pub bytes_of : Option File → List ℕ
bytes_of None = []
bytes_of (Some file) = file.bytes

abbrev pub found_bytes : State → Found → List ℕ
found_bytes state found = bytes_of (find_file state.slots found.title)

-- whether bytes of the found file are left
abbrev pub more_of : Option Found → State → CallResult
more_of None state = no_file
more_of (Some found) state = gives (word_of (nat_lt found.position (length (found_bytes state found)))) state

abbrev pub more : State → CallResult
more state = more_of state.found state

-- the next byte of the found file as a character
abbrev pub read_next : Option ℕ → Found → State → CallResult
read_next None found state = gives end_of_text state
read_next (Some byte) found state =
    gives (character byte) (record state { found = Some (record found { position = found.position + 1 }) })

abbrev pub read_of : Option Found → State → CallResult
read_of None state = no_file
read_of (Some found) state = read_next (slice_get (found_bytes state found) found.position) found state

abbrev pub read : State → CallResult
read state = read_of state.found state

-- ---- writing a file

-- an empty file is begun, in place of one that is being written
abbrev pub fresh_buffer : State → CallResult
fresh_buffer state = does (record state { buffer = Some [] })

abbrev pub write_to : Option (List ℕ) → ℕ → State → CallResult
write_to None word state = no_file
write_to (Some bytes) word state =
    if nat_lt (length bytes) most_bytes
    then does (record state { buffer = Some (bytes ++ character word ∷ []) })
    else file_limit

abbrev pub write : ℕ → State → CallResult
write word state = write_to state.buffer word state

-- ---- the catalogue

abbrev pub is_protected : Option File → Bool
is_protected None = false
is_protected (Some file) = file.protected

-- the found file, unless it has this title
abbrev pub other_than : List ℕ → Option Found → Option Found
other_than title None = None
other_than title (Some found) = if bytes_eq found.title title then None else Some found

-- the slot of the file with this title, if it may be changed
abbrev pub open_slot : List (Option File) → List ℕ → Option ℕ
open_slot slots title =
    option_and_then (λ index. if is_protected (slot_at slots index) then None else Some index) (find_slot slots title)

-- the slot where a file of this title is stored: its own, if it may be changed; for a new title the first free one
abbrev pub slot_for : List (Option File) → List ℕ → Option ℕ
slot_for slots title = if is_none (find_slot slots title) then first_free slots else open_slot slots title

-- the slot where so many bytes are stored under this title, if they may be
abbrev pub room_for : State → List ℕ → ℕ → Option ℕ
room_for state title size = if nat_le (blocks_of size) (free state) then slot_for state.slots title else None

-- the bytes as a text file of this title
abbrev pub text_file : List ℕ → List ℕ → File
text_file title bytes = record { title = title; kind = kind.Text; protected = false; bytes = bytes }

-- the state with this in the slot of that index, where the found file is dropped if it has this title
abbrev pub with_slot : State → List ℕ → ℕ → Option File → State
with_slot state title index slot =
    record state { slots = put_slot state.slots index slot; found = other_than title state.found }

abbrev pub stored : List ℕ → List ℕ → ℕ → State → State
stored title bytes index state =
    record (with_slot state title index (Some (text_file title bytes))) { buffer = None }

abbrev pub close_as : List ℕ → List ℕ → State → CallResult
close_as bytes title state =
    option_map_or (λ index. gives 1 (stored title bytes index state)) (room_for state title (length bytes)) (gives 0 state)

abbrev pub close_of : Option (List ℕ) → List ℕ → State → CallResult
close_of None words state = no_file
close_of (Some bytes) words state =
    option_map_or (λ title. close_as bytes title state) (title_of words) (gives 0 state)

-- the file that is being written is stored as a text file under a title; the answer says whether it was
abbrev pub close : List ℕ → State → CallResult
close words state = close_of state.buffer words state

abbrev pub remove_as : List ℕ → State → CallResult
remove_as title state =
    option_map_or (λ index. gives 1 (with_slot state title index None)) (open_slot state.slots title) (gives 0 state)

-- the file of a title is removed, if there is one that is not protected; the answer says whether it was
abbrev pub remove : List ℕ → State → CallResult
remove words state = option_map_or (λ title. remove_as title state) (title_of words) (gives 0 state)

-- ---- the ten calls by their numbers

-- a title takes 12 argument words and a character one; the `var` parameter of a call is not counted
abbrev pub argument_words : ℕ → ℕ
argument_words number =
    if number == 4 || number == 9 || number == 10 then 12 else
    if number == 2 || number == 3 || number == 8 then 1 else 0

-- a call with a `var` parameter has one answer word, which is stored there
abbrev pub answer_words : ℕ → ℕ
answer_words number = if number == 2 || number == 3 || number == 7 || number == 8 then 0 else 1

abbrev pub call : ℕ → List ℕ → State → CallResult
call number words state =
    if number == 1 then accept state else
    if number == 2 then display (slice_index words 0) state else
    if number == 3 then print (slice_index words 0) state else
    if number == 4 then find words state else
    if number == 5 then more state else
    if number == 6 then read state else
    if number == 7 then fresh_buffer state else
    if number == 8 then write (slice_index words 0) state else
    if number == 9 then close words state else
    if number == 10 then remove words state else
    does state
