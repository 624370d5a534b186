-- Definition. Files of choices: each choice is a line of one to three decimal digits with a value 0 to 255.
use Rattle.std.specs.Prelude.{◌≡◌, ℕ, ◌+◌, ◌-◌, ◌*◌, Bool, ◌&&◌, ◌==◌, nat_le, if◌then◌else◌, List, [], ◌∷◌, ◌++◌, length, Result, Ok, Err, ⊤, decimal}
use Rattle.std.specs.List.{slice_split, list_all, fold}
use Rattle.edi_trace.specs.declared.file.ChoiceFault.{ChoiceFault}
use Rattle.edi_trace.specs.declared.file.ChoiceFault.TheVariants as fault
use Rattle.edi_trace.specs.Drawn.{most_kept}

-- the choices of a file, or the number of its first bad line, counted from 1
pub data Reading : Type 0 where
  values : List ℕ → Reading
  bad_line : ℕ → Reading

abbrev pub is_digit : ℕ → Bool
is_digit c = nat_le 48 c && nat_le c 57

-- the number that digits spell
abbrev pub number_of : List ℕ → ℕ
number_of digits = fold (λ n c. n * 10 + (c - 48)) 0 digits

-- one to three digits, with a value of at most 255
abbrev pub is_choice : List ℕ → Bool
is_choice line =
    nat_le 1 (length line) && nat_le (length line) 3 && list_all is_digit line && nat_le (number_of line) 255

-- a choice before those of the lines after it
abbrev pub with_value : ℕ → Reading → Reading
with_value value (values rest) = values (value ∷ rest)
with_value value (bad_line n) = bad_line n

-- what stands after the last line feed: nothing, or a line that lacks its own
abbrev pub read_rest : ℕ → List ℕ → Reading
read_rest n [] = values []
read_rest n (c ∷ cs) = bad_line n

-- the parts of a file between its line feeds, from line n on: each but the last is a line, and there are at most
-- 65,536 lines
abbrev pub read_parts : ℕ → List (List ℕ) → Reading
read_parts n [] = values []
read_parts n (rest ∷ []) = read_rest n rest
read_parts n (line ∷ part ∷ parts) =
    if is_choice line && nat_le n most_kept
    then with_value (number_of line) (read_parts (n + 1) (part ∷ parts))
    else bad_line n

abbrev pub is_line_feed : ℕ → Bool
is_line_feed c = c == 10

-- the choices of a file
abbrev pub read_of : List ℕ → Reading
read_of bytes = read_parts 1 (slice_split is_line_feed bytes)

-- the lines of choices: each number without leading zeros, and its line feed
abbrev pub written : List ℕ → List ℕ
written [] = []
written (value ∷ rest) = decimal value ++ 10 ∷ written rest

-- how a reading is answered; want of memory may come instead
abbrev pub ReadingAnswers : {V : Type 0} → (V → List ℕ) → Reading → Result V ChoiceFault → Type 0
ReadingAnswers items (values list) (Ok v) = items v ≡ list
ReadingAnswers items (bad_line n) (Err (fault.Line m)) = m ≡ n
ReadingAnswers items _ (Err fault.NoMemory) = ⊤
ReadingAnswers items _ _ = ⊥
