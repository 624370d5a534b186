-- Definition. THE RECORDS of an exploration: for each ending a file with its choices.
use Rattle.std.specs.Prelude.{ℕ, zero, suc, List, [], ◌∷◌, ◌++◌, take, Option, Some, None, codes}
use Rattle.std.specs.Fmt.{decimal}
use Rattle.edi_trace.specs.Lines.{written}
use Rattle.edi_runs.specs.explore.Explorations.{Reached}

-- `NAME.3`
abbrev pub record_name : (name : List ℕ) → (number : ℕ) → List ℕ
record_name name number = name ++ (codes "." ++ decimal number)

-- So many endings are kept at most: so it is known before the search which files may change.
unfoldable pub most_records : ℕ
most_records = 1000

-- so many names, from this number on
abbrev pub record_names : (name : List ℕ) → (number many : ℕ) → List (List ℕ)
record_names name number zero = []
record_names name number (suc n) = record_name name number ∷ record_names name (suc number) n

-- the files of the endings, by their names, from this number on
abbrev pub records_from : (name : List ℕ) → (number : ℕ) → List Reached → List (List ℕ × List ℕ)
records_from name number [] = []
records_from name number (one ∷ found) = (record_name name number, written one.choices) ∷ records_from name (suc number) found

-- THE RECORDS, where they are asked for: the endings are counted from 1
abbrev pub records_of : Option (List ℕ) → List Reached → List (List ℕ × List ℕ)
records_of None found = []
records_of (Some name) found = records_from name 1 (take most_records found)
