-- Definition. Points: the lines of a file that says what is to be watched. Each is a line of the program's text on which a `when` stands, a
-- blank, and a name that means a variable of an elementary type at each `when` of that line.
use Rattle.std.specs.Prelude.{◌≡◌, ℕ, ◌+◌, Bool, false, ◌&&◌, ◌||◌, ◌==◌, ◌≤◌, nat_le, All, if◌then◌else◌, List, [], ◌∷◌, length, map, is_some, Option, Some, None}
use Rattle.std.specs.Prelude.{Result, Ok, Err, ⊤}
use Rattle.std.specs.List.{slice_split, list_all}
use Rattle.edi_unit.specs.Lists.{list_items}
use Rattle.edi_trace.specs.Lines.{is_digit, number_of}
use Rattle.edi_tree.specs.Tree as text
use Rattle.edi_sights.specs.declared.answer.Sight.{Sight}
use Rattle.edi_sights.specs.Sights.{sights_of}
use Rattle.edi_debug.specs.stops.Stops.{Watched}
use Rattle.edi_debug.specs.declared.answer.Point.{Point}
use Rattle.edi_debug.specs.declared.answer.Points.{Points}
use Rattle.edi_debug.specs.declared.answer.PointFault.{PointFault}
use Rattle.edi_debug.specs.declared.answer.PointFault.TheVariants as fault

-- ---- one point

abbrev pub is_letter : ℕ → Bool
is_letter c = (nat_le 65 c && nat_le c 90) || (nat_le 97 c && nat_le c 122)

abbrev pub is_in_name : ℕ → Bool
is_in_name c = is_letter c || is_digit c || c == 95

abbrev pub begins_with_letter : List ℕ → Bool
begins_with_letter [] = false
begins_with_letter (c ∷ cs) = is_letter c

-- a letter, and then letters, digits and `_`, at most 250 bytes
abbrev pub is_name : List ℕ → Bool
is_name bytes = begins_with_letter bytes && nat_le (length bytes) 250 && list_all is_in_name bytes

-- one to five digits, with a value that a line of a text can have
abbrev pub is_number : List ℕ → Bool
is_number digits =
    nat_le 1 (length digits) && nat_le (length digits) 5 && list_all is_digit digits && nat_le (number_of digits) 65535

-- the line and the name that the parts of a line between its blanks spell
abbrev pub spelled_by : List (List ℕ) → Option (ℕ × List ℕ)
spelled_by (digits ∷ name ∷ []) = if is_number digits && is_name name then Some (number_of digits, name) else None
spelled_by _ = None

abbrev pub is_blank : ℕ → Bool
is_blank c = c == 32

abbrev pub spelled : List ℕ → Option (ℕ × List ℕ)
spelled line = spelled_by (slice_split is_blank line)

-- there is a `when` on the line, and the name means a variable of an elementary type at each
abbrev pub all_seen : List Sight → Bool
all_seen sights = nat_le 1 (length sights) && list_all (λ (s : Sight). is_some s.slot) sights

abbrev pub seen_at : text.Program → Option (ℕ × List ℕ) → Option Watched
seen_at tree None = None
seen_at tree (Some pair) =
    let sights : List Sight = sights_of tree pair.0 pair.1 in
    if all_seen sights then Some (record { line = pair.0; name = pair.1; sights = sights }) else None

-- the point that a line of the file is, if it is one
abbrev pub point_of : text.Program → List ℕ → Option Watched
point_of tree line = seen_at tree (spelled line)

-- ---- the file

pub data Reading : Type 0 where
  read : List Watched → Reading
  bad_line : ℕ → Reading

abbrev pub with_point : (n : ℕ) → Option Watched → Reading → Reading
with_point n None rest = bad_line n
with_point n (Some p) (read ps) = read (p ∷ ps)
with_point n (Some p) (bad_line k) = bad_line k

-- what stands behind the last line feed: nothing, or a line that lacks its own
abbrev pub read_rest : ℕ → List ℕ → Reading
read_rest n [] = read []
read_rest n (c ∷ cs) = bad_line n

-- the parts of the file between its line feeds, from line n on; there are at most 64 lines
abbrev pub read_parts : text.Program → ℕ → List (List ℕ) → Reading
read_parts tree n [] = read []
read_parts tree n (rest ∷ []) = read_rest n rest
read_parts tree n (line ∷ part ∷ parts) =
    if nat_le n 64 then with_point n (point_of tree line) (read_parts tree (n + 1) (part ∷ parts)) else bad_line n

abbrev pub is_line_feed : ℕ → Bool
is_line_feed c = c == 10

-- THE POINTS of a file for a program, or its first bad line
abbrev pub read_of : text.Program → List ℕ → Reading
read_of tree bytes = read_parts tree 1 (slice_split is_line_feed bytes)

-- ---- what the code has of them

abbrev pub watched : Point → Watched
watched p = record { line = p.line; name = p.name.items; sights = list_items p.sights }

abbrev pub watched_in : Points → List Watched
watched_in points = map watched points.items.items

-- the line of the file is this point, or none
abbrev pub IsPoint : text.Program → List ℕ → Option Point → Type 0
IsPoint tree line None = point_of tree line ≡ None
IsPoint tree line (Some p) = point_of tree line ≡ Some (watched p)

abbrev pub ReadsPoints : text.Program → List ℕ → Result Points PointFault → Type 0
ReadsPoints tree bytes (Ok points) = read_of tree bytes ≡ read (watched_in points)
ReadsPoints tree bytes (Err (fault.Line n)) = read_of tree bytes ≡ bad_line n
ReadsPoints tree bytes (Err fault.NoMemory) = ⊤

-- these points are those of some file for this program
abbrev pub ArePoints : text.Program → Points → Type 0
ArePoints tree points = (bytes : List ℕ) × (read_of tree bytes ≡ read (watched_in points))

-- each name has at most 250 bytes
abbrev pub AreNamed : Points → Type 0
AreNamed points = All (λ (p : Point). length p.name.items ≤ 250) points.items.items
