-- Words of contracts. The procedures of a scope that are begun, as they are kept.
use Rattle.std.specs.Prelude.{◌≡◌, ◌&&◌, ℕ, zero, suc, Bool, false, List, [], ◌∷◌, Option, Some, None, if◌then◌else◌, slice_get, option_map}
use Rattle.std.specs.Option.{option_map_or}
use Rattle.std.specs.Ordering.{nat_cmp}
use Rattle.std.specs.Cmp.Lexicographic.{slice_cmp}
use Rattle.std.specs.BTreeMap.{get_by}
use Rattle.std.specs.Str.{bytes_eq}
use Rattle.edi_static.specs.declared.places.Places.{Places}
use Rattle.edi_static.specs.declared.splits.Row.{Row}
use Rattle.edi_static.specs.Environment.{Begun}

-- the first of these
abbrev pub first_of : List Begun → Option Begun
first_of [] = None
first_of (b ∷ bs) = Some b

-- the procedure of a row
abbrev pub procedure_of : Row → Begun
procedure_of r = record { name = r.name; block = r.block }

-- the procedures that wait, in their order
abbrev pub waiting : List Row → List Begun
waiting [] = []
waiting (r ∷ rs) = if r.waits then procedure_of r ∷ waiting rs else waiting rs

-- whether a row waits, and has this name
abbrev pub waits_as : List ℕ → Row → Bool
waits_as name r = r.waits && bytes_eq r.name.text name

-- the places of the rows that wait and have this name; the first row has this place
abbrev pub places_from : ℕ → List Row → List ℕ → List ℕ
places_from at [] name = []
places_from at (r ∷ rs) name = if waits_as name r then at ∷ places_from (suc at) rs name else places_from (suc at) rs name

-- the places that are kept for a name
abbrev pub listed : Places → List ℕ → List ℕ
listed kept name = option_map_or (λ places. places.items) (get_by (λ spelling. slice_cmp nat_cmp name spelling.items) kept.lists) []

-- for each name those places are kept where a row of the name waits
abbrev pub ArePlaced : Places → List Row → Type 0
ArePlaced kept rows = (q : List ℕ) → listed kept q ≡ places_from 0 rows q

-- a row that no longer waits
abbrev pub ended : Row → Row
ended r = record { name = r.name; block = r.block; waits = false }

-- the row at this place no longer waits
abbrev pub ended_at : ℕ → List Row → List Row
ended_at place [] = []
ended_at zero (r ∷ rs) = ended r ∷ rs
ended_at (suc place) (r ∷ rs) = r ∷ ended_at place rs

-- the rows at these places no longer wait
abbrev pub ended_all : List ℕ → List Row → List Row
ended_all [] rows = rows
ended_all (place ∷ places) rows = ended_all places (ended_at place rows)

-- the block of the row at this place, if there is one
abbrev pub block_at : List Row → ℕ → Option ℕ
block_at rows place = option_map (λ r. r.block) (slice_get rows place)
