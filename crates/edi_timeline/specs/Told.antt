-- Words of contracts. The stints for which the rows of a timeline stand.
use Rattle.std.specs.Prelude.{◌≡◌, ◌≤◌, ℕ, zero, suc, ◌-◌, ◌==◌, if◌then◌else◌, List, [], ◌∷◌, ◌++◌, replicate, slice_index_or, take, All}
use Rattle.edi_calls.specs.Names.{Name}
use Rattle.edi_calls.specs.Outcome as outcome
use Rattle.edi_kernel.specs.declared.ends.Ending.{Ending}
use Rattle.edi_kernel.specs.declared.ends.Ending.TheVariants as ending
use Rattle.edi_timeline.specs.Stints.{Start, begin, join, at, End, arrives, waits, tries, forks, ends, over, Stint}
use Rattle.edi_timeline.specs.declared.rows.Row.{Row}
use Rattle.edi_timeline.specs.declared.rows.Kind.{Kind}
use Rattle.edi_timeline.specs.declared.rows.Kind.TheVariants as kind

abbrev pub place_of : Row → List ℕ
place_of r = take r.many r.lines

abbrev pub said_of : Row → List ℕ
said_of r = take r.said r.shown

-- the ending that an ending of the kernel is; a fault is kept in no timeline
abbrev pub meant : Ending → outcome.Ending
meant ending.Done = outcome.done
meant (ending.Halted line) = outcome.halted line
meant (ending.Failed cause line) = outcome.failed cause line
meant ending.Turns = outcome.turns
meant ending.Standstill = outcome.standstill
meant (ending.Bad address) = outcome.bad address
meant ending.Fault = outcome.bad 0

abbrev pub no_row : Row
no_row = record { used = 0; born = 0; fork = 0; before = 0; lines = replicate 5 0; shown = replicate 7 0; branch = 0; kind = kind.Ends; many = 0; said = 0 }

-- the row at an index, and that of a stint
abbrev pub row_at : List Row → ℕ → Row
row_at rows index = slice_index_or rows index no_row

abbrev pub numbered : List Row → ℕ → Row
numbered rows n = row_at rows (n - 1)

-- the forks and branches that lead to its process, the last one first; at most so many
abbrev pub path_in : List Row → (most : ℕ) → Row → List (ℕ × ℕ)
path_in rows zero r = []
path_in rows (suc most) r = if r.born == 0 then [] else (r.fork, r.branch) ∷ path_in rows most (numbered rows r.born)

-- a stint comes after those that bore its process, so their number is a bound
unfoldable pub path_of : List Row → Row → List (ℕ × ℕ)
path_of rows r = path_in rows r.born r

abbrev pub name_of : List (ℕ × ℕ) → Name
name_of [] = []
name_of (b ∷ path) = name_of path ++ b.0 ∷ b.1 ∷ []

abbrev pub process_in : List Row → Row → Name
process_in rows r = name_of (path_of rows r)

-- where the next stint of its process begins
abbrev pub start_behind : Row → Kind → Start
start_behind r kind.Arrives = at (place_of r)
start_behind r kind.Waits = at (place_of r)
start_behind r kind.Tries = at (place_of r)
start_behind r _ = join

abbrev pub start_in : List Row → Row → Start
start_in rows r = if r.before == 0 then begin else start_behind (numbered rows r.before) (numbered rows r.before).kind

abbrev pub end_as : Ending → Row → Kind → End
end_as e r kind.Arrives = arrives (place_of r)
end_as e r kind.Waits = waits
end_as e r kind.Tries = tries
end_as e r kind.Forks = forks r.many
end_as e r kind.Ends = ends
end_as e r kind.Over = over (meant e)

abbrev pub stint_in : Ending → List Row → (first : ℕ) → Row → Stint
stint_in e rows first r = record {
  process = process_in rows r;
  first = first;
  last = r.used;
  from = start_in rows r;
  end = end_as e r r.kind;
  shown = said_of r;
}

-- THE STINTS of these rows, among all, behind so many turns; a run that has ended has ended so
abbrev pub stints_in : Ending → (all : List Row) → (used : ℕ) → List Row → List Stint
stints_in e all used [] = []
stints_in e all used (r ∷ rows) = stint_in e all (suc used) r ∷ stints_in e all r.used rows

-- ---- the same, one by one

-- the turns that were used before the stint of this index
abbrev pub used_before : List Row → ℕ → ℕ
used_before rows zero = 0
used_before rows (suc index) = (row_at rows index).used

abbrev pub stint_at : Ending → (all rows : List Row) → (index : ℕ) → Stint
stint_at e all rows index = stint_in e all (suc (used_before rows index)) (row_at rows index)

-- the stints before this index, the newest first
abbrev pub stints_before : Ending → (all rows : List Row) → (index : ℕ) → List Stint
stints_before e all rows zero = []
stints_before e all rows (suc index) = stint_at e all rows index ∷ stints_before e all rows index

-- ---- what rows keep to

pub record IsRow (r : Row) : Type 0 where
  pub many : r.many ≤ 32
  pub lines : (r.kind ≡ kind.Forks → ⊥) → r.many ≤ 5
  pub said : r.said ≤ 7

-- a row leads to earlier ones alone, and the one that bore its process is that of a fork
pub record AreRows (rows : List Row) : Type 0 where
  pub each : All IsRow rows
  pub born : (n : ℕ) → (numbered rows n).born ≤ n - 1
  pub before : (n : ℕ) → (numbered rows n).before ≤ n - 1
  pub forked : (n : ℕ) → ((numbered rows n).born ≡ 0 → ⊥) → (numbered rows (numbered rows n).born).kind ≡ kind.Forks
