-- Words of contracts. What is drawn of the rows of a timeline.
use Rattle.std.specs.Prelude.{◌≡◌, ◌≤◌, ℕ, suc, ◌-◌, List, ◌++◌, codes, length, map, take, All}
use Rattle.edi_calls.specs.Names.{Name}
use Rattle.edi_timeline.specs.declared.rows.Row.{Row}
use Rattle.edi_timeline.specs.declared.boxes.Sheet.{Sheet}
use Rattle.edi_timeline.specs.Told.{AreRows, IsRow, process_in, row_at, used_before, stint_in, stint_at, stints_before, stints_in, end_as, start_in, said_of}
use Rattle.edi_timeline.specs.Picture.{lanes_of, lane_of, line_to, line_of, line_on, lines_on, over_column, moved, column_x, lane_y, title, box}

-- the names of the lanes
abbrev pub lanes_in : Sheet → List Name
lanes_in s = map (process_in s.rows.now) s.lanes.now

-- the first 1,000 rows at most, and their lanes
pub record IsSheet (s : Sheet) : Type 0 where
  pub rows : AreRows s.rows.now
  pub few : All IsRow s.few.now
  pub many : length s.few.now ≤ 1000
  pub lanes : length s.lanes.now ≤ length s.few.now

-- the line of the process of such a row to the column of this index
abbrev pub line_for : Sheet → Row → (index : ℕ) → List ℕ
line_for s r index = line_to (process_in s.rows.now r) 1 (stints_before s.ending s.rows.now s.few.now index)

-- the line from the last stint of the process of such a row in the first columns to behind these
abbrev pub own_line : Sheet → Row → (columns : ℕ) → List ℕ
own_line s r columns = line_of (process_in s.rows.now r) 1 (stints_before s.ending s.rows.now s.few.now columns)

-- the line of the process of such a row behind the last column, and those of all lanes
abbrev pub line_on_in : Sheet → (lane : ℕ) → Row → List ℕ
line_on_in s lane r = line_on (length s.few.now) lane (process_in s.rows.now r) (stints_before s.ending s.rows.now s.few.now (length s.few.now))

abbrev pub lines_on_in : Sheet → List ℕ
lines_on_in s = lines_on (length s.few.now) 0 (lanes_in s) (stints_before s.ending s.rows.now s.few.now (length s.few.now))

-- the frame of this index with such a row in it
abbrev pub frame_in : Sheet → (index : ℕ) → Row → List ℕ
frame_in s index r =
    over_column (suc index)
    ++ (moved (column_x (suc index - 1)) (lane_y (lane_of (lanes_in s) (process_in s.rows.now r)))
    ++ (title (suc index) (stint_in s.ending s.rows.now (suc (used_before s.few.now index)) r) ++ line_for s r index))

abbrev pub box_in : Sheet → (index : ℕ) → List ℕ
box_in s index =
    let x = stint_at s.ending s.rows.now s.few.now index in
    box (suc index) (lane_of (lanes_in s) x.process) (line_for s (row_at s.few.now index) index) x
