-- Definition. The variables of all processes. Each live process has a list of instances, one for each block that it has entered
-- and not left, the oldest first. What an instance is (its block, and the instance that its block's surroundings mean)
-- is one thing, what its variables hold another.
use Rattle.std.specs.Prelude.{◌≡◌, ℕ, zero, suc, ◌+◌, ◌-◌, ◌<◌, ◌≤◌, false, List, [], ◌∷◌, ◌++◌, length, take, slice_get, slice_set, slice_index_or}
use Rattle.std.specs.Prelude.{unwrap_or, pos}
use Rattle.edi_calls.specs.Names.{Name, Table, same, find, with_at}
use Rattle.edi_calls.specs.Ready.{parent_of}
use Rattle.edi_unit.specs.Values.{Value, ordinal}
use Rattle.edi_meaning.specs.Parts.{part_at, with_part}

-- an instance, by its process and its depth in the list
abbrev pub Spot : Type 0
Spot = Name × ℕ

-- a variable, or a part of it, by the numbers of the parts that lead there
pub record Location : Type 0 where
  pub spot : Spot
  pub variable : ℕ
  pub path : List ℕ

-- a procedure: a call of the system, or a block with the instance that its surroundings mean
pub data Closure : Type 0 where
  system_procedure : (number : ℕ) → Closure
  block_procedure : (number : ℕ) → (parent : Spot) → Closure

-- what a variable holds: a value; a location, for a `var` parameter; a procedure, for a procedure parameter
pub data Cell : Type 0 where
  value : Value → Cell
  location : Location → Cell
  procedure : Closure → Cell

-- the block of an instance, the words that it needs, and its static parent
pub record Frame : Type 0 where
  pub block : ℕ
  pub need : ℕ
  pub parent : Spot

pub record Instance : Type 0 where
  pub frame : Frame
  pub cells : List Cell

abbrev pub Store : Type 0
Store = Table (List Instance)

abbrev pub instances : Store → Name → List Instance
instances store p = unwrap_or (find store p) []

-- ---- frames: all that says where things are

-- the frames of each process
abbrev pub Shape : Type 0
Shape = Name → List Frame

abbrev pub frames : List Instance → List Frame
frames [] = []
frames (i ∷ is) = i.frame ∷ frames is

abbrev pub shape : Store → Shape
shape store p = frames (instances store p)

abbrev pub no_frame : Frame
no_frame = record { block = 0; need = 0; parent = ([], 0) }

abbrev pub frame_at : Shape → Spot → Frame
frame_at F s = unwrap_or (slice_get (F s.0) s.1) no_frame

-- the instance that so many static parents lead to
abbrev pub reached : Shape → ℕ → Spot → Spot
reached F zero s = s
reached F (suc levels) s = reached F levels (frame_at F s).parent

-- the newest instance of a process
abbrev pub now : Shape → Name → Spot
now F p = (p, length (F p) - 1)

-- the words that the instances of a process need
abbrev pub used : List Frame → ℕ
used [] = 0
used (f ∷ fs) = f.need + used fs

-- the words that are left of a segment
abbrev pub room : ℕ → List Frame → ℕ
room size fs = size - used fs

-- ---- cells

abbrev pub cells_in : List Instance → ℕ → List Cell
cells_in [] depth = []
cells_in (i ∷ is) zero = i.cells
cells_in (i ∷ is) (suc depth) = cells_in is depth

abbrev pub with_cell_in : List Instance → ℕ → ℕ → Cell → List Instance
with_cell_in [] depth variable cell = []
with_cell_in (i ∷ is) zero variable cell = record i { cells = slice_set i.cells variable cell } ∷ is
with_cell_in (i ∷ is) (suc depth) variable cell = i ∷ with_cell_in is depth variable cell

abbrev pub no_cell : Cell
no_cell = value (ordinal (pos 0))

-- what a variable of an instance holds
abbrev pub cell : Store → Spot → ℕ → Cell
cell store s variable = slice_index_or (cells_in (instances store s.0) s.1) variable no_cell

abbrev pub with_cell : Store → Spot → ℕ → Cell → Store
with_cell store s variable x = with_at store s.0 (with_cell_in (instances store s.0) s.1 variable x)

-- ---- locations

-- where a variable of an instance is: a `var` parameter means the location that it holds
abbrev pub located : Spot → ℕ → Cell → Location
located s variable (location l) = l
located s variable _ = record { spot = s; variable = variable; path = [] }

-- the location of a slot: a variable of the block so many levels out from the newest instance of a process
abbrev pub slot : Store → Name → (levels variable : ℕ) → Location
slot store p levels variable =
    let s = reached (shape store) levels (now (shape store) p) in located s variable (cell store s variable)

-- the value in a cell; a cell that holds none has the value 0, which no checked program meets
abbrev pub value_in : Cell → Value
value_in (value v) = v
value_in _ = ordinal (pos 0)

-- the value at a location, and the store with another value there
abbrev pub get : Store → Location → Value
get store l = part_at (value_in (cell store l.spot l.variable)) l.path

abbrev pub put : Store → Location → Value → Store
put store l v =
    with_cell store l.spot l.variable (value (with_part (value_in (cell store l.spot l.variable)) l.path v))

-- the procedure in a cell; a cell that holds none stands for a call that is none, which no checked program meets
abbrev pub procedure_in : Cell → Closure
procedure_in (procedure c) = c
procedure_in _ = system_procedure 0

-- the procedure that a procedure parameter means
abbrev pub formal : Store → Name → (levels variable : ℕ) → Closure
formal store p levels variable =
    procedure_in (cell store (reached (shape store) levels (now (shape store) p)) variable)

-- ---- instances

-- a new instance, the newest of its process, and its end
abbrev pub grown : Name → Instance → Store → Store
grown p i store = with_at store p (instances store p ++ i ∷ [])

abbrev pub shrunk : Name → Store → Store
shrunk p store = with_at store p (take (length (instances store p) - 1) (instances store p))

-- ---- whose instances a process may use

-- a process with 0, its parent with 1, the parent of that with 2, and so on
abbrev pub ancestor : ℕ → Name → Name
ancestor zero p = p
ancestor (suc n) p = parent_of (ancestor n p)

-- the instances that p may use are its own and its ancestors': those of r, where r is p or an ancestor of p
pub record Owns (p r : Name) : Type 0 where
  pub generation : ℕ
  pub is : r ≡ ancestor generation p

-- ---- instances that live

abbrev pub IsLive : Shape → Spot → Type 0
IsLive F s = s.1 < length (F s.0)

-- t is no newer than s: of the same process and entered no later, or of an ancestor
pub data Older (t s : Spot) : Type 0 where
  within : t.0 ≡ s.0 → t.1 ≤ s.1 → Older t s
  above : same t.0 s.0 ≡ false → Owns s.0 t.0 → Older t s
