-- Helper. How the arrays hold the lists.
use Rattle.std.specs.Prelude.{◌≡◌, ℕ, ◌+◌, ◌-◌, ◌<◌, ◌≤◌, ◌==◌, ◌⊎◌, if◌then◌else◌, Option, Some, None, List, [], ◌∷◌, length, map, take, drop}
use Rattle.std.specs.Prelude.{slice_index_or, slice_set}
use Rattle.std.specs.List.{copy_within}
use Rattle.std.proofs.Math.Seq.{paste}
use Rattle.edi_ring.specs.declared.Row.{Row}
use Rattle.edi_ring.specs.Lists.{list_at}

abbrev pub no_row : Row
no_row = record { nodes = []; start = 0; len = 0 }

abbrev pub row_at : List Row → ℕ → Row
row_at rows list = slice_index_or rows list no_row

-- the nodes that a row holds
abbrev pub nodes_of : Row → List ℕ
nodes_of r = take r.len (drop r.start r.nodes)

abbrev pub lists_in : List Row → List (List ℕ)
lists_in rows = map nodes_of rows

-- the place behind the last node of a row
abbrev pub end_of : Row → ℕ
end_of r = r.start + r.len

-- the row with its nodes from the first place on
abbrev pub at_front : Row → Row
at_front r = record { nodes = copy_within r.nodes r.start (end_of r) 0; start = 0; len = r.len }

-- the row with a place behind its last node
abbrev pub roomy : Row → Row
roomy r = if end_of r == 256 then at_front r else r

-- the row with one more node at that place
abbrev pub put_behind : Row → ℕ → Row
put_behind r node = record { nodes = slice_set r.nodes (end_of r) node; start = r.start; len = r.len + 1 }

-- the row with one more node at its end
abbrev pub lengthened : Row → ℕ → Row
lengthened r node = put_behind (roomy r) node

-- how many nodes a row has from an index on
abbrev pub count_from : Row → ℕ → ℕ
count_from r i = end_of r - (r.start + i)

-- these nodes
abbrev pub part_of : Row → ℕ → List ℕ
part_of r i = take (count_from r i) (drop (r.start + i) r.nodes)

-- these, each but the first one place nearer to the front
abbrev pub moved : List ℕ → List ℕ
moved part = copy_within part 1 (length part) 0

-- the row without the node at an index
abbrev pub shortened : Row → ℕ → Row
shortened r i = record { nodes = paste r.nodes (r.start + i) (moved (part_of r i)) (count_from r i); start = r.start; len = r.len - 1 }

-- the row without its first node
abbrev pub rest_of : Row → Row
rest_of r = record { nodes = r.nodes; start = r.start + 1; len = r.len - 1 }

-- a row of at most so many nodes
pub record IsShort (most : ℕ) (r : Row) : Type 0 where
  pub wide : length r.nodes ≡ 256
  pub fits : r.len ≤ most
  pub ends : end_of r ≤ 256

-- the node is among these nodes
abbrev pub IsAmong : ℕ → List ℕ → Type 0
IsAmong node [] = ⊥
IsAmong node (other ∷ nodes) = (node ≡ other) ⊎ IsAmong node nodes

-- no node stands twice among these
abbrev pub NoneTwice : List ℕ → Type 0
NoneTwice [] = Unit {0}
NoneTwice (node ∷ nodes) = (IsAmong node nodes → ⊥) × NoneTwice nodes

-- a row of at most so many nodes holds these
pub record RowHolds (most : ℕ) (r : Row) (nodes : List ℕ) : Type 0 where
  pub short : IsShort most r
  pub is : nodes_of r ≡ nodes

-- the arrays hold these lists: each row holds its list, the home of a node is the list that has it, and no node stands twice
pub record IsListed (home : List (Option ℕ)) (rows : List Row) (lists : List (List ℕ)) : Type 0 where
  pub as_many : length lists ≡ length rows
  pub bytes : length home ≤ 256
  pub stands : (list : ℕ) → list < length rows → RowHolds (length home) (row_at rows list) (list_at lists list)
  pub homes : (list node : ℕ) → IsAmong node (list_at lists list) → slice_index_or home node None ≡ Some list
  pub among_list : (list node : ℕ) → slice_index_or home node None ≡ Some list → IsAmong node (list_at lists list)
  pub once : (list : ℕ) → NoneTwice (list_at lists list)
