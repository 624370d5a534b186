-- Words of contracts. What callers see: a list of lists of nodes, and what each call makes of it.
use Rattle.std.specs.Prelude.{◌≡◌, ℕ, ◌<◌, Bool, true, not, nat_eq, Option, List, [], ◌∷◌, ◌++◌, length, map, filter, slice_index_or, slice_set}
use Rattle.std.specs.List.{list_any, position_from, IsDistinct}

-- the list of that number, and the empty list past the last one
abbrev pub list_at : List (List ℕ) → ℕ → List ℕ
list_at lists list = slice_index_or lists list []

-- whether the node is among these nodes
abbrev pub has : List ℕ → ℕ → Bool
has nodes node = list_any (nat_eq node) nodes

-- the number of the list that has the node, if one has it
abbrev pub home_of : List (List ℕ) → ℕ → Option ℕ
home_of lists node = position_from (λ nodes. has nodes node) 0 lists

-- the lists after the node has been put at the back of one of them
abbrev pub appended : List (List ℕ) → ℕ → ℕ → List (List ℕ)
appended lists list node = slice_set lists list (list_at lists list ++ node ∷ [])

-- the lists with the node in none of them, and each in its order
abbrev pub without : List (List ℕ) → ℕ → List (List ℕ)
without lists node = map (filter (λ other. not (nat_eq node other))) lists

-- there are so many lists, of nodes below a number, and no node stands in two places
pub record IsSound (nodes count : ℕ) (lists : List (List ℕ)) : Type 0 where
  pub as_many : length lists ≡ count
  pub in_range : (list node : ℕ) → has (list_at lists list) node ≡ true → node < nodes
  pub in_one_list : (a b node : ℕ) → has (list_at lists a) node ≡ true → has (list_at lists b) node ≡ true → a ≡ b
  pub once : (list : ℕ) → IsDistinct nat_eq (list_at lists list)
