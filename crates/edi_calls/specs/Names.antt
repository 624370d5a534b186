-- Definition. The names of processes, and tables by name.
use Rattle.std.specs.Prelude.{ℕ, Bool, true, false, ◌&&◌, nat_eq, if◌then◌else◌, List, [], ◌∷◌, Option, Some, None}

-- the first process has the empty name; child i of the f-th fork of p has the name p followed by f and i
abbrev pub Name : Type 0
Name = List ℕ

abbrev pub same : Name → Name → Bool
same [] [] = true
same (x ∷ xs) (y ∷ ys) = nat_eq x y && same xs ys
same _ _ = false

-- values by name, each name with its first value
abbrev pub Table : Type 0 → Type 0
Table A = List (Name × A)

module _ {A : Type 0} where
  -- the value of a name
  abbrev pub find : Table A → Name → Option A
  find [] p = None
  find (entry ∷ table) p = if same p entry.0 then Some entry.1 else find table p

  -- the table where a name has this value: in the place of its old one, or at the end
  abbrev pub with_at : Table A → Name → A → Table A
  with_at [] p a = (p, a) ∷ []
  with_at (entry ∷ table) p a =
      if same p entry.0 then (entry.0, a) ∷ table else entry ∷ with_at table p a

  -- the table without a name
  abbrev pub without : Table A → Name → Table A
  without [] p = []
  without (entry ∷ table) p = if same p entry.0 then without table p else entry ∷ without table p

  -- the names of a table in its order
  abbrev pub names : Table A → List Name
  names [] = []
  names (entry ∷ table) = entry.0 ∷ names table
