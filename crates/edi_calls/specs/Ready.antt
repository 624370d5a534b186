-- Definition. The list of the processes that are ready, and which of them goes on next. The meaning of programs and the machine
-- share this rule.
use Rattle.std.specs.Prelude.{ℕ, zero, suc, ◌+◌, ◌-◌, ◌%◌, Bool, true, false, ◌&&◌, ◌||◌, List, [], ◌∷◌, ◌++◌, length, take}
use Rattle.edi_calls.specs.Names.{Name, same}
use Rattle.edi_calls.specs.Choice.{Choices, choice}

-- child i of the f-th fork of p
abbrev pub child : Name → ℕ → ℕ → Name
child p f i = p ++ f ∷ i ∷ []

-- whose child a process is; the first process has no parent and stands for its own
abbrev pub parent_of : Name → Name
parent_of p = take (length p - 2) p

-- the names of n children, from child i on
abbrev pub children : Name → ℕ → ℕ → ℕ → List Name
children p f i zero = []
children p f i (suc n) = child p f i ∷ children p f (suc i) n

abbrev pub has : List Name → Name → Bool
has [] p = false
has (q ∷ ps) p = same p q || has ps p

-- whether each of these processes is marked
abbrev pub all_marked : List Name → List Name → Bool
all_marked marks [] = true
all_marked marks (p ∷ ps) = has marks p && all_marked marks ps

-- what a step leaves of its process: it goes on itself, or these join the back of the list and the next is taken
pub data Next : Type 0 where
  stays : Next
  joins : List Name → Next

-- a parent that waits for so many children joins the list when none is left
abbrev pub freed : ℕ → Name → Next
freed zero p = joins (p ∷ [])
freed (suc n) p = joins []

-- the next process, the others, and the number of choices drawn by then
pub data Taking : Type 0 where
  nobody : Taking
  taking : Name → List Name → (drawn : ℕ) → Taking

-- the name at an index, counted from 0, and the list without it
abbrev pub name_at : List Name → ℕ → Name
name_at [] index = []
name_at (p ∷ ps) zero = p
name_at (p ∷ ps) (suc index) = name_at ps index

abbrev pub without_index : List Name → ℕ → List Name
without_index [] index = []
without_index (p ∷ ps) zero = ps
without_index (p ∷ ps) (suc index) = p ∷ without_index ps index

-- the process at this index is taken
abbrev pub taking_at : List Name → ℕ → ℕ → Taking
taking_at ready index drawn = taking (name_at ready index) (without_index ready index) drawn

-- of k ready processes the one at index c mod k from the front is taken, c being the next choice; a single one is
-- taken without a choice
abbrev pub take_next : Choices → ℕ → List Name → Taking
take_next choices drawn [] = nobody
take_next choices drawn (p ∷ []) = taking p [] drawn
take_next choices drawn (p ∷ q ∷ ready) =
    taking_at (p ∷ q ∷ ready) (choice choices (drawn + 1) % length (p ∷ q ∷ ready)) (drawn + 1)
