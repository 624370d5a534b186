-- Helper. The `cobegin`s that the code keeps, as those of the definitions: for each block those whose first branch it is.
use Rattle.std.specs.Prelude.{ℕ, List, [], ◌∷◌, ◌++◌, map, slice_index_or, slice_set}
use Rattle.std.specs.Global.{Vec}
use Rattle.edi_disjoint.specs.declared.showing.Fork as code_fork
use Rattle.edi_disjoint.specs.Report.{Fork}

abbrev pub fork_of : code_fork.Fork → Fork
fork_of fork = record { branches = fork.branches.items; line = fork.line }

-- those that begin with one block
abbrev pub forks_here : Vec code_fork.Fork → List Fork
forks_here forks = map fork_of forks.items

-- with one more at the end of those that begin with block n
abbrev pub filed_at : List (List Fork) → (n : ℕ) → Fork → List (List Fork)
filed_at begun n fork = slice_set begun n (slice_index_or begun n [] ++ fork ∷ [])

-- with one that has these branches, if the first is a block of the program
abbrev pub filed_by : List (List Fork) → List ℕ → Fork → List (List Fork)
filed_by begun [] fork = begun
filed_by begun (b ∷ bs) fork = filed_at begun b fork

-- with all of these
abbrev pub all_filed : List (List Fork) → List Fork → List (List Fork)
all_filed begun [] = begun
all_filed begun (fork ∷ forks) = all_filed (filed_by begun fork.branches fork) forks
