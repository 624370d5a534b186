-- Definition. The report on the branches of a program: for each `cobegin` in the order of the text, a line for each two of its branches.
use Rattle.std.specs.Prelude.{◌≡◌, ℕ, zero, suc, Bool, true, false, ◌==◌, nat_lt, if◌then◌else◌, List, [], ◌∷◌, ◌++◌, length}
use Rattle.std.specs.Prelude.{codes, filter}
use Rattle.std.specs.Bool.{Decides}
use Rattle.std.specs.Fmt.{decimal}
use Rattle.edi_unit.specs.Fits.{Fits}
use Rattle.edi_unit.specs.Tree as tree
use Rattle.edi_unit.specs.Tree.{Act, Acts, Clause, Clauses, Block, ProgramUnit}
use Rattle.edi_disjoint.specs.Footprints.{Disjoint}
use Rattle.edi_disjoint.specs.Exchange.{Exchanges}
use Rattle.edi_disjoint.specs.Footprints.{IsBranch}

-- ---- the `cobegin`s of a program

pub record Fork : Type 0 where
  pub branches : List ℕ
  pub line : ℕ

abbrev mutual
  pub forks_in_act : Act → List Fork
  forks_in_act tree.skip = []
  forks_in_act (tree.assign v e) = []
  forks_in_act (tree.call c xs line) = []
  forks_in_act (tree.halt line) = []
  forks_in_act (tree.if_act cs) = forks_in_clauses cs
  forks_in_act (tree.while_act cs) = forks_in_clauses cs
  forks_in_act (tree.when_act cs line) = forks_in_clauses cs
  forks_in_act (tree.cobegin bs line) = record { branches = bs; line = line } ∷ []

  pub forks_in_acts : Acts → List Fork
  forks_in_acts tree.no_act = []
  forks_in_acts (tree.act_then a as') = forks_in_act a ++ forks_in_acts as'

  pub forks_in_clause : Clause → List Fork
  forks_in_clause (tree.clause e as') = forks_in_acts as'

  pub forks_in_clauses : Clauses → List Fork
  forks_in_clauses tree.no_clause = []
  forks_in_clauses (tree.clause_then c cs) = forks_in_clause c ++ forks_in_clauses cs

abbrev pub forks_of : List Block → List Fork
forks_of [] = []
forks_of (b ∷ bs) = forks_in_acts b.body ++ forks_of bs

-- Blocks are numbered in the order of the text, and the first branch of a `cobegin` is the first block after its word: so the
-- `cobegin`s stand in the text in the order of their first branches' numbers.
abbrev pub first_is : ℕ → List ℕ → Bool
first_is n [] = false
first_is n (b ∷ bs) = b == n

abbrev pub begins_with : ℕ → Fork → Bool
begins_with n fork = first_is n fork.branches

-- from block n on, so many of them
abbrev pub forks_from : List Fork → (n many : ℕ) → List Fork
forks_from forks n zero = []
forks_from forks n (suc many) = filter (begins_with n) forks ++ forks_from forks (suc n) many

abbrev pub forks_in_order : ProgramUnit → List Fork
forks_in_order unit = forks_from (forks_of unit.blocks) 0 (length unit.blocks)

-- ---- lines

-- as many branches as may live at once beside the process that forks
abbrev pub most_branches : ℕ
most_branches = 31

abbrev pub answer_text : Bool → List ℕ
answer_text true = codes " disjoint\n"
answer_text false = codes " may share\n"

abbrev pub pair_line : Bool → (line i j : ℕ) → List ℕ
pair_line answer line i j =
    codes "line " ++ (decimal line ++ (codes " branches " ++ (decimal i ++ (codes " " ++ (decimal j ++ answer_text answer)))))

-- branch i, of block a, with each of those from j on
abbrev pub pair_lines : (ℕ → ℕ → Bool) → (line i a j : ℕ) → List ℕ → List ℕ
pair_lines answer line i a j [] = []
pair_lines answer line i a j (b ∷ bs) = pair_line (answer a b) line i j ++ pair_lines answer line i a (suc j) bs

-- the branches from i on, each with those after it
abbrev pub branch_lines : (ℕ → ℕ → Bool) → (line i : ℕ) → List ℕ → List ℕ
branch_lines answer line i [] = []
branch_lines answer line i (a ∷ bs) = pair_lines answer line i a (suc i) bs ++ branch_lines answer line (suc i) bs

abbrev pub many_line : ℕ → List ℕ
many_line line = codes "line " ++ (decimal line ++ codes " too many branches\n")

abbrev pub fork_lines : (ℕ → ℕ → Bool) → Fork → List ℕ
fork_lines answer fork =
    if nat_lt most_branches (length fork.branches)
    then many_line fork.line
    else branch_lines answer fork.line 1 fork.branches

abbrev pub report_of : (ℕ → ℕ → Bool) → List Fork → List ℕ
report_of answer [] = []
report_of answer (fork ∷ forks) = fork_lines answer fork ++ report_of answer forks

-- THE REPORT: a pair is called disjoint exactly where it is
pub record IsReport (unit : ProgramUnit) (text : List ℕ) : Type 0 where
  pub answer : ℕ → ℕ → Bool
  pub exact : (a b : ℕ) → IsBranch unit a → IsBranch unit b → Decides (answer a b) (Disjoint unit a b)
  pub is : text ≡ report_of answer (forks_in_order unit)

-- a program that fits has one report
abbrev pub OneReport : Type 0
OneReport = (unit : ProgramUnit) → Fits unit → (one other : List ℕ) → IsReport unit one → IsReport unit other → one ≡ other

-- steps of each pair that it calls disjoint may be exchanged
pub record ExchangesReported (unit : ProgramUnit) (text : List ℕ) : Type 0 where
  pub report : IsReport unit text
  pub exchange : (a b : ℕ) → IsBranch unit a → IsBranch unit b → report.answer a b ≡ true → Exchanges unit a b
