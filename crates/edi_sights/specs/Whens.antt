-- Words of contracts. The lines of the `when`s of a block, in the order of their words in the text, an outer one before those in its body.
use Rattle.std.specs.Prelude.{ℕ, List, [], ◌∷◌, ◌++◌}
use Rattle.edi_unit.specs.Tree.{Act, if_act, while_act, when_act, Acts, no_act, act_then, Clause, clause, Clauses, no_clause, clause_then, Block}
use Rattle.edi_unit.specs.Need.{block_at}

abbrev mutual
  pub act_lines : Act → List ℕ
  act_lines (if_act cs) = clauses_lines cs
  act_lines (while_act cs) = clauses_lines cs
  act_lines (when_act cs line) = line ∷ clauses_lines cs
  act_lines _ = []

  pub acts_lines : Acts → List ℕ
  acts_lines no_act = []
  acts_lines (act_then a s) = act_lines a ++ acts_lines s

  pub clause_lines : Clause → List ℕ
  clause_lines (clause e s) = acts_lines s

  pub clauses_lines : Clauses → List ℕ
  clauses_lines no_clause = []
  clauses_lines (clause_then c cs) = clause_lines c ++ clauses_lines cs

abbrev pub block_lines : List Block → (b : ℕ) → List ℕ
block_lines blocks b = acts_lines (block_at blocks b).body
