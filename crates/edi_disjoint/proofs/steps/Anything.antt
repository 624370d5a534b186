-- Where nothing is asked of the variables, calls and forks of a text, each text may stand.
use Rattle.std.specs.Prelude.{⊤}
use Rattle.edi_unit.specs.Tree as tree
use Rattle.edi_unit.specs.Tree.{Expression, Expressions, Link, Links, Place, Part, Parts, Argument, Arguments, Act, Acts, Clause, Clauses}
use Rattle.edi_disjoint.specs.Open.{open_act, open_clauses}
use Rattle.edi_disjoint.specs.Leaves.{Way, Leaves, ExpressionMay, ExpressionsMay, LinksMay, LinkMay, PlaceMay, PartsMay, PartMay}
use Rattle.edi_disjoint.specs.Leaves.{ArgumentMay, ArgumentsMay, ActMay, ActsMay, ClauseMay, ClausesMay}
use Rattle.edi_meaning.specs.Step.{Standing, ready, at_when, waiting, Work, doing, loop_end, procedure_end, branch_end, program_entry, program_end}
use Rattle.edi_disjoint.proofs.steps.Stepping.{WorkMay, StandingMay}
use Rattle.std.proofs.Common.{List, [], ◌∷◌}

abbrev pub anything : Leaves
anything = record { Names = λ way levels variable. ⊤; Calls = λ c es. ⊤; Passes = λ c. ⊤; Forks = λ bs. ⊤ }

mutual
  expression_may : (e : Expression) → ExpressionMay anything e
  expression_may (tree.constant of n) = tt
  expression_may (tree.load v) = place_may _ v
  expression_may (tree.not_of e) = expression_may e
  expression_may (tree.sign_of e line) = expression_may e
  expression_may (tree.chain e ls) = (expression_may e, links_may ls)
  expression_may (tree.make of es line) = expressions_may es
  expression_may (tree.convert of e line) = expression_may e
  expression_may (tree.apply_of c xs line) = (tt, arguments_may xs)

  expressions_may : (es : Expressions) → ExpressionsMay anything es
  expressions_may tree.no_expression = tt
  expressions_may (tree.expression_then e es) = (expression_may e, expressions_may es)

  links_may : (ls : Links) → LinksMay anything ls
  links_may tree.no_link = tt
  links_may (tree.link_then l ls) = (link_may l, links_may ls)

  link_may : (l : Link) → LinkMay anything l
  link_may (tree.link o e line) = expression_may e

  place_may : (way : Way) (v : Place) → PlaceMay anything way v
  place_may way (tree.place levels variable ps) = (tt, parts_may ps)

  parts_may : (ps : Parts) → PartsMay anything ps
  parts_may tree.no_part = tt
  parts_may (tree.part_then q qs) = (part_may q, parts_may qs)

  part_may : (q : Part) → PartMay anything q
  part_may (tree.field n) = tt
  part_may (tree.index e line) = expression_may e

  argument_may : (a : Argument) → ArgumentMay anything a
  argument_may (tree.by_value e) = expression_may e
  argument_may (tree.by_variable v) = place_may _ v
  argument_may (tree.by_procedure c) = tt

  arguments_may : (es : Arguments) → ArgumentsMay anything es
  arguments_may tree.no_argument = tt
  arguments_may (tree.argument_then a es) = (argument_may a, arguments_may es)

mutual
  act_may : (a : Act) → ActMay anything a
  act_may tree.skip = tt
  act_may (tree.assign v e) = (place_may _ v, expression_may e)
  act_may (tree.call c xs line) = (tt, arguments_may xs)
  act_may (tree.halt line) = tt
  act_may (tree.if_act cs) = clauses_may cs
  act_may (tree.while_act cs) = clauses_may cs
  act_may (tree.when_act cs line) = clauses_may cs
  act_may (tree.cobegin bs line) = tt

  pub acts_may : (as' : Acts) → ActsMay anything as'
  acts_may tree.no_act = tt
  acts_may (tree.act_then a as') = (act_may a, acts_may as')

  clause_may : (c : Clause) → ClauseMay anything c
  clause_may (tree.clause e as') = (expression_may e, acts_may as')

  clauses_may : (cs : Clauses) → ClausesMay anything cs
  clauses_may tree.no_clause = tt
  clauses_may (tree.clause_then c cs) = (clause_may c, clauses_may cs)

work_may : (work : List Work) → WorkMay ⊤ anything work
work_may [] = tt
work_may (doing a position ∷ work) = act_may (open_act a)
work_may (loop_end cs position ∷ work) = tt
work_may (procedure_end line ∷ work) = tt
work_may (branch_end ∷ work) = tt
work_may (program_entry ∷ work) = tt
work_may (program_end ∷ work) = tt

pub standing_may : (standing : Standing) (work : List Work) → StandingMay ⊤ anything standing work
standing_may ready work = work_may work
standing_may (at_when cs position) work = clauses_may (open_clauses cs)
standing_may (waiting n) work = tt
