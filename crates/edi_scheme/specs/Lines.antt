-- Words of contracts. The lines that a program keeps: each is below 65,536, so that a word holds it.
use Rattle.std.specs.Prelude.{ℕ, ◌<◌, ◌^◌, length}
use Rattle.edi_unit.specs.Tree.{Expression, constant, load, not_of, sign_of, chain, make, convert, apply_of, Expressions, no_expression, expression_then}
use Rattle.edi_unit.specs.Tree.{link, Links, no_link, link_then, Place, place, Part, field, index, Parts, no_part, part_then, Argument, by_value}
use Rattle.edi_unit.specs.Tree.{by_variable, by_procedure, Arguments, no_argument, argument_then, Act, skip, assign, call, halt, if_act, while_act, when_act}
use Rattle.edi_unit.specs.Tree.{cobegin, Acts, no_act, act_then, Clause, clause, Clauses, no_clause, clause_then, ProgramUnit}
use Rattle.edi_unit.specs.Need.{block_at}

abbrev pub IsLine : ℕ → Type 0
IsLine line = line < 2 ^ 16

abbrev mutual
  pub ExpressionLines : Expression → Type 0
  ExpressionLines (constant t n) = Unit {0}
  ExpressionLines (load p) = PlaceLines p
  ExpressionLines (not_of e) = ExpressionLines e
  ExpressionLines (sign_of e line) = IsLine line × ExpressionLines e
  ExpressionLines (chain e ls) = ExpressionLines e × LinksLines ls
  ExpressionLines (make t es line) = IsLine line × ExpressionsLines es
  ExpressionLines (convert t e line) = IsLine line × ExpressionLines e
  ExpressionLines (apply_of c xs line) = IsLine line × ArgumentsLines xs

  pub ExpressionsLines : Expressions → Type 0
  ExpressionsLines no_expression = Unit {0}
  ExpressionsLines (expression_then e es) = ExpressionLines e × ExpressionsLines es

  pub LinksLines : Links → Type 0
  LinksLines no_link = Unit {0}
  LinksLines (link_then (link o e line) ls) = IsLine line × ExpressionLines e × LinksLines ls

  pub PlaceLines : Place → Type 0
  PlaceLines (place levels v ps) = PartsLines ps

  pub PartLines : Part → Type 0
  PartLines (field n) = Unit {0}
  PartLines (index e line) = IsLine line × ExpressionLines e

  pub PartsLines : Parts → Type 0
  PartsLines no_part = Unit {0}
  PartsLines (part_then p ps) = PartLines p × PartsLines ps

  pub ArgumentLines : Argument → Type 0
  ArgumentLines (by_value e) = ExpressionLines e
  ArgumentLines (by_variable p) = PlaceLines p
  ArgumentLines (by_procedure c) = Unit {0}

  pub ArgumentsLines : Arguments → Type 0
  ArgumentsLines no_argument = Unit {0}
  ArgumentsLines (argument_then x xs) = ArgumentLines x × ArgumentsLines xs

abbrev mutual
  pub ActLines : Act → Type 0
  ActLines skip = Unit {0}
  ActLines (assign p e) = PlaceLines p × ExpressionLines e
  ActLines (call c xs line) = IsLine line × ArgumentsLines xs
  ActLines (halt line) = IsLine line
  ActLines (if_act cs) = ClausesLines cs
  ActLines (while_act cs) = ClausesLines cs
  ActLines (when_act cs line) = IsLine line × ClausesLines cs
  ActLines (cobegin bs line) = IsLine line

  pub ActsLines : Acts → Type 0
  ActsLines no_act = Unit {0}
  ActsLines (act_then a s) = ActLines a × ActsLines s

  pub ClauseLines : Clause → Type 0
  ClauseLines (clause e s) = ExpressionLines e × ActsLines s

  pub ClausesLines : Clauses → Type 0
  ClausesLines no_clause = Unit {0}
  ClausesLines (clause_then c cs) = ClauseLines c × ClausesLines cs

-- in each block of a unit
abbrev pub UnitLines : ProgramUnit → Type 0
UnitLines unit = (n : ℕ) → n < length unit.blocks → ActsLines (block_at unit.blocks n).body
