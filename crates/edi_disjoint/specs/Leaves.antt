-- Words of contracts. What may stand in a text: what is asked of its variables, calls, procedures that are passed on and forks, and of arguments beside their cells.
use Rattle.std.specs.Prelude.{⊤, ℕ, List, [], ◌∷◌}
use Rattle.edi_unit.specs.declared.expressions.Callee.{Callee}
use Rattle.edi_unit.specs.Tree as tree
use Rattle.edi_unit.specs.Tree.{Expression, Expressions, Link, Links, Place, Part, Parts, Argument, Arguments, Act, Acts, Clause, Clauses}
use Rattle.edi_meaning.specs.Store.{Cell}

-- what is done with a variable of the text
pub data Way : Type 0 where
  reads : Way
  assigns : Way
  lends : Way

-- what is true of the variables, the calls, the procedures that are passed on and the forks in a text
pub record Leaves : Type 1 where
  pub Names : Way → (levels variable : ℕ) → Type 0
  pub Calls : Callee → Arguments → Type 0
  pub Passes : Callee → Type 0
  pub Forks : List ℕ → Type 0

module _ (t : Leaves) where
  abbrev mutual
    pub ExpressionMay : Expression → Type 0
    ExpressionMay (tree.constant of n) = ⊤
    ExpressionMay (tree.load v) = PlaceMay reads v
    ExpressionMay (tree.not_of e) = ExpressionMay e
    ExpressionMay (tree.sign_of e line) = ExpressionMay e
    ExpressionMay (tree.chain e ls) = ExpressionMay e × LinksMay ls
    ExpressionMay (tree.make of es line) = ExpressionsMay es
    ExpressionMay (tree.convert of e line) = ExpressionMay e
    ExpressionMay (tree.apply_of c xs line) = t.Calls c xs × ArgumentsMay xs

    pub ExpressionsMay : Expressions → Type 0
    ExpressionsMay tree.no_expression = ⊤
    ExpressionsMay (tree.expression_then e es) = ExpressionMay e × ExpressionsMay es

    pub LinksMay : Links → Type 0
    LinksMay tree.no_link = ⊤
    LinksMay (tree.link_then l ls) = LinkMay l × LinksMay ls

    pub LinkMay : Link → Type 0
    LinkMay (tree.link o e line) = ExpressionMay e

    pub PlaceMay : Way → Place → Type 0
    PlaceMay way (tree.place levels variable ps) = t.Names way levels variable × PartsMay ps

    pub PartsMay : Parts → Type 0
    PartsMay tree.no_part = ⊤
    PartsMay (tree.part_then q qs) = PartMay q × PartsMay qs

    pub PartMay : Part → Type 0
    PartMay (tree.field n) = ⊤
    PartMay (tree.index e line) = ExpressionMay e

    pub ArgumentMay : Argument → Type 0
    ArgumentMay (tree.by_value e) = ExpressionMay e
    ArgumentMay (tree.by_variable v) = PlaceMay lends v
    ArgumentMay (tree.by_procedure c) = t.Passes c

    pub ArgumentsMay : Arguments → Type 0
    ArgumentsMay tree.no_argument = ⊤
    ArgumentsMay (tree.argument_then a as') = ArgumentMay a × ArgumentsMay as'

  abbrev mutual
    pub ActMay : Act → Type 0
    ActMay tree.skip = ⊤
    ActMay (tree.assign v e) = PlaceMay assigns v × ExpressionMay e
    ActMay (tree.call c xs line) = t.Calls c xs × ArgumentsMay xs
    ActMay (tree.halt line) = ⊤
    ActMay (tree.if_act cs) = ClausesMay cs
    ActMay (tree.while_act cs) = ClausesMay cs
    ActMay (tree.when_act cs line) = ClausesMay cs
    ActMay (tree.cobegin bs line) = t.Forks bs

    pub ActsMay : Acts → Type 0
    ActsMay tree.no_act = ⊤
    ActsMay (tree.act_then a as') = ActMay a × ActsMay as'

    pub ClauseMay : Clause → Type 0
    ClauseMay (tree.clause e as') = ExpressionMay e × ActsMay as'

    pub ClausesMay : Clauses → Type 0
    ClausesMay tree.no_clause = ⊤
    ClausesMay (tree.clause_then c cs) = ClauseMay c × ClausesMay cs

-- R of each argument and its cell, which are as many
abbrev pub Each : (Argument → Cell → Type 0) → Arguments → List Cell → Type 0
Each R tree.no_argument [] = ⊤
Each R tree.no_argument (c ∷ cs) = ⊥
Each R (tree.argument_then a as') [] = ⊥
Each R (tree.argument_then a as') (c ∷ cs) = R a c × Each R as' cs
