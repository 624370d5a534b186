-- The claims for all constructs, from the lemmas for each: one walk over the tree, and one induction over levels.
use Rattle.std.proofs.Common.{ℕ, zero, suc, arith}
use Rattle.edi_unit.specs.Tree as tree
use Rattle.edi_unit.specs.Tree.{Expression, Expressions, Link, Links, Place, Part, Parts, Argument, Arguments, Act, Acts, Clause, Clauses}
use Rattle.edi_meaning.specs.Evaluation.{World, Evaluation}
use Rattle.edi_meaning.specs.Whole.{levels_of}
use Rattle.edi_follows.specs.places.Coded.{Coded}
use Rattle.edi_follows.specs.places.Scene.{Scene}
use Rattle.edi_follows.specs.places.Claims.{FunctionClaim, ProcedureClaim, AssignClaim, DeeperClaim, RunClaim}
use Rattle.edi_follows.specs.places.Constructs.{E, Es, Ms, Ls, P, Ps, Xs, A, As, Cs, Operands, Places, Actions, Constructs}

module _ (g : Coded) (s : Scene) (all : Constructs g s) (deeper : Acts → World → Evaluation (Unit {0})) (bound : ℕ) (deep : DeeperClaim g s deeper bound) where
  abbrev o : Operands g s deeper bound
  o = all.operands deeper bound

  abbrev p : Places g s deeper bound
  p = all.places deeper bound

  abbrev st : Actions g s deeper bound
  st = all.statements deeper bound

  function : FunctionClaim g s deeper bound
  function = (all.calls deeper bound).function deep

  pub procedure : ProcedureClaim g s deeper bound
  procedure = (all.calls deeper bound).procedure deep

  mutual
    pub expression_does : (e : Expression) → E g s deeper bound e
    expression_does (tree.constant of n) = o.constant of n
    expression_does (tree.load v) = p.load v (place_does v)
    expression_does (tree.not_of e) = o.not_of e (expression_does e)
    expression_does (tree.sign_of e line) = o.sign_of e line (expression_does e)
    expression_does (tree.chain e ls) = o.chain e ls (expression_does e) (links_do ls)
    expression_does (tree.make of es line) = o.make of es line (expressions_do es) (members_do es)
    expression_does (tree.convert of e line) = o.convert of e line (expression_does e)
    expression_does (tree.apply_of c xs line) = st.apply_of c xs line (arguments_do xs) function

    expressions_do : (es : Expressions) → Es g s deeper bound es
    expressions_do tree.no_expression = o.no_expression
    expressions_do (tree.expression_then e es) = o.expression_then e es (expression_does e) (expressions_do es)

    members_do : (es : Expressions) → Ms g s deeper bound es
    members_do tree.no_expression = o.no_member
    members_do (tree.expression_then e es) = o.member_then e es (expression_does e) (members_do es)

    links_do : (ls : Links) → Ls g s deeper bound ls
    links_do tree.no_link = o.no_link
    links_do (tree.link_then (tree.link op e line) ls) = o.link_then op e line ls (expression_does e) (links_do ls)

    pub place_does : (v : Place) → P g s deeper bound v
    place_does (tree.place levels v ps) = p.place levels v ps (parts_do ps)

    parts_do : (ps : Parts) → Ps g s deeper bound ps
    parts_do tree.no_part = p.no_part
    parts_do (tree.part_then (tree.field n) ps) = p.field_then n ps (parts_do ps)
    parts_do (tree.part_then (tree.index e line) ps) = p.index_then e line ps (expression_does e) (parts_do ps)

    pub arguments_do : (xs : Arguments) → Xs g s deeper bound xs
    arguments_do tree.no_argument = p.no_argument
    arguments_do (tree.argument_then (tree.by_value e) xs) = p.value_then e xs (expression_does e) (arguments_do xs)
    arguments_do (tree.argument_then (tree.by_variable v) xs) = p.variable_then v xs (place_does v) (arguments_do xs)
    arguments_do (tree.argument_then (tree.by_procedure c) xs) = p.procedure_then c xs (arguments_do xs)

  pub assign_does : AssignClaim g s deeper bound
  assign_does v e = p.assign v e (place_does v) (expression_does e)

  mutual
    act_does : (a : Act) → A g s deeper bound a
    act_does tree.skip = st.skip
    act_does (tree.assign v e) = st.assigned v e (assign_does v e)
    act_does (tree.call c xs line) = st.call c xs line (arguments_do xs) procedure
    act_does (tree.halt line) = st.halt line
    act_does (tree.if_act cs) = st.if_act cs (first_does cs)
    act_does (tree.while_act cs) = st.while_act cs (first_does cs) deep
    act_does (tree.when_act cs line) = st.when_act cs line
    act_does (tree.cobegin bs line) = st.cobegin bs line

    pub acts_do : (as' : Acts) → As g s deeper bound as'
    acts_do tree.no_act = st.no_act
    acts_do (tree.act_then a as') = st.act_then a as' (act_does a) (acts_do as')

    pub first_does : (cs : Clauses) → Cs g s deeper bound cs
    first_does tree.no_clause = st.no_clause
    first_does (tree.clause_then (tree.clause e as') cs) = st.clause_then e as' cs (expression_does e) (acts_do as') (first_does cs)

-- each level does what it means
pub run_does : (g : Coded) (s : Scene) → Constructs g s → RunClaim g s
run_does g s all zero as' F pc to t held w m less = absurd (omega (arith, less))
run_does g s all (suc n) as' F pc to t held w m less = acts_do g s all (levels_of g.unit s.name (s.size s.name) n) n
    (run_does g s all n) as' F pc to t held w m (omega (arith, less))
