-- Helper. THE INTERFACE of the constructs: a lemma for each, which takes the claims for its parts.
use Rattle.std.specs.Prelude.{ℕ, ℤ, List}
use Rattle.edi_unit.specs.declared.expressions.Callee.{Callee}
use Rattle.edi_unit.specs.declared.expressions.Operator.{Operator}
use Rattle.edi_unit.specs.Values.{Value}
use Rattle.edi_unit.specs.Tree as tree
use Rattle.edi_unit.specs.Tree.{Expression, Expressions, Links, Place, Parts, Argument, Arguments, Act, Acts, Clauses}
use Rattle.edi_unit.specs.Headings.{Formals}
use Rattle.edi_meaning.specs.Evaluation.{World, Evaluation}
use Rattle.edi_meaning.specs.Whole.{Designated}
use Rattle.edi_scheme.specs.Pieces.{ClauseKind}
use Rattle.edi_follows.specs.places.Coded.{Coded}
use Rattle.edi_follows.specs.places.Scene.{Scene}
use Rattle.edi_follows.specs.places.Claims.{ExpressionAt, ExpressionsAt, MembersAt, LinksAt, PlaceAt, PartsAt, ArgumentsAt, FunctionClaim, ProcedureClaim, AssignAt}
use Rattle.edi_follows.specs.places.Claims.{ActAt, ActsAt, FirstAt, DeeperClaim}

module _ (g : Coded) (s : Scene) (deeper : Acts → World → Evaluation (Unit {0})) (bound : ℕ) where
  abbrev pub E : Expression → Type 0
  E e = ExpressionAt g s deeper bound e

  abbrev pub Es : Expressions → Type 0
  Es es = (of : List ℕ) → ExpressionsAt g s deeper bound es of

  abbrev pub Ms : Expressions → Type 0
  Ms es = (base line : ℕ) (set : List ℕ) → MembersAt g s deeper bound es base line set

  abbrev pub Ls : Links → Type 0
  Ls ls = (of : ℕ) (v : Value) → LinksAt g s deeper bound ls of v

  abbrev pub P : Place → Type 0
  P v = PlaceAt g s deeper bound v

  abbrev pub Ps : Parts → Type 0
  Ps ps = (d : Designated) (of : ℕ) → PartsAt g s deeper bound ps d of

  abbrev pub Xs : Arguments → Type 0
  Xs xs = (formals : Formals) → ArgumentsAt g s deeper bound xs formals

  abbrev pub A : Act → Type 0
  A a = ActAt g s deeper bound a

  abbrev pub As : Acts → Type 0
  As as' = ActsAt g s deeper bound as'

  abbrev pub Cs : Clauses → Type 0
  Cs cs = (kind : ClauseKind) (target : ℕ) → FirstAt g s deeper bound cs kind target

  -- the operands
  pub record Operands : Type 0 where
    pub constant : (of : ℕ) (n : ℤ) → E (tree.constant of n)
    pub not_of : (e : Expression) → E e → E (tree.not_of e)
    pub sign_of : (e : Expression) (line : ℕ) → E e → E (tree.sign_of e line)
    pub chain : (e : Expression) (ls : Links) → E e → Ls ls → E (tree.chain e ls)
    pub make : (of : ℕ) (es : Expressions) (line : ℕ) → Es es → Ms es → E (tree.make of es line)
    pub convert : (of : ℕ) (e : Expression) (line : ℕ) → E e → E (tree.convert of e line)
    pub no_expression : Es tree.no_expression
    pub expression_then : (e : Expression) (es : Expressions) → E e → Es es → Es (tree.expression_then e es)
    pub no_member : Ms tree.no_expression
    pub member_then : (e : Expression) (es : Expressions) → E e → Ms es → Ms (tree.expression_then e es)
    pub no_link : Ls tree.no_link
    pub link_then : (o : Operator) (e : Expression) (line : ℕ) (ls : Links) → E e → Ls ls → Ls (tree.link_then (tree.link o e line) ls)

  -- the places and what is passed
  pub record Places : Type 0 where
    pub load : (v : Place) → P v → E (tree.load v)
    pub place : (levels v : ℕ) (ps : Parts) → Ps ps → P (tree.place levels v ps)
    pub no_part : Ps tree.no_part
    pub field_then : (n : ℕ) (ps : Parts) → Ps ps → Ps (tree.part_then (tree.field n) ps)
    pub index_then : (e : Expression) (line : ℕ) (ps : Parts) → E e → Ps ps → Ps (tree.part_then (tree.index e line) ps)
    pub no_argument : Xs tree.no_argument
    pub value_then : (e : Expression) (xs : Arguments) → E e → Xs xs → Xs (tree.argument_then (tree.by_value e) xs)
    pub variable_then : (v : Place) (xs : Arguments) → P v → Xs xs → Xs (tree.argument_then (tree.by_variable v) xs)
    pub procedure_then : (c : Callee) (xs : Arguments) → Xs xs → Xs (tree.argument_then (tree.by_procedure c) xs)
    pub assign : (v : Place) (e : Expression) → P v → E e → AssignAt g s deeper bound v e

  -- the calls, of blocks and of the system
  pub record Calls : Type 0 where
    pub function : DeeperClaim g s deeper bound → FunctionClaim g s deeper bound
    pub procedure : DeeperClaim g s deeper bound → ProcedureClaim g s deeper bound

  -- the statements of functions and critical phases
  pub record Actions : Type 0 where
    pub apply_of : (c : Callee) (xs : Arguments) (line : ℕ) → Xs xs → FunctionClaim g s deeper bound → E (tree.apply_of c xs line)
    pub skip : A tree.skip
    pub assigned : (v : Place) (e : Expression) → AssignAt g s deeper bound v e → A (tree.assign v e)
    pub call : (c : Callee) (xs : Arguments) (line : ℕ) → Xs xs → ProcedureClaim g s deeper bound → A (tree.call c xs line)
    pub halt : (line : ℕ) → A (tree.halt line)
    pub if_act : (cs : Clauses) → Cs cs → A (tree.if_act cs)
    pub while_act : (cs : Clauses) → Cs cs → DeeperClaim g s deeper bound → A (tree.while_act cs)
    pub when_act : (cs : Clauses) (line : ℕ) → A (tree.when_act cs line)
    pub cobegin : (bs : List ℕ) (line : ℕ) → A (tree.cobegin bs line)
    pub no_act : As tree.no_act
    pub act_then : (a : Act) (as' : Acts) → A a → As as' → As (tree.act_then a as')
    pub no_clause : Cs tree.no_clause
    pub clause_then : (e : Expression) (as' : Acts) (cs : Clauses) → E e → As as' → Cs cs → Cs (tree.clause_then (tree.clause e as') cs)

-- all constructs, whatever stands deeper
pub record Constructs (g : Coded) (s : Scene) : Type 0 where
  pub operands : (deeper : Acts → World → Evaluation (Unit {0})) (bound : ℕ) → Operands g s deeper bound
  pub places : (deeper : Acts → World → Evaluation (Unit {0})) (bound : ℕ) → Places g s deeper bound
  pub calls : (deeper : Acts → World → Evaluation (Unit {0})) (bound : ℕ) → Calls g s deeper bound
  pub statements : (deeper : Acts → World → Evaluation (Unit {0})) (bound : ℕ) → Actions g s deeper bound
