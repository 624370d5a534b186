-- The rules of Edison's grammar lead down to a symbol: no part begins with itself, and no rule has the end of the text.
use Rattle.std.proofs.Common.{◌≡◌, ℕ, zero, suc, List, [], ◌∷◌, Bool, true, false, Some, refl, if◌then◌else◌}
use Rattle.std.specs.Prelude.{nat_lt}
use Rattle.edi_grammar.specs.Grammar.{Part, token, level_end, part, rule_no}
use Rattle.edi_grammar.specs.Fair.{both}
use Rattle.edi_grammar.specs.Rules.{Sort, Program, Globals, Global, ConstList, ConstDecls, ConstDecl, Constant, Code, TypeDecl, Names, Group, Groups}
use Rattle.edi_grammar.specs.Rules.{VarList, Head, Params, MoreParams, Result, Param, Procedure, Item, Module, Member, Members, Declaration, Declarations}
use Rattle.edi_grammar.specs.Rules.{StatementList, Statements, Statement, After, Args, Exprs, Selectors, Selector, Conditions, Condition, Else, Branch}
use Rattle.edi_grammar.specs.Rules.{Branches, Expr, Comparison, Relation, Simple, Sign, Addends, Addend, Addition, Term, Multipliers, Multiplier}
use Rattle.edi_grammar.specs.Rules.{Multiplication, Factor, Behind, rules}
use Rattle.edi_grammar.specs.Edison.{null}

pub left : (a b : Bool) → both a b ≡ true → a ≡ true
left true b e = refl
left false b e = e

pub right : (a b : Bool) → both a b ≡ true → b ≡ true
right true b e = e
right false b e = cc

-- a number that falls from each part to those with which it may begin
abbrev pub height : Sort → ℕ
height Program = 4
height Globals = 3
height Global = 2
height Param = 1
height Item = 1
height Member = 2
height Members = 3
height Declaration = 2
height Declarations = 3
height StatementList = 1
height After = 2
height Selectors = 1
height Conditions = 6
height Condition = 5
height Branch = 1
height Expr = 4
height Comparison = 1
height Simple = 3
height Addends = 2
height Addend = 1
height Term = 2
height Multipliers = 2
height Multiplier = 1
height Behind = 2
height k = 0

-- the parts with which these may begin are lower than r
abbrev pub falls : ℕ → List (Part Sort) → Bool
falls r [] = true
falls r (token a ∷ x) = true
falls r (level_end ∷ x) = falls r x
falls r (part k ∷ x) = both (nat_lt (height k) r) (if null k then falls r x else true)

-- none of them is the end of the text
abbrev pub is_inner : List (Part Sort) → Bool
is_inner [] = true
is_inner (token zero ∷ x) = false
is_inner (token (suc a) ∷ x) = is_inner x
is_inner (level_end ∷ x) = is_inner x
is_inner (part k ∷ x) = is_inner x

abbrev pub each_falls : ℕ → List (List (Part Sort)) → Bool
each_falls r [] = true
each_falls r (rule ∷ more) = both (both (falls r rule) (is_inner rule)) (each_falls r more)

abbrev pub has_rule : List (List (Part Sort)) → Bool
has_rule [] = false
has_rule (rule ∷ more) = true

abbrev pub leads_down : Sort → Bool
leads_down k = both (has_rule (rules k)) (each_falls (height k) (rules k))

pub every_part : (k : Sort) → leads_down k ≡ true
every_part Program = refl
every_part Globals = refl
every_part Global = refl
every_part ConstList = refl
every_part ConstDecls = refl
every_part ConstDecl = refl
every_part Constant = refl
every_part Code = refl
every_part TypeDecl = refl
every_part Names = refl
every_part Group = refl
every_part Groups = refl
every_part VarList = refl
every_part Head = refl
every_part Params = refl
every_part MoreParams = refl
every_part Result = refl
every_part Param = refl
every_part Procedure = refl
every_part Item = refl
every_part Module = refl
every_part Member = refl
every_part Members = refl
every_part Declaration = refl
every_part Declarations = refl
every_part StatementList = refl
every_part Statements = refl
every_part Statement = refl
every_part After = refl
every_part Args = refl
every_part Exprs = refl
every_part Selectors = refl
every_part Selector = refl
every_part Conditions = refl
every_part Condition = refl
every_part Else = refl
every_part Branch = refl
every_part Branches = refl
every_part Expr = refl
every_part Comparison = refl
every_part Relation = refl
every_part Simple = refl
every_part Sign = refl
every_part Addends = refl
every_part Addend = refl
every_part Addition = refl
every_part Term = refl
every_part Multipliers = refl
every_part Multiplier = refl
every_part Multiplication = refl
every_part Factor = refl
every_part Behind = refl

-- each rule of a list that was tested
pub rule_falls : (r : ℕ) (more : List (List (Part Sort))) (i : ℕ) (rule : List (Part Sort)) → each_falls r more ≡ true → rule_no more i ≡ Some rule
    → both (falls r rule) (is_inner rule) ≡ true
rule_falls r [] i rule e h = cc
rule_falls r (first ∷ more) zero rule e h = let same : first ≡ rule = cc in rw (← same) (left _ _ e)
rule_falls r (first ∷ more) (suc i) rule e h = rule_falls r more i rule (right _ _ e) h
