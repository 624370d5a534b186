-- How many rules and ends of levels a predictive parser takes before it comes to a symbol: less after each of them.
use Rattle.std.proofs.Common.{◌≡◌, ℕ, suc, ◌+◌, ◌<◌, List, [], ◌∷◌, ◌++◌, Bool, true, false, refl, sym, subst, arith}
use Rattle.std.specs.Prelude.{if◌then◌else◌}
use Rattle.edi_grammar.specs.Grammar.{Part, token, level_end, part}
use Rattle.edi_grammar.specs.Parser.{null_of}
use Rattle.edi_grammar.specs.Edison.{edison, null}
use Rattle.edi_grammar.specs.Rules.{Sort}
use Rattle.edi_grammar.specs.Rules.{Program, Globals, Global, ConstList, ConstDecls, ConstDecl, Constant, Code, TypeDecl, Names, Group}
use Rattle.edi_grammar.specs.Rules.{Groups, VarList, Head, Params, MoreParams, Result, Param, Procedure, Item, Module, Member}
use Rattle.edi_grammar.specs.Rules.{Members, Declaration, Declarations, StatementList, Statements, Statement, After, Args, Exprs, Selectors, Selector}
use Rattle.edi_grammar.specs.Rules.{Conditions, Condition, Else, Branch, Branches, Expr, Comparison, Relation, Simple, Sign, Addends}
use Rattle.edi_grammar.specs.Rules.{Addend, Addition, Term, Multipliers, Multiplier, Multiplication, Factor, Behind}

-- one more than each rule of the part takes
abbrev pub weight : Sort → ℕ
weight Program = 5
weight Globals = 3
weight Global = 2
weight ConstList = 1
weight ConstDecls = 1
weight ConstDecl = 1
weight Constant = 1
weight Code = 1
weight TypeDecl = 1
weight Names = 1
weight Group = 1
weight Groups = 1
weight VarList = 1
weight Head = 1
weight Params = 1
weight MoreParams = 1
weight Result = 1
weight Param = 2
weight Procedure = 1
weight Item = 2
weight Module = 1
weight Member = 3
weight Members = 4
weight Declaration = 3
weight Declarations = 4
weight StatementList = 2
weight Statements = 1
weight Statement = 1
weight After = 3
weight Args = 1
weight Exprs = 1
weight Selectors = 2
weight Selector = 1
weight Conditions = 7
weight Condition = 6
weight Else = 1
weight Branch = 2
weight Branches = 1
weight Expr = 5
weight Comparison = 2
weight Relation = 1
weight Simple = 4
weight Sign = 1
weight Addends = 3
weight Addend = 2
weight Addition = 1
weight Term = 2
weight Multipliers = 3
weight Multiplier = 2
weight Multiplication = 1
weight Factor = 1
weight Behind = 3

abbrev pub cost : List (Part Sort) → ℕ
cost [] = 0
cost (token a ∷ x) = 0
cost (level_end ∷ x) = suc (cost x)
cost (part k ∷ x) = weight k + (if null k then cost x else 0)

with_part : (k : Sort) (w one : ℕ) (rest more : ℕ) (b c : Bool) → rest ≡ one + (if c then more else 0)
    → w + (if b then rest else 0) ≡ (w + (if b then one else 0)) + (if (if b then c else false) then more else 0)
with_part k w one rest more true true e = omega (arith, e)
with_part k w one rest more true false e = omega (arith, e)
with_part k w one rest more false c e = omega arith

pub cost_both : (rule x : List (Part Sort)) → cost (rule ++ x) ≡ cost rule + (if null_of edison rule then cost x else 0)
cost_both [] x = let same : cost x ≡ 0 + cost x = omega arith in same
cost_both (token a ∷ rule) x = refl
cost_both (level_end ∷ rule) x =
    let more = cost_both rule x in
    let same : suc (cost (rule ++ x)) ≡ suc (cost rule) + (if null_of edison rule then cost x else 0) = omega (arith, more) in same
cost_both (part k ∷ rule) x = with_part k (weight k) (cost rule) (cost (rule ++ x)) (cost x) (null k) (null_of edison rule) (cost_both rule x)

less_with : (one w more : ℕ) (b c : Bool) → one < w → (if b then c else true) ≡ true → one + (if b then more else 0) < w + (if c then more else 0)
less_with one w more true true less h = omega (arith, less)
less_with one w more true false less h = absurd (cc)
less_with one w more false true less h = omega (arith, less)
less_with one w more false false less h = omega (arith, less)

pub falls : (k : Sort) (rule x : List (Part Sort)) → cost rule < weight k → (if null_of edison rule then null k else true) ≡ true
    → cost (rule ++ x) < cost (part k ∷ x)
falls k rule x less h =
    subst (λ n. n < cost (part k ∷ x)) (sym (cost_both rule x)) (less_with (cost rule) (weight k) (cost x) (null_of edison rule) (null k) less h)
