-- Helper. What a predictive parser waits for, in numbers: 0 is the end of a level, 1 to 50 are symbols of these kinds, and the parts of the grammar
-- come after them. Such numbers stand with what is waited for last in front. No public contract cites these.
use Rattle.std.specs.Prelude.{ℕ, suc, ◌+◌, ◌-◌, ◌==◌, nat_le, List, [], ◌∷◌, ◌++◌, slice_index_or, if◌then◌else◌}
use Rattle.edi_grammar.specs.Grammar.{Part, token, level_end, part, opened}
use Rattle.edi_grammar.specs.Parser.{selects}
use Rattle.edi_grammar.specs.Kinds as kind
use Rattle.edi_grammar.specs.Edison.{edison}
use Rattle.edi_explain.specs.expected.Numbered.{Row, taken_at}
use Rattle.edi_explain.specs.told.Groups.{is_among}
use Rattle.edi_grammar.specs.Rules.{Sort}
use Rattle.edi_grammar.specs.Rules.{Program, Globals, Global, ConstList, ConstDecls, ConstDecl, Constant, Code, TypeDecl, Names, Group}
use Rattle.edi_grammar.specs.Rules.{Groups, VarList, Head, Params, MoreParams, Result, Param, Procedure, Item, Module, Member}
use Rattle.edi_grammar.specs.Rules.{Members, Declaration, Declarations, StatementList, Statements, Statement, After, Args, Exprs, Selectors, Selector}
use Rattle.edi_grammar.specs.Rules.{Conditions, Condition, Else, Branch, Branches, Expr, Comparison, Relation, Simple, Sign, Addends}
use Rattle.edi_grammar.specs.Rules.{Addend, Addition, Term, Multipliers, Multiplier, Multiplication, Factor, Behind}

-- THE PARTS OF THE GRAMMAR, in their order
abbrev pub sorts : List Sort
sorts =
    Program ∷ Globals ∷ Global ∷ ConstList ∷ ConstDecls ∷ ConstDecl ∷ Constant ∷ Code ∷ TypeDecl ∷ Names
    ∷ Group ∷ Groups ∷ VarList ∷ Head ∷ Params ∷ MoreParams ∷ Result ∷ Param ∷ Procedure ∷ Item
    ∷ Module ∷ Member ∷ Members ∷ Declaration ∷ Declarations ∷ StatementList ∷ Statements ∷ Statement ∷ After ∷ Args
    ∷ Exprs ∷ Selectors ∷ Selector ∷ Conditions ∷ Condition ∷ Else ∷ Branch ∷ Branches ∷ Expr ∷ Comparison
    ∷ Relation ∷ Simple ∷ Sign ∷ Addends ∷ Addend ∷ Addition ∷ Term ∷ Multipliers ∷ Multiplier ∷ Multiplication
    ∷ Factor ∷ Behind
    ∷ []

abbrev pub number_in : Sort → ℕ
number_in Program = 0
number_in Globals = 1
number_in Global = 2
number_in ConstList = 3
number_in ConstDecls = 4
number_in ConstDecl = 5
number_in Constant = 6
number_in Code = 7
number_in TypeDecl = 8
number_in Names = 9
number_in Group = 10
number_in Groups = 11
number_in VarList = 12
number_in Head = 13
number_in Params = 14
number_in MoreParams = 15
number_in Result = 16
number_in Param = 17
number_in Procedure = 18
number_in Item = 19
number_in Module = 20
number_in Member = 21
number_in Members = 22
number_in Declaration = 23
number_in Declarations = 24
number_in StatementList = 25
number_in Statements = 26
number_in Statement = 27
number_in After = 28
number_in Args = 29
number_in Exprs = 30
number_in Selectors = 31
number_in Selector = 32
number_in Conditions = 33
number_in Condition = 34
number_in Else = 35
number_in Branch = 36
number_in Branches = 37
number_in Expr = 38
number_in Comparison = 39
number_in Relation = 40
number_in Simple = 41
number_in Sign = 42
number_in Addends = 43
number_in Addend = 44
number_in Addition = 45
number_in Term = 46
number_in Multipliers = 47
number_in Multiplier = 48
number_in Multiplication = 49
number_in Factor = 50
number_in Behind = 51

-- the number of the first part
abbrev pub first_part : ℕ
first_part = 51

-- ---- numbers and what they stand for

abbrev pub sort_no : ℕ → Sort
sort_no n = slice_index_or sorts n Program

abbrev pub part_no : ℕ → Part Sort
part_no n = if n == 0 then level_end else if nat_le n 50 then token n else part (sort_no (n - first_part))

abbrev pub number_of : Part Sort → ℕ
number_of level_end = 0
number_of (token a) = a
number_of (part k) = number_in k + first_part

-- these, and then those
abbrev pub waits_on : List ℕ → List (Part Sort) → List (Part Sort)
waits_on [] x = x
waits_on (n ∷ numbers) x = waits_on numbers (part_no n ∷ x)

-- these, and then the end of the text
abbrev pub waits : List ℕ → List (Part Sort)
waits numbers = waits_on numbers (token kind.End_of_text ∷ [])

abbrev pub in_numbers : List (Part Sort) → List ℕ
in_numbers [] = []
in_numbers (p ∷ rule) = in_numbers rule ++ number_of p ∷ []

-- ---- the rules: each with the kinds before which it is taken; the last one is taken where none of the others is

abbrev pub rows_from : Sort → List (List (Part Sort)) → List Row
rows_from k [] = []
rows_from k (rule ∷ []) = ([], in_numbers rule) ∷ []
rows_from k (rule ∷ other ∷ more) = (selects edison k rule, in_numbers rule) ∷ rows_from k (other ∷ more)

abbrev pub rows_of : Sort → List Row
rows_of k = rows_from k (edison.rules k)

-- the rule that is taken before a symbol of this kind, else the last one
abbrev pub taken_from : (last : List ℕ) → List Row → ℕ → List ℕ
taken_from last [] a = last
taken_from last (row ∷ rows) a = if is_among a row.0 then row.1 else taken_from row.1 rows a

-- these after the number in front of them has given way: the end of a level to nothing, a part to its rule
abbrev pub gives_way : (numbers : List ℕ) → (number a : ℕ) → List ℕ
gives_way numbers number a = if number == 0 then numbers else numbers ++ taken_at (number - first_part) a

-- ---- levels

-- how many levels end, with one number more in front
abbrev pub level_with : ℕ → ℕ → ℕ
level_with n levels = if n == 0 then suc levels else if nat_le n 50 then levels - opened edison n else levels

abbrev pub levels_on : List ℕ → ℕ → ℕ
levels_on [] levels = levels
levels_on (n ∷ numbers) levels = levels_on numbers (level_with n levels)

-- ---- ends of levels, which are never fewer than the levels that end

-- how many there are, with one number more
abbrev pub end_with : ℕ → ℕ → ℕ
end_with n ends = if n == 0 then suc ends else ends

abbrev pub ends_on : List ℕ → ℕ → ℕ
ends_on [] ends = ends
ends_on (n ∷ numbers) ends = ends_on numbers (end_with n ends)
