-- Words of contracts. Lengths, codes and what can be written, in a scope.
use Rattle.std.specs.Prelude.{ℕ, ◌+◌, if◌then◌else◌, List, ◌∷◌, ◌++◌, map}
use Rattle.edi_unit.specs.declared.expressions.Callee.{Callee}
use Rattle.edi_unit.specs.declared.expressions.Operator.{Operator}
use Rattle.edi_unit.specs.Types.{shape_at, is_set_shape}
use Rattle.edi_unit.specs.Tree.{Expression, Expressions, Link, link, Links, Place, Part, Parts, Argument, Arguments, Act, Acts, Clause, Clauses}
use Rattle.edi_unit.specs.Need.{block_at}
use Rattle.edi_target.specs.Op as instruction
use Rattle.edi_target.specs.Op.{Branch, branch_words}
use Rattle.edi_scheme.specs.Pieces.{Code, ClauseKind, code_length, decision, operation, constant_words, row_code, row_length}
use Rattle.edi_scheme.specs.Lengths as scheme
use Rattle.edi_scheme.specs.Code as scheme_code
use Rattle.edi_code.specs.Writable as writable
use Rattle.edi_code.specs.Scope.{types_in, blocks_in, entry_in}
use Rattle.edi_code.specs.declared.scope.Scope.{Scope}

-- ---- lengths

abbrev pub expression_length : Scope → Expression → ℕ
expression_length s = scheme.expression_length (types_in s) (blocks_in s) s.block

abbrev pub expressions_length : Scope → Expressions → ℕ
expressions_length s = scheme.expressions_length (types_in s) (blocks_in s) s.block

abbrev pub members_length : Scope → Expressions → ℕ
members_length s = scheme.members_length (types_in s) (blocks_in s) s.block

abbrev pub links_length : Scope → ℕ → Links → ℕ
links_length s = scheme.links_length (types_in s) (blocks_in s) s.block

-- the operator of a link
abbrev pub operator_of : Link → Operator
operator_of (link o e line) = o

-- an operator with its right operand, behind a left operand of this type
abbrev pub link_length : Scope → ℕ → Link → ℕ
link_length s t (link o e line) =
    code_length (decision o 0) + expression_length s e + code_length (operation (types_in s) t o line)

abbrev pub place_length : Scope → Place → ℕ
place_length s = scheme.place_length (types_in s) (blocks_in s) s.block

abbrev pub parts_length : Scope → ℕ → Parts → ℕ
parts_length s = scheme.parts_length (types_in s) (blocks_in s) s.block

abbrev pub part_length : Scope → ℕ → Part → ℕ
part_length s = scheme.part_length (types_in s) (blocks_in s) s.block

abbrev pub argument_length : Scope → Argument → ℕ
argument_length s = scheme.argument_length (types_in s) (blocks_in s) s.block

abbrev pub arguments_length : Scope → Arguments → ℕ
arguments_length s = scheme.arguments_length (types_in s) (blocks_in s) s.block

abbrev pub act_length : Scope → Act → ℕ
act_length s = scheme.act_length (types_in s) (blocks_in s) s.block

abbrev pub acts_length : Scope → Acts → ℕ
acts_length s = scheme.acts_length (types_in s) (blocks_in s) s.block

abbrev pub clause_length : Scope → Clause → ℕ
clause_length s = scheme.clause_length (types_in s) (blocks_in s) s.block

abbrev pub clauses_length : Scope → ClauseKind → Clauses → ℕ
clauses_length s = scheme.clauses_length (types_in s) (blocks_in s) s.block

-- a record, an array or a set of this type, from these expressions
abbrev pub make_words : Scope → ℕ → Expressions → ℕ
make_words s t es =
    if is_set_shape (shape_at (types_in s) t) then 2 + members_length s es else row_length (constant_words es) (expressions_length s es)

-- ---- codes

abbrev pub slot_offset : Scope → (levels v : ℕ) → ℕ
slot_offset s = scheme_code.slot_offset (types_in s) (blocks_in s) (entry_in s) s.block

abbrev pub call_code : Scope → Callee → (line : ℕ) → Code
call_code s = scheme_code.call_code (types_in s) (blocks_in s) (entry_in s) s.block

abbrev pub procedure_code : Scope → Callee → Code
procedure_code s = scheme_code.procedure_code (types_in s) (blocks_in s) (entry_in s) s.block

abbrev pub expression_code : Scope → ℕ → Expression → Code
expression_code s = scheme_code.expression_code (types_in s) (blocks_in s) (entry_in s) s.block

abbrev pub expressions_code : Scope → ℕ → Expressions → Code
expressions_code s = scheme_code.expressions_code (types_in s) (blocks_in s) (entry_in s) s.block

abbrev pub members_code : Scope → ℕ → (line : ℕ) → Expressions → Code
members_code s = scheme_code.members_code (types_in s) (blocks_in s) (entry_in s) s.block

abbrev pub make_code : Scope → ℕ → ℕ → (line : ℕ) → Expressions → Code
make_code s at t line es =
    if is_set_shape (shape_at (types_in s) t)
    then instruction.zeros 8 ∷ members_code s (at + 2) line es
    else row_code (constant_words es) (expressions_code s at es)

abbrev pub links_code : Scope → ℕ → ℕ → Links → Code
links_code s = scheme_code.links_code (types_in s) (blocks_in s) (entry_in s) s.block

abbrev pub link_code : Scope → ℕ → ℕ → Link → Code
link_code s at t (link o e line) =
    decision o (at + link_length s t (link o e line))
    ++ (expression_code s (at + code_length (decision o 0)) e ++ operation (types_in s) t o line)

abbrev pub place_code : Scope → ℕ → Place → Code
place_code s = scheme_code.place_code (types_in s) (blocks_in s) (entry_in s) s.block

abbrev pub parts_code : Scope → ℕ → ℕ → Parts → Code
parts_code s = scheme_code.parts_code (types_in s) (blocks_in s) (entry_in s) s.block

abbrev pub part_code : Scope → ℕ → ℕ → Part → Code
part_code s = scheme_code.part_code (types_in s) (blocks_in s) (entry_in s) s.block

abbrev pub argument_code : Scope → ℕ → Argument → Code
argument_code s = scheme_code.argument_code (types_in s) (blocks_in s) (entry_in s) s.block

abbrev pub arguments_code : Scope → ℕ → Arguments → Code
arguments_code s = scheme_code.arguments_code (types_in s) (blocks_in s) (entry_in s) s.block

abbrev pub act_code : Scope → ℕ → Act → Code
act_code s = scheme_code.act_code (types_in s) (blocks_in s) (entry_in s) s.block

abbrev pub acts_code : Scope → ℕ → Acts → Code
acts_code s = scheme_code.acts_code (types_in s) (blocks_in s) (entry_in s) s.block

abbrev pub clause_code : Scope → (at next : ℕ) → Clause → Code
clause_code s = scheme_code.clause_code (types_in s) (blocks_in s) (entry_in s) s.block

abbrev pub clauses_code : Scope → ClauseKind → (target at : ℕ) → Clauses → Code
clauses_code s = scheme_code.clauses_code (types_in s) (blocks_in s) (entry_in s) s.block

-- the words of the branches of a `cobegin`
abbrev pub branches_in : Scope → List ℕ → List Branch
branches_in s bs = map (λ n. record { need = (block_at (blocks_in s) n).need; address = entry_in s n }) bs

abbrev pub branch_words_in : Scope → List ℕ → List ℕ
branch_words_in s bs = branch_words (branches_in s bs)

-- ---- what can be written

abbrev pub CalleeIsWritable : Scope → Callee → Type 0
CalleeIsWritable s = writable.CalleeIsWritable (blocks_in s)

abbrev pub ExpressionIsWritable : Scope → Expression → Type 0
ExpressionIsWritable s = writable.ExpressionIsWritable (types_in s) (blocks_in s) s.block

abbrev pub ExpressionsAreWritable : Scope → Expressions → Type 0
ExpressionsAreWritable s = writable.ExpressionsAreWritable (types_in s) (blocks_in s) s.block

abbrev pub LinksAreWritable : Scope → ℕ → Links → Type 0
LinksAreWritable s = writable.LinksAreWritable (types_in s) (blocks_in s) s.block

abbrev pub LinkIsWritable : Scope → ℕ → Link → Type 0
LinkIsWritable s t (link o e line) = writable.OperatorIsWritable (types_in s) o t × ExpressionIsWritable s e

abbrev pub PlaceIsWritable : Scope → Place → Type 0
PlaceIsWritable s = writable.PlaceIsWritable (types_in s) (blocks_in s) s.block

abbrev pub PartIsWritable : Scope → Part → Type 0
PartIsWritable s = writable.PartIsWritable (types_in s) (blocks_in s) s.block

abbrev pub PartsAreWritable : Scope → Parts → Type 0
PartsAreWritable s = writable.PartsAreWritable (types_in s) (blocks_in s) s.block

abbrev pub ArgumentIsWritable : Scope → Argument → Type 0
ArgumentIsWritable s = writable.ArgumentIsWritable (types_in s) (blocks_in s) s.block

abbrev pub ArgumentsAreWritable : Scope → Arguments → Type 0
ArgumentsAreWritable s = writable.ArgumentsAreWritable (types_in s) (blocks_in s) s.block

abbrev pub ActIsWritable : Scope → Act → Type 0
ActIsWritable s = writable.ActIsWritable (types_in s) (blocks_in s) s.block

abbrev pub ActsAreWritable : Scope → Acts → Type 0
ActsAreWritable s = writable.ActsAreWritable (types_in s) (blocks_in s) s.block

abbrev pub ClauseIsWritable : Scope → Clause → Type 0
ClauseIsWritable s = writable.ClauseIsWritable (types_in s) (blocks_in s) s.block

abbrev pub ClausesAreWritable : Scope → Clauses → Type 0
ClausesAreWritable s = writable.ClausesAreWritable (types_in s) (blocks_in s) s.block
