-- Helper. Writing trees down.
use Rattle.std.specs.Prelude.{ℕ, pos, Option, None, Some, codes}
use Prim.Native.String.{String}
use Rattle.edi_tree.specs.declared.names.Name.{Name}
use Rattle.edi_tree.specs.declared.constants.Constant.{Constant}
use Rattle.edi_tree.specs.declared.constants.Constant.TheVariants as constant
use Rattle.edi_tree.specs.declared.expressions.Root.TheVariants as root
use Rattle.edi_tree.specs.Tree as text

-- a name on a line
abbrev pub id : String → ℕ → Name
id spelling line = record { text = codes spelling; line = line }

-- a factor, and a name, without operators round it
abbrev pub single : text.Factor → text.Term
single f = text.term f text.no_multiplier

abbrev pub sole : text.Factor → text.Simple
sole f = text.simple None (single f) text.no_addend

abbrev pub only : text.Factor → text.Expr
only f = text.expr (sole f) text.no_comparison

abbrev pub named : Name → text.Factor
named name = text.variable_factor (text.variable (root.Name name) text.no_selector)

abbrev pub literal : ℕ → text.Expr
literal n = only (text.numeral (pos n))

-- `name := e`
abbrev pub sets : Name → (line : ℕ) → text.Expr → text.Statement
sets name line e = text.assignment (text.variable (root.Name name) text.no_selector) line e

-- `val name := e`
abbrev pub returns : Name → (line : ℕ) → text.Expr → text.Statement
returns name line e = text.assignment (text.variable (root.Val name) text.no_selector) line e

-- `name(e)`
abbrev pub call_with : Name → text.Expr → text.Statement
call_with name e = text.call name (Some (text.args e text.no_expr))

-- statements, one to three of them
abbrev pub one : text.Statement → text.StatementList
one s = text.list s text.no_statement

abbrev pub two : text.Statement → text.Statement → text.StatementList
two s t = text.list s (text.next_statement t text.no_statement)

abbrev pub three : text.Statement → text.Statement → text.Statement → text.StatementList
three s t u = text.list s (text.next_statement t (text.next_statement u text.no_statement))

-- `name: of`
abbrev pub grouped : Name → (of : Name) → text.Group
grouped name of = text.group name text.no_name of

-- `var name: of`
abbrev pub variable_of : Name → (of : Name) → text.Item
variable_of name of = text.var_item (text.var_list (grouped name of) text.no_group)

-- `record name (field: of)`
abbrev pub record_of_one : Name → (field of : Name) → text.Item
record_of_one name field of = text.type_item (text.record_decl name (grouped field of) text.no_group)

-- `const name = value`
abbrev pub constant_named : Name → (value : Constant) → text.Item
constant_named name value = text.const_item (text.const_list (record { name = name; constant = value }) text.no_const_decl)

-- `array name [low:high] (of)`
abbrev pub array_named : Name → (line low high : ℕ) → (of : Name) → text.Item
array_named name line low high of = text.type_item (text.array_decl name line (constant.Numeral (pos low)) (constant.Numeral (pos high)) of)

-- `set name (of)`
abbrev pub set_named : Name → (of : Name) → text.Item
set_named name of = text.type_item (text.set_decl name of)

-- parameters: `name: of`, and `var name: of`
abbrev pub value_named : Name → (of : Name) → text.Param
value_named name of = text.value_param (grouped name of)

abbrev pub variable_named : Name → (of : Name) → text.Param
variable_named name of = text.var_param (grouped name of)

-- `proc name`
abbrev pub plain : Name → text.Heading
plain name = text.heading name text.no_params None

-- `proc name(p): result`
abbrev pub taking : Name → text.Param → Option Name → text.Heading
taking name p result = text.heading name (text.params p text.no_param) result

-- `proc .. begin .. end`, with its `end` on this line
abbrev pub procedure_of : text.Heading → text.Declarations → text.StatementList → (line : ℕ) → text.Item
procedure_of h ds s line = text.procedure_item (text.procedure h ds s line)

-- `post proc .. begin .. end`, with its `end` on this line
abbrev pub post_of : text.Heading → text.Declarations → text.StatementList → (line : ℕ) → text.Item
post_of h ds s line = text.post_item (text.procedure h ds s line)

abbrev pub then : text.Item → text.Declarations → text.Declarations
then i ds = text.next_declaration (text.item_declaration i) ds

-- `proc main .. begin .. end`, with its `end` on this line
abbrev pub main : text.Declarations → text.StatementList → (line : ℕ) → text.Program
main ds s line = text.program text.no_global (text.procedure (plain (id "main" 1)) ds s line)

-- `proc main var name: of begin .. end`
abbrev pub with_variable : Name → (of : Name) → text.StatementList → (line : ℕ) → text.Program
with_variable name of s line = main (then (variable_of name of) text.no_declaration) s line
