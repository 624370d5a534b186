-- Helper. Parts of the rules on expressions, under names of their own.
use Rattle.std.specs.Prelude.{ℕ, Bool, ◌==◌, if◌then◌else◌, List, ◌++◌, Option, Some, None}
use Rattle.edi_tree.specs.declared.expressions.Relation.{Relation}
use Rattle.edi_tree.specs.Tree as text
use Rattle.edi_unit.specs.Types.{bool_type, shape_at}
use Rattle.edi_unit.specs.Headings.{heading_formals}
use Rattle.edi_unit.specs.Tree as unit
use Rattle.edi_static.specs.declared.faults.StaticKind.TheVariants as kind
use Rattle.edi_static.specs.Judged.{Judged, gives, ◌>>=◌, must}
use Rattle.edi_static.specs.Environment.{Environment}
use Rattle.edi_static.specs.Operators.{Typed, Linked, relation_operator, operated, with_links}
use Rattle.edi_static.specs.Fitting.{Called, constructed, function_called, invoked, is_variable_alone, name_alone, string_alone, takes_strings}
use Rattle.edi_static.specs.Fitting.{variable_argument}
use Rattle.edi_static.specs.Expressions.{expression, element, more_elements, procedure_argument, args_count, all_arguments, variable_place, loaded}
use Rattle.edi_static.specs.Views.{One, value, variable, procedure}

-- a left operand with the one operator behind it
abbrev pub with_one : Typed → Linked → Typed
with_one left l = with_links left (record { links = unit.link_then l.what unit.no_link; of = l.of })

-- a left operand with a relation and its right operand
abbrev pub compared : Environment → Typed → Relation → (line : ℕ) → Typed → Judged Typed
compared env left r line right = operated env.types (relation_operator r) line left.of right >>= λ l. gives (with_one left l)

-- `not` takes `bool`
abbrev pub negated : (line : ℕ) → Typed → Judged Typed
negated line v = must (v.of == bool_type) kind.Types line >>= λ _. gives (record { what = unit.not_of v.what; of = bool_type })

-- a function without arguments
abbrev pub invoked_alone : (line : ℕ) → Called → Judged Typed
invoked_alone line c = function_called line c 0 >>= λ _. gives (invoked line c unit.no_argument)

-- an argument for a value parameter is of its type
abbrev pub value_argument : (line : ℕ) → (of : ℕ) → Typed → Judged unit.Argument
value_argument line of v = must (v.of == of) kind.Call line >>= λ _. gives (unit.by_value v.what)

-- what is given, behind these
abbrev pub behind : List Typed → Judged (List Typed) → Judged (List Typed)
behind vs m = m >>= λ ws. gives (vs ++ ws)

-- the factor of which a term consists, where it has no operator
abbrev pub term_factor : text.Term → Option text.Factor
term_factor (text.term f text.no_multiplier) = Some f
term_factor _ = None

-- the factor of which a simple expression consists, where it has no operator and no sign
abbrev pub simple_factor : text.Simple → Option text.Factor
simple_factor (text.simple None t text.no_addend) = term_factor t
simple_factor _ = None

-- the characters of a string alone, where the constructor takes strings
abbrev pub taken_string : (strings : Bool) → text.Expr → Option (List ℕ)
taken_string strings e = if strings then string_alone e else None

-- the parts for which the arguments of a constructor stand
abbrev pub elements : Environment → (strings : Bool) → text.Args → Judged (List Typed)
elements env strings (text.args e es) =
    element env strings e (expression env e) >>= λ vs. more_elements env strings es >>= λ ws. gives (vs ++ ws)

-- the value of a variable or a part of it
abbrev pub place_value : Environment → text.Variable → Judged Typed
place_value env v = variable_place env v >>= λ l. gives (loaded l)

-- a constructor with its arguments
abbrev pub construction : Environment → (line : ℕ) → (of : ℕ) → text.Args → Judged Typed
construction env line of xs = elements env (takes_strings (shape_at env.types of)) xs >>= constructed env line of

-- a function with its arguments
abbrev pub invocation : Environment → (line : ℕ) → Called → text.Args → Judged Typed
invocation env line c xs =
    function_called line c (args_count xs) >>= λ _. all_arguments env line xs (heading_formals c.asks) >>= λ ys. gives (invoked line c ys)

-- an argument of a call, for one parameter
abbrev pub fitted : Environment → (line : ℕ) → text.Expr → (judged : Judged Typed) → One → Judged unit.Argument
fitted env line e judged (value of) = judged >>= value_argument line of
fitted env line e judged (variable of) = judged >>= λ v. variable_argument line of (is_variable_alone e) v.what v.of
fitted env line e judged (procedure asked) = procedure_argument env line asked (name_alone e) judged
