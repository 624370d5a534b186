-- Definition. What a name can be used for, and the rules on calls and constructors that do not look into their arguments.
use Rattle.std.specs.Prelude.{ℕ, suc, pos, Bool, true, false, ◌&&◌, ◌==◌, if◌then◌else◌, List, [], ◌∷◌, map, length, is_some, Option, Some, None, option_map}
use Rattle.std.specs.Prelude.{unwrap_or}
use Rattle.std.specs.List.{list_all, list_any}
use Rattle.std.specs.Str.{bytes_eq}
use Rattle.edi_scope.specs.declared.entity.Entity.{Entity}
use Rattle.edi_scope.specs.declared.entity.Entity.TheVariants as entity
use Rattle.edi_tree.specs.declared.names.Name.{Name}
use Rattle.edi_tree.specs.declared.expressions.Root.TheVariants as root
use Rattle.edi_tree.specs.Tree as text
use Rattle.edi_unit.specs.declared.expressions.Callee.{Callee}
use Rattle.edi_unit.specs.declared.expressions.Callee.TheVariants as callee
use Rattle.edi_unit.specs.Types.{Shape, record_of, array_of, set_of, shape_at, int_type, char_type, is_elementary, is_set_shape, element_count}
use Rattle.edi_unit.specs.Tree as unit
use Rattle.edi_unit.specs.Need.{block_at}
use Rattle.edi_unit.specs.Headings.{Heading, Formals, no_formal, value_then, variable_then, procedure_then, heading_result, heading_formals}
use Rattle.edi_static.specs.declared.faults.StaticKind.TheVariants as kind
use Rattle.edi_static.specs.Judged.{Judged, gives, faults, ◌>>=◌, must}
use Rattle.edi_static.specs.Environment.{Environment, steps_to, heading_at, same_heading, formals_count}
use Rattle.edi_static.specs.Operators.{Typed}

-- ---- what is called

-- what is called or passed on, with its heading
pub record Called : Type 0 where
  pub callee : Callee
  pub asks : Heading

-- what a name before arguments can be: a type, a procedure or function, the procedure `halt`, or none of these
pub data Use : Type 0 where
  constructs : (of : ℕ) → Use
  calls : Called → Use
  halts : Use
  neither : Use

-- a block is called in the block in which it is declared, so many steps out
abbrev pub use_of : Environment → Entity → Use
use_of env (entity.Types t) = constructs t
use_of env (entity.Procedure b) =
    calls (record { callee = callee.Block (steps_to (block_at env.blocks b).up env.around) b; asks = heading_at env.headings b })
use_of env (entity.Formal b variable shape) =
    calls (record { callee = callee.Formal (steps_to b env.around) variable; asks = heading_at env.shapes shape })
use_of env entity.Halt = halts
use_of env (entity.Constant of n) = neither
use_of env (entity.Variable b variable of) = neither

abbrev pub is_function : Heading → Bool
is_function asks = is_some (heading_result asks)

-- as many arguments as parameters
abbrev pub takes_so_many : Heading → ℕ → Bool
takes_so_many asks n = formals_count (heading_formals asks) == n

abbrev pub rest_of : Formals → Formals
rest_of no_formal = no_formal
rest_of (value_then t fs) = fs
rest_of (variable_then t fs) = fs
rest_of (procedure_then h fs) = fs

-- an argument for a `var` parameter is a variable alone, of its type
abbrev pub variable_argument : (line : ℕ) → (of : ℕ) → (alone : Bool) → unit.Expression → (has : ℕ) → Judged unit.Argument
variable_argument line of true (unit.load p) has = must (has == of) kind.Call line >>= λ _. gives (unit.by_variable p)
variable_argument line of alone e has = faults kind.Call line

-- an argument for a procedure parameter is a name alone, of a procedure other than `halt` with its shape
abbrev pub passed : (line : ℕ) → Heading → Use → Judged unit.Argument
passed line asked (calls c) = must (same_heading c.asks asked) kind.Call line >>= λ _. gives (unit.by_procedure c.callee)
passed line asked (constructs of) = faults kind.Call line
passed line asked halts = faults kind.Call line
passed line asked neither = faults kind.Call line

-- ---- expressions of one symbol or one variable

-- the factor of which an expression consists, where it has no operator and no sign
abbrev pub only_factor : text.Expr → Option text.Factor
only_factor (text.expr (text.simple None (text.term f text.no_multiplier) text.no_addend) text.no_comparison) = Some f
only_factor _ = None

abbrev pub name_of_factor : Option text.Factor → Option Name
name_of_factor (Some (text.variable_factor (text.variable (root.Name name) text.no_selector))) = Some name
name_of_factor _ = None

-- a name alone
abbrev pub name_alone : text.Expr → Option Name
name_alone e = name_of_factor (only_factor e)

abbrev pub is_variable_factor : Option text.Factor → Bool
is_variable_factor (Some (text.variable_factor v)) = true
is_variable_factor _ = false

-- a variable alone, without parentheses
abbrev pub is_variable_alone : text.Expr → Bool
is_variable_alone e = is_variable_factor (only_factor e)

abbrev pub string_of_factor : Option text.Factor → Option (List ℕ)
string_of_factor (Some (text.string s)) = Some s.text
string_of_factor _ = None

-- a string alone
abbrev pub string_alone : text.Expr → Option (List ℕ)
string_alone e = string_of_factor (only_factor e)

-- ---- constants, and names alone

abbrev pub character : ℕ → Typed
character c = record { what = unit.constant char_type (pos c); of = char_type }

-- a string stands for its characters only where a constructor takes it; elsewhere it has to be one character
abbrev pub single : (line : ℕ) → List ℕ → Judged Typed
single line (c ∷ []) = gives (character c)
single line _ = faults kind.Constructor line

-- a set type alone is the empty set
abbrev pub empty_set : Environment → (line : ℕ) → (of : ℕ) → Judged Typed
empty_set env line of =
    must (is_set_shape (shape_at env.types of)) kind.Constructor line >>= λ _.
    gives (record { what = unit.make of unit.no_expression line; of = of })

-- a call in an expression is that of a function, with as many arguments as its heading has parameters
abbrev pub function_called : (line : ℕ) → Called → ℕ → Judged (Unit {0})
function_called line c n = must (is_function c.asks && takes_so_many c.asks n) kind.Call line

abbrev pub call_result : Called → ℕ
call_result c = unwrap_or (heading_result c.asks) int_type

abbrev pub invoked : (line : ℕ) → Called → unit.Arguments → Typed
invoked line c xs = record { what = unit.apply_of c.callee xs line; of = call_result c }

-- ---- variables

-- a variable of a block that is so many steps out, with its type
pub record Rooted : Type 0 where
  pub levels : ℕ
  pub variable : ℕ
  pub of : ℕ

-- a variable is asked
abbrev pub as_variable : Environment → (line : ℕ) → Entity → Judged Rooted
as_variable env line (entity.Variable b variable of) =
    gives (record { levels = steps_to b env.around; variable = variable; of = of })
as_variable env line _ = faults kind.Kind line

-- the variable of a function whose body contains this place
abbrev pub function_variable : Environment → (line : ℕ) → (block : ℕ) → (inside : Bool) → (result : Option ℕ) → Judged Rooted
function_variable env line b true (Some of) = gives (record { levels = steps_to b env.around; variable = 0; of = of })
function_variable env line b inside result = faults kind.Kind line

abbrev pub as_function : Environment → (line : ℕ) → Entity → Judged Rooted
as_function env line (entity.Procedure b) =
    function_variable env line b (list_any (λ a. a == b) env.around) (block_at env.blocks b).result
as_function env line _ = faults kind.Kind line

abbrev pub rooted_value : Rooted → Typed
rooted_value r = record { what = unit.load (unit.place r.levels r.variable unit.no_part); of = r.of }

-- ---- parts

abbrev pub is_record : Shape → Bool
is_record (record_of fs) = true
is_record _ = false

-- the index of a name among these
abbrev pub index_of_name : List (List ℕ) → List ℕ → Option ℕ
index_of_name [] name = None
index_of_name (field ∷ fields) name =
    if bytes_eq field name then Some 0 else option_map (λ n. suc n) (index_of_name fields name)

abbrev pub is_indexed_by : Shape → ℕ → Bool
is_indexed_by (array_of i lo hi e) t = t == i
is_indexed_by _ t = false

-- ---- constructors

-- a string is taken by the constructors of arrays of characters
abbrev pub takes_strings : Shape → Bool
takes_strings (array_of i lo hi e) = e == char_type
takes_strings _ = false

abbrev pub same_types : List ℕ → List ℕ → Bool
same_types [] [] = true
same_types (s ∷ ss) (t ∷ ts) = s == t && same_types ss ts
same_types [] (t ∷ ts) = false
same_types (s ∷ ss) [] = false

-- an elementary type
abbrev pub is_one_ordinal : List Shape → List ℕ → Bool
is_one_ordinal types (t ∷ []) = is_elementary types t
is_one_ordinal types _ = false

-- whether a constructor of a type takes parts of these types: a record one for each field, of its type; an array as many as
-- it has elements, each of the element type; a set any number of its base type; and an elementary type one elementary value
abbrev pub takes_parts : List Shape → Shape → List ℕ → Bool
takes_parts types (record_of fs) parts = same_types parts fs
takes_parts types (array_of i lo hi e) parts = length parts == element_count lo hi && list_all (λ t. t == e) parts
takes_parts types (set_of b) parts = list_all (λ t. t == b) parts
takes_parts types _ parts = is_one_ordinal types parts

abbrev pub expressions_of : List Typed → unit.Expressions
expressions_of [] = unit.no_expression
expressions_of (v ∷ vs) = unit.expression_then v.what (expressions_of vs)

-- an elementary type converts its one argument
abbrev pub made : (elementary : Bool) → (of : ℕ) → List Typed → (line : ℕ) → unit.Expression
made true of (v ∷ []) line = unit.convert of v.what line
made elementary of vs line = unit.make of (expressions_of vs) line

abbrev pub constructed : Environment → (line : ℕ) → (of : ℕ) → List Typed → Judged Typed
constructed env line of parts =
    must (takes_parts env.types (shape_at env.types of) (map (λ v. v.of) parts)) kind.Constructor line >>= λ _.
    gives (record { what = made (is_elementary env.types of) of parts line; of = of })
