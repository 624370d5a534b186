-- Definition. The rules on expressions and variables, construct by construct: each is judged after its parts, the parts from left to
-- right.
use Rattle.std.specs.Prelude.{ℕ, suc, Bool, true, ◌==◌, List, [], ◌∷◌, ◌++◌, map, slice_index_or, Option, Some, None, unwrap_or}
use Rattle.edi_scope.specs.declared.entity.Entity.{Entity}
use Rattle.edi_scope.specs.declared.entity.Entity.TheVariants as entity
use Rattle.edi_tree.specs.declared.names.Name.{Name}
use Rattle.edi_tree.specs.declared.expressions.Root.{Root}
use Rattle.edi_tree.specs.declared.expressions.Root.TheVariants as root
use Rattle.edi_tree.specs.Tree as text
use Rattle.edi_unit.specs.Types.{int_type, bool_type, shape_at, field_type}
use Rattle.edi_unit.specs.Tree as unit
use Rattle.edi_unit.specs.Need.{element_type}
use Rattle.edi_unit.specs.Headings.{Heading, Formals, no_formal, value_then, variable_then, procedure_then, heading_formals}
use Rattle.edi_static.specs.declared.faults.StaticKind.TheVariants as kind
use Rattle.edi_static.specs.Judged.{Judged, gives, faults, ◌>>=◌, must}
use Rattle.edi_static.specs.Environment.{Environment, look_up}
use Rattle.edi_static.specs.Operators.{Typed, relation_operator, addition_operator, multiplication_operator, signed, Linked, Chained, operated, with_links}
use Rattle.edi_static.specs.Fitting.{Use, constructs, calls, halts, neither, use_of, rest_of, variable_argument, passed, name_alone, is_variable_alone}
use Rattle.edi_static.specs.Fitting.{string_alone, character, single, empty_set, function_called, invoked, Rooted, as_variable, as_function, rooted_value}
use Rattle.edi_static.specs.Fitting.{is_record, index_of_name, is_indexed_by, takes_strings, constructed}

-- a part of a variable, with its type
pub record Parted : Type 0 where
  pub what : unit.Part
  pub of : ℕ

-- the steps to a part of a variable, with its type
pub record Reached : Type 0 where
  pub parts : unit.Parts
  pub of : ℕ

-- a variable or a part of it, with its type
pub record Located : Type 0 where
  pub at : unit.Place
  pub of : ℕ

abbrev pub located : Rooted → Reached → Located
located root steps = record { at = unit.place root.levels root.variable steps.parts; of = steps.of }

abbrev pub loaded : Located → Typed
loaded l = record { what = unit.load l.at; of = l.of }

abbrev pub exprs_count : text.Exprs → ℕ
exprs_count text.no_expr = 0
exprs_count (text.next_expr e es) = suc (exprs_count es)

abbrev pub args_count : text.Args → ℕ
args_count (text.args e es) = suc (exprs_count es)

-- in an environment
module _ (env : Environment) where
  -- the field of a record by its index, if the record has it
  abbrev pub field_at : (of : ℕ) → Name → Option ℕ → Judged Parted
  field_at of name None = faults kind.Undeclared name.line
  field_at of name (Some n) = gives (record { what = unit.field n; of = unwrap_or (field_type env.types of n) int_type })

  abbrev pub field_of : (line : ℕ) → (of : ℕ) → Name → Judged Parted
  field_of line of name =
      must (is_record (shape_at env.types of)) kind.Types line >>= λ _.
      field_at of name (index_of_name (slice_index_or env.fields of []) name.text)

  -- the element of an array
  abbrev pub element_of : (line : ℕ) → (of : ℕ) → Typed → Judged Parted
  element_of line of i =
      must (is_indexed_by (shape_at env.types of) i.of) kind.Types line >>= λ _.
      gives (record { what = unit.index i.what line; of = element_type (shape_at env.types of) })

  -- the variable that a name or `val f` means
  abbrev pub rooted : Root → Judged Rooted
  rooted (root.Name name) = look_up env name >>= as_variable env name.line
  rooted (root.Val name) = look_up env name >>= as_function env name.line

  -- a name alone: a constant, a variable, a call of a function without parameters, or a set type
  abbrev pub used_alone : (line : ℕ) → Use → Entity → Judged Typed
  used_alone line (constructs of) means = empty_set env line of
  used_alone line (calls c) means = function_called line c 0 >>= λ _. gives (invoked line c unit.no_argument)
  used_alone line halts means = faults kind.Call line
  used_alone line neither (entity.Constant of n) = gives (record { what = unit.constant of n; of = of })
  used_alone line neither means = as_variable env line means >>= λ r. gives (rooted_value r)

  abbrev pub alone : Name → Judged Typed
  alone name = look_up env name >>= λ means. used_alone name.line (use_of env means) means

  -- an argument of a constructor: a string that the constructor takes stands for its characters; every other argument is a
  -- value
  abbrev pub taken : (strings : Bool) → Option (List ℕ) → (judged : Judged Typed) → Judged (List Typed)
  taken true (Some characters) judged = gives (map character characters)
  taken strings alone judged = judged >>= λ v. gives (v ∷ [])

  abbrev pub element : (strings : Bool) → text.Expr → (judged : Judged Typed) → Judged (List Typed)
  element strings e judged = taken strings (string_alone e) judged

  -- for a procedure parameter an argument that is a name alone is only looked up; every other one is judged as an
  -- expression, and does not fit
  abbrev pub procedure_argument : (line : ℕ) → Heading → Option Name → (judged : Judged Typed) → Judged unit.Argument
  procedure_argument line asked (Some name) judged = look_up env name >>= λ means. passed line asked (use_of env means)
  procedure_argument line asked None judged = judged >>= λ _. faults kind.Call line

  -- an argument of a call, for the first of these parameters
  abbrev pub argument : (line : ℕ) → text.Expr → (judged : Judged Typed) → Formals → Judged unit.Argument
  argument line e judged no_formal = faults kind.Call line
  argument line e judged (value_then of fs) =
      judged >>= λ v. must (v.of == of) kind.Call line >>= λ _. gives (unit.by_value v.what)
  argument line e judged (variable_then of fs) =
      judged >>= λ v. variable_argument line of (is_variable_alone e) v.what v.of
  argument line e judged (procedure_then asked fs) = procedure_argument line asked (name_alone e) judged

  abbrev mutual
    pub expression : text.Expr → Judged Typed
    expression (text.expr s c) = simple s >>= λ left. comparison left c

    pub comparison : Typed → text.Comparison → Judged Typed
    comparison left text.no_comparison = gives left
    comparison left (text.compared r line s) =
        simple s >>= λ right. operated env.types (relation_operator r) line left.of right >>= λ l.
        gives (with_links left (record { links = unit.link_then l.what unit.no_link; of = l.of }))

    -- a leading sign belongs to the first term
    pub simple : text.Simple → Judged Typed
    simple (text.simple sign t more) =
        term t >>= λ v. signed sign v >>= λ first. addends first.of more >>= λ links. gives (with_links first links)

    pub addends : (left : ℕ) → text.Addends → Judged Chained
    addends left text.no_addend = gives (record { links = unit.no_link; of = left })
    addends left (text.next_addend a more) =
        addend left a >>= λ l. addends l.of more >>= λ ls.
        gives (record { links = unit.link_then l.what ls.links; of = ls.of })

    pub addend : (left : ℕ) → text.Addend → Judged Linked
    addend left (text.addend o line t) = term t >>= operated env.types (addition_operator o) line left

    pub term : text.Term → Judged Typed
    term (text.term f more) = factor f >>= λ first. multipliers first.of more >>= λ links. gives (with_links first links)

    pub multipliers : (left : ℕ) → text.Multipliers → Judged Chained
    multipliers left text.no_multiplier = gives (record { links = unit.no_link; of = left })
    multipliers left (text.next_multiplier m more) =
        multiplier left m >>= λ l. multipliers l.of more >>= λ ls.
        gives (record { links = unit.link_then l.what ls.links; of = ls.of })

    pub multiplier : (left : ℕ) → text.Multiplier → Judged Linked
    multiplier left (text.multiplier o line f) = factor f >>= operated env.types (multiplication_operator o) line left

    pub factor : text.Factor → Judged Typed
    factor (text.numeral n) = gives (record { what = unit.constant int_type n; of = int_type })
    factor (text.string s) = single s.line s.text
    factor (text.not_factor line f) =
        factor f >>= λ v. must (v.of == bool_type) kind.Types line >>= λ _.
        gives (record { what = unit.not_of v.what; of = bool_type })
    factor (text.parenthesized e) = expression e
    factor (text.call_factor name xs) = look_up env name >>= λ means. applied name.line (use_of env means) xs
    factor (text.variable_factor v) = variable_value v

    -- the name before arguments is judged first: it is a type or a function
    pub applied : (line : ℕ) → Use → text.Args → Judged Typed
    applied line (constructs of) (text.args e es) =
        element (takes_strings (shape_at env.types of)) e (expression e) >>= λ vs.
        more_elements (takes_strings (shape_at env.types of)) es >>= λ ws.
        constructed env line of (vs ++ ws)
    applied line (calls c) (text.args e es) =
        function_called line c (args_count (text.args e es)) >>= λ _.
        argument line e (expression e) (heading_formals c.asks) >>= λ a.
        more_arguments line es (rest_of (heading_formals c.asks)) >>= λ as'.
        gives (invoked line c (unit.argument_then a as'))
    applied line halts (text.args e es) = faults kind.Call line
    applied line neither (text.args e es) = faults kind.Kind line

    -- the further arguments of a constructor
    pub more_elements : (strings : Bool) → text.Exprs → Judged (List Typed)
    more_elements strings text.no_expr = gives []
    more_elements strings (text.next_expr e es) =
        element strings e (expression e) >>= λ vs. more_elements strings es >>= λ ws. gives (vs ++ ws)

    -- the further arguments of a call, for these parameters: each is judged and fitted before the next
    pub more_arguments : (line : ℕ) → text.Exprs → Formals → Judged unit.Arguments
    more_arguments line text.no_expr fs = gives unit.no_argument
    more_arguments line (text.next_expr e es) fs =
        argument line e (expression e) fs >>= λ a. more_arguments line es (rest_of fs) >>= λ as'. gives (unit.argument_then a as')

    -- a variable as a value
    pub variable_value : text.Variable → Judged Typed
    variable_value (text.variable (root.Name name) text.no_selector) = alone name
    variable_value (text.variable r ss) = rooted r >>= λ v. selectors v.of ss >>= λ steps. gives (loaded (located v steps))

    -- a variable as a place
    pub variable_place : text.Variable → Judged Located
    variable_place (text.variable r ss) = rooted r >>= λ v. selectors v.of ss >>= λ steps. gives (located v steps)

    pub selectors : (of : ℕ) → text.Selectors → Judged Reached
    selectors of text.no_selector = gives (record { parts = unit.no_part; of = of })
    selectors of (text.next_selector s ss) =
        selector of s >>= λ p. selectors p.of ss >>= λ steps.
        gives (record { parts = unit.part_then p.what steps.parts; of = steps.of })

    pub selector : (of : ℕ) → text.Selector → Judged Parted
    selector of (text.field line name) = field_of line of name
    selector of (text.index line e) = expression e >>= element_of line of

  -- the arguments of a call, for these parameters
  abbrev pub all_arguments : (line : ℕ) → text.Args → Formals → Judged unit.Arguments
  all_arguments line (text.args e es) fs =
      argument line e (expression e) fs >>= λ a. more_arguments line es (rest_of fs) >>= λ as'. gives (unit.argument_then a as')
