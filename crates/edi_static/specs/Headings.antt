-- Definition. The rules on headings: their parameters, their result, and their own name.
use Rattle.std.specs.Prelude.{ℕ, ◌+◌, Bool, false, true, ◌++◌, length, take, Option, Some, None}
use Rattle.edi_scope.specs.declared.entity.Entity.TheVariants as entity
use Rattle.edi_scope.specs.Scope.{outside}
use Rattle.edi_tree.specs.declared.names.Name.{Name}
use Rattle.edi_tree.specs.Tree as text
use Rattle.edi_tree.specs.Tree.{Names, no_name, next_name}
use Rattle.edi_unit.specs.Headings.{Heading, heading, Formals, no_formal, value_then, variable_then, procedure_then}
use Rattle.edi_static.specs.Judged.{Judged, gives, ◌>>=◌}
use Rattle.edi_static.specs.Environment.{Environment, type_named, declare, enter, with_shape, formals_append, formals_count}

-- after a heading's parameters: the environment, in which the heading's scope is the innermost, and the parameters
pub record Listed : Type 0 where
  pub env : Environment
  pub formals : Formals

-- after a heading's parameters and result
pub record Headed : Type 0 where
  pub env : Environment
  pub asks : Heading

abbrev pub leave : Environment → Environment
leave env = record env { scopes = outside env.scopes }

-- something is done in the scope round the innermost
abbrev pub round : (Environment → Judged Environment) → Environment → Judged Environment
round act env = act (leave env) >>= λ outer. gives (record outer { scopes = take 1 env.scopes ++ outer.scopes })

-- the function variable, which stands before the parameters
abbrev pub before_parameters : (result : Option Name) → ℕ
before_parameters None = 0
before_parameters (Some name) = 1

-- a value or a `var` parameter of a type
abbrev pub formal_one : (by_variable : Bool) → (of : ℕ) → Formals
formal_one false t = value_then t no_formal
formal_one true t = variable_then t no_formal

-- the parameters of a block are variables of it, of which so many stand before them
module _ (block before : ℕ) where
  -- the number of the next parameter
  abbrev pub next_parameter : Formals → ℕ
  next_parameter formals = before + formals_count formals

  -- each of the names is a parameter of this kind
  abbrev pub param_named : (of : ℕ) → (one : Formals) → Name → Listed → Judged Listed
  param_named of one name listed =
      declare false name (entity.Variable block (next_parameter listed.formals) of) listed.env >>= λ env.
      gives (record { env = env; formals = formals_append listed.formals one })

  abbrev pub params_named : (of : ℕ) → (one : Formals) → Names → Listed → Judged Listed
  params_named of one no_name listed = gives listed
  params_named of one (next_name name names) listed = param_named of one name listed >>= params_named of one names

  -- in a group the type is judged first, then the names in their order
  abbrev pub param_group : (by_variable : Bool) → text.Group → Listed → Judged Listed
  param_group by_variable (text.group first names of) listed =
      type_named listed.env of >>= λ t. params_named t (formal_one by_variable t) (next_name first names) listed

  -- a procedure parameter is declared after the heading's parts, in the scope round that heading
  abbrev pub procedure_named : Name → Formals → Headed → Judged Listed
  procedure_named name formals inner =
      declare false name (entity.Formal block (next_parameter formals) (length inner.env.shapes)) (leave inner.env) >>= λ env.
      gives (record {
        env = with_shape inner.asks env;
        formals = formals_append formals (procedure_then inner.asks no_formal);
      })

-- the result's name is looked up from inside the heading's scope
abbrev pub result_named : Option Name → Environment → Judged (Option ℕ)
result_named None env = gives None
result_named (Some name) env = type_named env name >>= λ t. gives (Some t)

abbrev pub with_result : Option Name → Listed → Judged Headed
with_result result listed =
    result_named result listed.env >>= λ r. gives (record { env = listed.env; asks = heading listed.formals r })

abbrev pub own_name : text.Heading → Name
own_name (text.heading name ps result) = name

-- the parts of the heading of a block, in a scope of their own: the parameters, and then the result
abbrev mutual
  pub heading_parts : (block : ℕ) → text.Heading → Environment → Judged Headed
  heading_parts block (text.heading name ps result) env =
      parameters block (before_parameters result) ps (record { env = enter false env; formals = no_formal }) >>= with_result result

  pub parameters : (block before : ℕ) → text.Params → Listed → Judged Listed
  parameters block before text.no_params listed = gives listed
  parameters block before (text.params p ps) listed = parameter block before p listed >>= more_parameters block before ps

  pub more_parameters : (block before : ℕ) → text.MoreParams → Listed → Judged Listed
  more_parameters block before text.no_param listed = gives listed
  more_parameters block before (text.next_param p ps) listed =
      parameter block before p listed >>= more_parameters block before ps

  pub parameter : (block before : ℕ) → text.Param → Listed → Judged Listed
  parameter block before (text.value_param g) listed = param_group block before false g listed
  parameter block before (text.var_param g) listed = param_group block before true g listed
  parameter block before (text.procedure_param inner) listed =
      heading_parts block inner listed.env >>= procedure_named block before (own_name inner) listed.formals
