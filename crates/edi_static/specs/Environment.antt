-- Definition. What is known at a place of the text: what each name means there, and what has become of the constructs before it.
use Rattle.std.specs.Prelude.{ℕ, suc, Bool, true, false, ◌&&◌, ◌||◌, ◌==◌, if◌then◌else◌, List, [], ◌∷◌, ◌++◌, length, Option, Some, None, is_some}
use Rattle.std.specs.Prelude.{slice_index_or, slice_set, codes}
use Rattle.std.specs.Str.{bytes_eq}
use Rattle.edi_scope.specs.declared.entity.Entity.{Entity}
use Rattle.edi_scope.specs.declared.entity.Entity.TheVariants as entity
use Rattle.edi_scope.specs.Scope.{Scope, standard, visible, declared, outside, entered, with_name, exported}
use Rattle.edi_unit.specs.declared.units.BlockKind.{BlockKind}
use Rattle.edi_unit.specs.declared.units.Parameter.{Parameter}
use Rattle.edi_unit.specs.declared.units.Parameter.TheVariants as slot
use Rattle.edi_unit.specs.Types.{Shape, standard_types}
use Rattle.edi_unit.specs.Tree.{no_act, Block}
use Rattle.edi_unit.specs.Need.{block_at, slots}
use Rattle.edi_unit.specs.Headings.{Heading, heading, Formals, no_formal, value_then, variable_then, procedure_then, heading_result}
use Rattle.edi_tree.specs.declared.names.Name.{Name}
use Rattle.edi_static.specs.declared.faults.StaticKind.{StaticKind}
use Rattle.edi_static.specs.declared.faults.StaticKind.TheVariants as kind
use Rattle.edi_static.specs.Judged.{Judged, gives, faults, ◌>>=◌}

-- a procedure whose `pre` has stood and whose `post` is still to come: the name in its `pre`, and its block
pub record Begun : Type 0 where
  pub name : Name
  pub block : ℕ

pub record Environment : Type 0 where
  -- the open scopes, the innermost first
  pub scopes : List Scope
  -- the types by number, and the names of each one's fields, of which records alone have any
  pub types : List Shape
  pub fields : List (List (List ℕ))
  -- the blocks by number, as far as they are known, and what the heading of each asks of a call
  pub blocks : List Block
  pub headings : List Heading
  -- the headings of procedure parameters, by the numbers with which the scopes keep them
  pub shapes : List Heading
  -- the blocks round this place, the innermost first
  pub around : List ℕ
  -- the procedures of the innermost scope that are begun, in the order of the text
  pub begun : List Begun

-- before a program: the standard names and types
abbrev pub at_first : Environment
at_first = record {
  scopes = standard ∷ [];
  types = standard_types;
  fields = [] ∷ [] ∷ [] ∷ [];
  blocks = [];
  headings = [];
  shapes = [];
  around = [];
  begun = [];
}

-- ---- used names

-- names of the published language that this profile leaves out
abbrev pub is_left_out : List ℕ → Bool
is_left_out spelling =
    bytes_eq spelling (codes "addr") || bytes_eq spelling (codes "obtain") || bytes_eq spelling (codes "place")
    || bytes_eq spelling (codes "sense")

-- the kind of fault of a used name that means nothing
abbrev pub unknown : List ℕ → StaticKind
unknown spelling = if is_left_out spelling then kind.NotInProfile else kind.Undeclared

abbrev pub found : Option Entity → Name → Judged Entity
found None name = faults (unknown name.text) name.line
found (Some entity) name = gives entity

-- what a used name means: its declaration in the innermost scope that has one before this place; it must have one
abbrev pub look_up : Environment → Name → Judged Entity
look_up env name = found (visible env.scopes name.text) name

-- a type is asked
abbrev pub as_type : (line : ℕ) → Entity → Judged ℕ
as_type line (entity.Types t) = gives t
as_type line _ = faults kind.Kind line

abbrev pub type_named : Environment → Name → Judged ℕ
type_named env name = look_up env name >>= as_type name.line

-- ---- declared names

-- a declared name must be new in the innermost scope; behind an export `*` it enters the scope round the module too, and
-- must be new there too
abbrev pub declare : (export : Bool) → Name → Entity → Environment → Judged Environment
declare export name means env =
    if is_some (declared env.scopes name.text) || (export && is_some (declared (outside env.scopes) name.text))
    then faults kind.Ambiguous name.line
    else gives (record env {
      scopes =
          if export then exported name.text means (with_name name.text means env.scopes) else with_name name.text means env.scopes;
    })

-- a name of the innermost scope, which is that of a module, enters the scope round it too, and must be new there
abbrev pub give_outside : Name → Entity → Environment → Judged Environment
give_outside name means env =
    if is_some (declared (outside env.scopes) name.text)
    then faults kind.Ambiguous name.line
    else gives (record env { scopes = exported name.text means env.scopes })

abbrev pub with_type : Shape → List (List ℕ) → Environment → Environment
with_type shape field_names env =
    record env { types = env.types ++ shape ∷ []; fields = env.fields ++ field_names ∷ [] }

abbrev pub enter : (of_module : Bool) → Environment → Environment
enter of_module env = record env { scopes = entered of_module env.scopes }

-- ---- blocks

-- the block in which this place stands
abbrev pub here : Environment → ℕ
here env = slice_index_or env.around 0 0

-- the steps out from the innermost of these blocks to one of them
abbrev pub steps_to : ℕ → List ℕ → ℕ
steps_to b [] = 0
steps_to b (a ∷ around) = if a == b then 0 else suc (steps_to b around)

-- a block that begins at this place; its statements, its variables and its need are still to come
abbrev pub begun_block : BlockKind → (up : ℕ) → (result : Option ℕ) → List Parameter → Block
begun_block block_kind up result parameters =
    record { kind = block_kind; up = up; result = result; parameters = parameters; variables = []; need = 0; body = no_act }

abbrev pub with_block : Block → Heading → Environment → Environment
with_block block asks env = record env { blocks = env.blocks ++ block ∷ []; headings = env.headings ++ asks ∷ [] }

-- one more heading of a procedure parameter
abbrev pub with_shape : Heading → Environment → Environment
with_shape asks env = record env { shapes = env.shapes ++ asks ∷ [] }

abbrev pub set_block : ℕ → Block → Environment → Environment
set_block n block env = record env { blocks = slice_set env.blocks n block }

-- one more declared variable of a block
abbrev pub with_variable : (of : ℕ) → Block → Block
with_variable of block = record block { variables = block.variables ++ of ∷ [] }

-- variables are numbered within their block, in the order of the text: the function variable, the parameters, and the
-- declared variables, those of the block's modules included
abbrev pub next_variable : Environment → ℕ
next_variable env = length (slots (block_at env.blocks (here env)))

-- ---- headings

abbrev pub no_heading : Heading
no_heading = heading no_formal None

abbrev pub heading_at : List Heading → ℕ → Heading
heading_at headings n = slice_index_or headings n no_heading

-- two headings have one shape where their parameters agree in order, kind, type and, for procedure parameters, shape, and
-- their results agree
abbrev pub same_result : Option ℕ → Option ℕ → Bool
same_result None None = true
same_result (Some s) (Some t) = s == t
same_result None (Some t) = false
same_result (Some s) None = false

abbrev mutual
  pub same_heading : Heading → Heading → Bool
  same_heading (heading fs r) (heading gs s) = same_formals fs gs && same_result r s

  pub same_formals : Formals → Formals → Bool
  same_formals no_formal no_formal = true
  same_formals (value_then s fs) (value_then t gs) = s == t && same_formals fs gs
  same_formals (variable_then s fs) (variable_then t gs) = s == t && same_formals fs gs
  same_formals (procedure_then g fs) (procedure_then h gs) = same_heading g h && same_formals fs gs
  same_formals _ _ = false

-- the formals of one list and then those of another
abbrev pub formals_append : Formals → Formals → Formals
formals_append no_formal gs = gs
formals_append (value_then t fs) gs = value_then t (formals_append fs gs)
formals_append (variable_then t fs) gs = variable_then t (formals_append fs gs)
formals_append (procedure_then h fs) gs = procedure_then h (formals_append fs gs)

abbrev pub formals_count : Formals → ℕ
formals_count no_formal = 0
formals_count (value_then t fs) = suc (formals_count fs)
formals_count (variable_then t fs) = suc (formals_count fs)
formals_count (procedure_then h fs) = suc (formals_count fs)

-- what a block keeps of its parameters
abbrev pub parameters_of : Formals → List Parameter
parameters_of no_formal = []
parameters_of (value_then t fs) = slot.Value t ∷ parameters_of fs
parameters_of (variable_then t fs) = slot.Var t ∷ parameters_of fs
parameters_of (procedure_then h fs) = slot.Formal (heading_result h) ∷ parameters_of fs
