-- What holds of an environment at each place of a sound program, and what it is for constructs to fit there.
use Rattle.std.specs.Prelude.{◌≡◌, ℕ, zero, suc, ◌<◌, ◌≤◌, Bool, IsTrue, List, [], ◌∷◌, length, take, All, Option, Some, None, slice_get, slice_index_or}
use Rattle.std.specs.Prelude.{◌==◌}
use Rattle.std.specs.List.{list_any}
use Rattle.edi_scope.specs.declared.entity.Entity.{Entity}
use Rattle.edi_scope.specs.declared.entity.Entity.TheVariants as entity
use Rattle.edi_unit.specs.declared.units.Parameter.{Parameter}
use Rattle.edi_unit.specs.Types.{Shape, shape_at, fields_of, is_ordinal_of, standard_types}
use Rattle.edi_unit.specs.TypeTables.{AreDeclared}
use Rattle.edi_unit.specs.Tree.{Block}
use Rattle.edi_unit.specs.Need.{block_at, slots, slot_type, slot_result, callee_result, expression_type, place_type}
use Rattle.edi_unit.specs.Fits.{ShapesFit}
use Rattle.edi_unit.specs.Headings.{Heading, heading, Formals, no_formal, value_then, variable_then, procedure_then, heading_result, heading_formals}
use Rattle.edi_unit.specs.Fits.{callee_heading, is_variable, is_procedure, greatest_levels, is_called, CalleeFits, ExpressionFits, PlaceFits, ActsFit}
use Rattle.edi_unit.specs.Fits.{SlotIsKnown, KindFits}
use Rattle.edi_static.specs.Environment.{Environment, here, no_heading, heading_at, parameters_of}
use Rattle.edi_static.specs.Operators.{Typed}
use Rattle.edi_static.specs.Fitting.{Called, Use, constructs, calls, halts, neither}
use Rattle.edi_static.specs.Expressions.{Located}
use Rattle.edi_static.specs.Proper.{ScopesFit}

-- ---- headings of procedure parameters: those of the block's own heading

-- the heading of the procedure parameter at this place of a list
abbrev pub asked_at : Formals → ℕ → Heading
asked_at no_formal n = no_heading
asked_at (value_then t fs) zero = no_heading
asked_at (value_then t fs) (suc n) = asked_at fs n
asked_at (variable_then t fs) zero = no_heading
asked_at (variable_then t fs) (suc n) = asked_at fs n
asked_at (procedure_then h fs) zero = h
asked_at (procedure_then h fs) (suc n) = asked_at fs n

-- the heading of a variable of a block that has this heading; a function variable stands before the parameters
abbrev pub variable_heading : Heading → ℕ → Heading
variable_heading (heading fs None) v = asked_at fs v
variable_heading (heading fs (Some t)) zero = no_heading
variable_heading (heading fs (Some t)) (suc v) = asked_at fs v

abbrev pub headings_of : List Heading → ℕ → ℕ → Heading
headings_of headings b = variable_heading (heading_at headings b)

-- ---- entities

abbrev pub is_round : ℕ → List ℕ → Bool
is_round b around = list_any (λ a. a == b) around

-- the slot of a variable of a block
abbrev pub slot_of : List Block → ℕ → ℕ → Option Parameter
slot_of blocks b v = slice_get (slots (block_at blocks b)) v

-- what an entity names is there, with the type, kind and heading that the entity says; the block of a variable, and the block
-- round that of a procedure, is one of these
abbrev pub Names : List Shape → List Block → (headings shapes : List Heading) → (around : List ℕ) → Entity → Type 0
Names types blocks headings shapes around (entity.Constant of n) = (of < length types) × IsTrue (is_ordinal_of (shape_at types of) n)
Names types blocks headings shapes around (entity.Types t) = t < length types
Names types blocks headings shapes around (entity.Variable b v of) =
    IsTrue (is_round b around) × IsTrue (is_variable (slot_of blocks b v)) × (slot_type (slot_of blocks b v) ≡ of)
Names types blocks headings shapes around (entity.Procedure b) =
    (b < length blocks) × IsTrue (is_called (block_at blocks b).kind) × IsTrue (is_round (block_at blocks b).up around)
Names types blocks headings shapes around (entity.Formal b v shape) =
    IsTrue (is_round b around)
    × IsTrue (is_procedure (slot_of blocks b v))
    × (slot_result (slot_of blocks b v) ≡ heading_result (heading_at shapes shape))
    × (shape < length shapes)
    × (headings_of headings b v ≡ heading_at shapes shape)
Names types blocks headings shapes around entity.Halt = Unit {0}

abbrev pub EntitySits : Environment → Entity → Type 0
EntitySits env means = Names env.types env.blocks env.headings env.shapes env.around means

-- ---- blocks

-- each of these blocks is there, and stands in the next
abbrev pub StandsIn : List Block → ℕ → List ℕ → Type 0
StandsIn blocks b [] = Unit {0}
StandsIn blocks b (a ∷ around) = (block_at blocks b).up ≡ a

abbrev pub IsChain : List Block → List ℕ → Type 0
IsChain blocks [] = Unit {0}
IsChain blocks (b ∷ around) = (b < length blocks) × StandsIn blocks b around × IsChain blocks around

-- a block that fits as far as it goes; its need may be still to come
pub record BlockStands (types : List Shape) (blocks : List Block) (headings : List Heading) (n : ℕ) : Type 0 where
  pub fits_kind : KindFits (block_at blocks n).kind n (block_at blocks n)
  pub outermost : n ≡ 0 → (block_at blocks n).up ≡ 0
  pub inner : 0 < n → (block_at blocks n).up < n
  pub known : All (SlotIsKnown types) (slots (block_at blocks n))
  pub parameters : (block_at blocks n).parameters ≡ parameters_of (heading_formals (heading_at headings n))
  pub result : (block_at blocks n).result ≡ heading_result (heading_at headings n)
  pub statements : ActsFit types blocks (headings_of headings) n (block_at blocks n).body

-- ---- environments

-- a table of types, however long
pub record IsTable (types : List Shape) : Type 0 where
  pub three : 3 ≤ length types
  pub standard : take 3 types ≡ standard_types
  pub declared : AreDeclared types

-- the types, each with the names of its fields, of which there are no more than fields
pub record TypesSit (types : List Shape) (names : List (List (List ℕ))) : Type 0 where
  pub table : IsTable types
  pub shapes : ShapesFit types
  pub field_lists : length names ≡ length types
  pub fields : (t : ℕ) → length (slice_index_or names t []) ≤ length (fields_of (shape_at types t))

-- the blocks round a place, from the inside out
pub record Nested (blocks : List Block) (around : List ℕ) : Type 0 where
  pub chain : IsChain blocks around
  pub near : length around ≤ greatest_levels

pub record Sits (env : Environment) : Type 0 where
  pub types : TypesSit env.types env.fields
  pub as_many : length env.headings ≡ length env.blocks
  pub stand : (n : ℕ) → n < length env.blocks → BlockStands env.types env.blocks env.headings n
  pub nested : Nested env.blocks env.around
  pub names : ScopesFit (EntitySits env) env.scopes

-- ---- what constructs give

pub record TypedFits (env : Environment) (v : Typed) : Type 0 where
  pub has_type : expression_type env.types env.blocks (here env) v.what ≡ v.of
  pub fits : ExpressionFits env.types env.blocks (headings_of env.headings) (here env) v.what

pub record LocatedFits (env : Environment) (l : Located) : Type 0 where
  pub has_type : place_type env.types env.blocks (here env) l.at ≡ l.of
  pub fits : PlaceFits env.types env.blocks (headings_of env.headings) (here env) l.at

pub record CalledFits (env : Environment) (c : Called) : Type 0 where
  pub callee : CalleeFits env.blocks (here env) c.callee
  pub asks : callee_heading (headings_of env.headings) env.blocks (here env) c.callee ≡ c.asks
  pub result : callee_result env.blocks (here env) c.callee ≡ heading_result c.asks

abbrev pub UseFits : Environment → Use → Type 0
UseFits env (constructs of) = of < length env.types
UseFits env (calls c) = CalledFits env c
UseFits env halts = Unit {0}
UseFits env neither = Unit {0}
