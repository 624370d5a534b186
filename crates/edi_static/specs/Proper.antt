-- Words of contracts. What is kept with the numbers that an environment names: whatever a name means is known.
use Rattle.std.specs.Prelude.{◌≡◌, ℕ, ◌<◌, IsTrue, List, [], ◌∷◌, length}
use Rattle.edi_scope.specs.declared.entity.Entity.{Entity}
use Rattle.edi_scope.specs.declared.entity.Entity.TheVariants as entity
use Rattle.edi_scope.specs.Scope.{Scope}
use Rattle.edi_unit.specs.Types.{Shape, is_elementary}
use Rattle.edi_unit.specs.TypeTables.{IsTypeTable}
use Rattle.edi_static.specs.Environment.{Environment}

-- the type of a constant is known and elementary, any other type is known, and so are the block of a procedure and the
-- heading of a procedure parameter, of which there are so many
abbrev pub NumbersFit : (types : List Shape) → (blocks shapes : ℕ) → Entity → Type 0
NumbersFit types blocks shapes (entity.Constant of n) = (of < length types) × IsTrue (is_elementary types of)
NumbersFit types blocks shapes (entity.Types t) = t < length types
NumbersFit types blocks shapes (entity.Variable block variable of) = of < length types
NumbersFit types blocks shapes (entity.Procedure block) = block < blocks
NumbersFit types blocks shapes (entity.Formal block variable shape) = shape < shapes
NumbersFit types blocks shapes entity.Halt = Unit {0}

-- what this entity names is known
abbrev pub EntityFits : Environment → Entity → Type 0
EntityFits env means = NumbersFit env.types (length env.headings) (length env.shapes) means

abbrev pub NamesFit : (Entity → Type 0) → List (List ℕ × Entity) → Type 0
NamesFit P [] = Unit {0}
NamesFit P (named ∷ names) = P named.1 × NamesFit P names

abbrev pub ScopesFit : (Entity → Type 0) → List Scope → Type 0
ScopesFit P [] = Unit {0}
ScopesFit P (scope ∷ outer) = NamesFit P scope.names × ScopesFit P outer

-- the types are a table, what each name means is known, and each block has a heading
pub record Proper (env : Environment) : Type 0 where
  pub table : IsTypeTable env.types
  pub entities : ScopesFit (EntityFits env) env.scopes
  pub headings : length env.headings ≡ length env.blocks
