-- Words of contracts. What is kept of where `when`s stand, with where variables stand, and what it stands for.
use Rattle.std.specs.Prelude.{◌≡◌, ℕ, List, length, Some, slice_get}
use Rattle.edi_unit.specs.Types.{Shape}
use Rattle.edi_unit.specs.Tree.{Act, Acts, Clause, Clauses, Block, ProgramUnit}
use Rattle.edi_unit.specs.Need.{block_at, slots}
use Rattle.edi_scheme.specs.Pieces.{ClauseKind}
use Rattle.edi_scheme.specs.Laws.{parts_of}
use Rattle.edi_scheme.specs.Awaits as scheme
use Rattle.edi_scheme.specs.Awaits.{block_awaits}
use Rattle.edi_code.specs.Scope.{types_in, blocks_in}
use Rattle.edi_code.specs.declared.scope.Scope.{Scope}
use Rattle.edi_code.specs.Stored.{stored_from}
use Rattle.edi_code.specs.declared.mapped.MappedBlock.{MappedBlock}
use Rattle.edi_code.specs.declared.mapped.Mapped.{Mapped}

-- ---- the `when`s, in a scope

abbrev pub act_awaits : Scope → Act → ℕ → List ℕ
act_awaits s = scheme.act_awaits (types_in s) (blocks_in s) s.block

abbrev pub acts_awaits : Scope → Acts → ℕ → List ℕ
acts_awaits s = scheme.acts_awaits (types_in s) (blocks_in s) s.block

abbrev pub clauses_awaits : Scope → ClauseKind → Clauses → ℕ → List ℕ
clauses_awaits s = scheme.clauses_awaits (types_in s) (blocks_in s) s.block

abbrev pub clause_awaits : Scope → Clause → ℕ → List ℕ
clause_awaits s = scheme.clause_awaits (types_in s) (blocks_in s) s.block

-- ---- all of it

pub record IsMappedBlock (types : List Shape) (blocks : List Block) (b : ℕ) (m : MappedBlock) : Type 0 where
  pub up : m.up ≡ (block_at blocks b).up
  pub awaits : m.awaits.items ≡ block_awaits types blocks b
  pub variables : m.variables.items ≡ stored_from types (slots (block_at blocks b)) 5

-- this is known of a program
pub record IsMapped (unit : ProgramUnit) (m : Mapped) : Type 0 where
  pub code : m.code ≡ parts_of unit
  pub all : length m.blocks.items ≡ length unit.blocks
  pub each : (b : ℕ) (x : MappedBlock) → slice_get m.blocks.items b ≡ Some x → IsMappedBlock unit.types unit.blocks b x
