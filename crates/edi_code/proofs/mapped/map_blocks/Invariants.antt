use Rattle.std.proofs.Common.{◌≡◌, ℕ, length, Some, slice_get}
use Rattle.std.specs.Prelude.{map}
use Rattle.edi_unit.specs.View.{block_of}
use Rattle.edi_code.specs.Mapped.{IsMappedBlock}
use Rattle.edi_code.specs.declared.mapped.MappedBlock.{MappedBlock}
use Rattle.edi_code.proofs.mapped.map_blocks.Given as goal

abbrev pub invariant-loop-block : goal.invariant-loop-block
invariant-loop-block l = record {
  all : length l.mapped.items ≡ l.block;
  each : (b : ℕ) (x : MappedBlock) → slice_get l.mapped.items b ≡ Some x → IsMappedBlock l.types (map block_of l.blocks) b x;
}
