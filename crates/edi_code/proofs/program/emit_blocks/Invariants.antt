use Rattle.std.specs.Prelude.{map}
use Rattle.edi_unit.specs.View.{block_of}
use Rattle.edi_scheme.specs.Code.{blocks_code}
use Rattle.edi_code.specs.Emits.{Emits}
use Rattle.edi_code.proofs.program.emit_blocks.Given as goal

abbrev pub invariant-loop-block : goal.invariant-loop-block
invariant-loop-block l = Emits l.fn.out.items l.out.items (blocks_code l.types (map block_of l.blocks) l.block)
