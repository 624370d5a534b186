use Rattle.std.proofs.Common.{◌≡◌, ℕ, Some, slice_get, subst}
use Rattle.std.specs.Prelude.{map, IfOk}
use Rattle.edi_unit.specs.View.{block_of}
use Rattle.edi_code.specs.Mapped.{IsMappedBlock}
use Rattle.edi_code.specs.declared.mapped.MappedBlock.{MappedBlock}
use Rattle.edi_code.proofs.mapped.unit_mapped.Goals as goal

pub returns-clause-each : goal.returns-clause-each
returns-clause-each c =
    subst (λ l. IfOk c.map_blocks.result (λ mapped. (b : ℕ) (x : MappedBlock) → slice_get mapped.items b ≡ Some x →
    IsMappedBlock c.args.unit.now.types (map block_of l) b x)) c.items-blocks.ensures.exact c.map_blocks.ensures.each
