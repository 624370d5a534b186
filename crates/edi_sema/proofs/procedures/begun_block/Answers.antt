use Rattle.std.proofs.Common.{ap, ◌∙◌}
use Rattle.edi_static.specs.Views.{environment}
use Rattle.edi_sema.specs.Splits.{block_named}
use Rattle.edi_sema.proofs.procedures.begun_block.Goals as goal

pub returns : goal.returns
returns c = record { exact = c.block_of.ensures.exact ∙ ap (block_named (environment c.args.known.now).begun) c.as_slice.ensures.all }
