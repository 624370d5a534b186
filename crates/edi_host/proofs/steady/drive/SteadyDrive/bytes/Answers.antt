use Rattle.std.proofs.Common.{◌≡◌, map, subst}
use Rattle.edi_host.specs.Blocks.{block_of}
use Rattle.edi_host.proofs.DriveBlocks.{told_as_kept}
use Rattle.edi_host.proofs.steady.drive.SteadyDrive.bytes.Goals as goal

pub returns-clause-tells : goal.returns-clause-tells
returns-clause-tells c = subst (λ blocks. map block_of blocks ≡ blocks) c.self.view_is (told_as_kept c.self.inside.blocks.items c.self.invariant.1)
