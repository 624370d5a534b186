use Rattle.std.proofs.Common.{rules}
use Rattle.edi_host.proofs.DriveBlocks.{blocks_resized, told_resize}
use Rattle.edi_host.proofs.steady.drive.SteadyDriveDrive.resize.Goals as goal

pub invariant_of-self : goal.invariant_of-self
invariant_of-self c = (
  search rules,
  blocks_resized c.match-resize.result c.args.n c.self.inside.blocks.items c.resize.new.self.items c.self.invariant.1
      (search rules),
)

pub returns-clause-tells : goal.returns-clause-tells
returns-clause-tells c = told_resize c.match-resize.result c.args.n c.args.self.now _ (search rules)
