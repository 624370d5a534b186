use Rattle.std.proofs.Common.{rules}
use Rattle.edi_host.specs.declared.drive.DriveEnd.TheVariants as drive
use Rattle.edi_host.proofs.DriveBlocks.{blocks_set, told_write}
use Rattle.edi_host.proofs.steady.drive.SteadyDriveDrive.write.Goals as goal

pub invariant_of-self : goal.invariant_of-self
invariant_of-self c = (search rules, blocks_set c.self.inside.blocks.items c.args.n c.args.from.now c.self.invariant.1 (search rules))

pub returns-clause-tells : goal.returns-clause-tells
returns-clause-tells c = told_write drive.Ok c.args.n c.args.from.now c.args.self.now _ (search rules) (search rules)
