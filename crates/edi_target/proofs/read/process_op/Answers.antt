use Rattle.std.proofs.Common.{arith}
use Rattle.edi_target.proofs.Reading.{no_row}
use Rattle.edi_target.proofs.read.process_op.Goals as goal

pub returns-in_default-clause-gives : goal.returns-in_default-clause-gives
returns-in_default-clause-gives c = no_row c.args.number c.args.operands.now (omega arith)
