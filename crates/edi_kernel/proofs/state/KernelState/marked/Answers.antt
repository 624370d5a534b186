-- The marks of those that are ready are counted.
use Rattle.edi_kernel.proofs.Again.{mark_count}
use Rattle.edi_kernel.proofs.state.KernelState.marked.Goals as goal

pub returns-clause-marks : goal.returns-clause-marks
returns-clause-marks c = λ m ready h. mark_count c.args.self.now m ready c.requires.kernel c.requires.free h
