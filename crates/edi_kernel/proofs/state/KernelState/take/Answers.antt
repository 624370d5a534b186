-- The process at the index is taken.
use Rattle.std.proofs.Common.{refl, Some, []}
use Rattle.edi_calls.specs.Choice.{listed}
use Rattle.edi_trace.specs.Drawn.{Drawn}
use Rattle.edi_kernel.proofs.PutBacks.{takes}
use Rattle.edi_kernel.proofs.Choosing.{chosen_kernel}
use Rattle.edi_kernel.proofs.state.KernelState.take.Goals as goal

-- nothing is drawn
none : Drawn
none = record { source = listed []; drawn = 0 }

pub returns-clause-exact : goal.returns-clause-exact
returns-clause-exact c =
    takes c.args.self.now (record c.args.self.now { table = c.next-slot.new.self; taken = Some c.next-slot.result }) c.args.index c.next-slot.result
    c.requires.kernel c.requires.free c.next-slot.ensures.slot c.next-slot.ensures.was c.next-slot.ensures.taken refl refl

pub returns-clause-kernel : goal.returns-clause-kernel
returns-clause-kernel c =
    chosen_kernel c.args.self.now (record c.args.self.now { table = c.next-slot.new.self; taken = Some c.next-slot.result }) c.args.index c.next-slot.result
    none none
    c.requires.kernel c.requires.free c.next-slot.ensures.slot c.next-slot.ensures.was c.next-slot.ensures.taken refl refl refl
