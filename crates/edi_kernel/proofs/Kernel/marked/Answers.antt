-- The marks that the kernel's state counts.
use Rattle.std.proofs.Common.{subst, sym, None}
use Rattle.edi_kernel.specs.declared.state.KernelState.{KernelState}
use Rattle.edi_kernel.specs.Kernel.{Holds}
use Rattle.edi_kernel.proofs.Kernel.marked.Goals as goal

pub returns-clause-marks : goal.returns-clause-marks
returns-clause-marks c = λ m ready h. c.marked.ensures.marks m ready (subst (λ (k : KernelState). Holds k m None ready) (sym c.self.view_is) h)
