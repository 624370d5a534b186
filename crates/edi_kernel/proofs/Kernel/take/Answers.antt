-- The process that the kernel's state takes.
use Rattle.std.proofs.Common.{subst, sym, None}
use Rattle.edi_kernel.specs.declared.state.KernelState.{KernelState}
use Rattle.edi_kernel.specs.Kernel.{Holds}
use Rattle.edi_kernel.proofs.Kernel.take.Goals as goal

pub returns-clause-exact : goal.returns-clause-exact
returns-clause-exact c = λ m ready h. c.take.ensures.exact m ready (subst (λ (k : KernelState). Holds k m None ready) (sym c.self.view_is) h)
