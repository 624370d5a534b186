-- The choice of the kernel's state.
use Rattle.std.proofs.Common.{subst, sym, None}
use Rattle.edi_kernel.specs.declared.state.KernelState.{KernelState}
use Rattle.edi_kernel.specs.Kernel.{Holds}
use Rattle.edi_kernel.specs.Named.{HoldsBy}
use Rattle.edi_kernel.proofs.Kernel.choose.Goals as goal

pub returns-clause-exact : goal.returns-clause-exact
returns-clause-exact c = λ drawn m ready h. c.choose.ensures.exact drawn m ready (subst (λ (k : KernelState). Holds k m None ready) (sym c.self.view_is) h)

pub returns-clause-names : goal.returns-clause-names
returns-clause-names c =
    λ drawn n m ready h. c.choose.ensures.names drawn n m ready (subst (λ (k : KernelState). HoldsBy n k m None ready) (sym c.self.view_is) h)
