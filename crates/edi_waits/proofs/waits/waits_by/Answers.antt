-- At a standstill.
use Rattle.std.proofs.Common.{subst}
use Rattle.edi_kernel.specs.declared.ends.Ending.{Ending}
use Rattle.edi_waits.specs.Runs.{EndsNamed}
use Rattle.edi_waits.proofs.waits.waits_by.Goals as goal

pub returns-in_ok-waits_at-in-Standstill-clause-exact : goal.returns-in_ok-waits_at-in-Standstill-clause-exact
returns-in_ok-waits_at-in-Standstill-clause-exact c = λ s bound old new named.
    c.in_ok-waits_at-in-Standstill.ensures.exact s bound old new
    (subst (λ (e : Ending). EndsNamed c.args.code.now s bound old e c.args.kernel.now new c.args.names.now) c.in-Standstill.is named)
