-- The stretch of the process that is taken.
use Rattle.std.proofs.Common.{refl}
use Rattle.edi_kernel.specs.Stretch.{running_in}
use Rattle.edi_kernel.proofs.Stretches.{stretches_begun}
use Rattle.edi_kernel.proofs.state.KernelState.walk.Goals as goal

pub returns-clause-exact : goal.returns-clause-exact
returns-clause-exact g c =
    stretches_begun c.args.code.now.words c.args.self.now.store _ _ _ c.args.progress.now _ _ _ c.advance.result
    (λ t. running_in c.advance.new.store c.advance.new.progress.activity t c.advance.new.progress.left) c.advance.new.progress.cleared
    refl c.requires.begins c.advance.ensures.exact
