use Rattle.edi_static.specs.Views.{environment}
use Rattle.edi_static.proofs.Proper.{means_known}
use Rattle.edi_static.proofs.known.Known.look_up.Goals as goal

pub returns-in-Some-clause-known : goal.returns-in-Some-clause-known
returns-in-Some-clause-known c =
    λ proper. means_known (environment c.args.self.now) c.as_slice.result.now c.in-Some.entity c.in-Some.ensures.exact proper
