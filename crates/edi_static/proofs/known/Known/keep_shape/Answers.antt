use Rattle.std.proofs.lemmas.Result.{on_ok_weaker}
use Rattle.edi_static.specs.Views.{environment, asked_of}
use Rattle.edi_static.proofs.Proper.{pushed, shapes_proper}
use Rattle.edi_static.proofs.known.Known.keep_shape.Goals as goal

pub returns-clause-proper : goal.returns-clause-proper
returns-clause-proper c =
    on_ok_weaker c.put.result
    (λ more. shapes_proper _ (asked_of c.in_ok-copy.copy) (environment c.args.self.now) (pushed asked_of _ _ c.in_ok-copy.copy more) c.requires.proper)
    c.put.ensures.ok
