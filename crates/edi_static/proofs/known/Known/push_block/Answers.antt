use Rattle.std.proofs.lemmas.Result.{on_ok_weaker}
use Rattle.edi_unit.specs.View.{block_of}
use Rattle.edi_static.specs.Views.{environment, asked_of}
use Rattle.edi_static.proofs.Proper.{pushed, blocks_proper}
use Rattle.edi_static.proofs.known.Known.push_block.Goals as goal

pub returns-clause-proper : goal.returns-clause-proper
returns-clause-proper c =
    on_ok_weaker c.put-2.result
    (λ more. blocks_proper _ _ _ (asked_of c.args.asked) (environment c.args.self.now) (pushed block_of _ _ _ c.in_ok-put.ensures.ok)
    (pushed asked_of _ _ c.args.asked more) c.requires.proper)
    c.put-2.ensures.ok
