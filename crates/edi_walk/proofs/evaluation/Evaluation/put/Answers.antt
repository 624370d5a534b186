use Rattle.std.proofs.Common.{refl}
use Rattle.edi_walk.proofs.Arms.{put_one}
use Rattle.edi_walk.proofs.evaluation.Evaluation.put.Goals as goal

pub returns-clause-exact : goal.returns-clause-exact
returns-clause-exact c = put_one c.args.self.now _ c.args.frame c.add.result c.add.ensures.exact refl c.add.ensures.err

pub returns-clause-err : goal.returns-clause-err
returns-clause-err c = c.add.ensures.err
