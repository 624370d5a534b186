use Rattle.std.proofs.Common.{rules}
use Rattle.edi_walk.proofs.Onward.{gone_back}
use Rattle.edi_walk.proofs.walker.Walker.back.Goals as goal

pub returns-clause-exact : goal.returns-clause-exact
returns-clause-exact c =
    gone_back c.add.result c.args.index c.args.standing c.args.self.now _ c.stand.ensures.live (search rules) (search rules)
