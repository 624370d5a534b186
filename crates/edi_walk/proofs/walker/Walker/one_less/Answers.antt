use Rattle.edi_walk.proofs.Exits.{fewer_freed, fewer_left}
use Rattle.edi_walk.proofs.walker.Walker.one_less.Goals as goal

pub returns-then-children-gt1-clause-exact : goal.returns-then-children-gt1-clause-exact
returns-then-children-gt1-clause-exact c =
    fewer_left c.args.self.now c.stand.new.self c.args.parent.now c.args.index c.args.children c.if-children-gt1.true c.stand.ensures.live c.stand.ensures.others

pub returns-clause-exact : goal.returns-clause-exact
returns-clause-exact c =
    fewer_freed c.args.self.now c.free.new.self c.args.parent.now c.args.index c.args.children c.free.result c.if-children-gt1.false c.free.ensures.exact c.free.ensures.err
