use Rattle.std.proofs.Common.{rules}
use Rattle.edi_walk.proofs.Exits.{freed_so}
use Rattle.edi_walk.proofs.walker.Walker.free.Goals as goal

pub returns-in-Ok-clause-exact : goal.returns-in-Ok-clause-exact
returns-in-Ok-clause-exact c =
    freed_so c.add.result c.args.parent.now c.args.index c.args.self.now (record c.stand.new.self { listed = c.add.new.items }) c.in-Ok.name c.stand.ensures.live (search rules)
    (search rules) (search rules)
