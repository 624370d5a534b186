use Rattle.std.proofs.Common.{refl, subst}
use Rattle.edi_walk.specs.Processes.{LivesAt, NoneLives}
use Rattle.edi_walk.proofs.Births.{enlists_new_so, enlists_there}
use Rattle.edi_walk.proofs.walker.Walker.enlist.Goals as goal

pub returns-in-Some-clause-exact : goal.returns-in-Some-clause-exact
returns-in-Some-clause-exact c =
    enlists_there c.args.process c.in-Some.index c.args.self.now.live.items c.exchange-old.new.items.items
    (subst (λ n. LivesAt n c.in-Some.index c.args.self.now.live.items) c.deref.ensures.value c.in-Some.ensures.exact) c.exchange-old.ensures.exact

pub returns-in-None-clause-exact : goal.returns-in-None-clause-exact
returns-in-None-clause-exact c =
    enlists_new_so c.add.result c.args.process c.args.self.now.live.items c.add.new.items.items
    (subst (λ n. NoneLives n c.args.self.now.live.items) c.deref.ensures.value (c.in-None.ensures.none refl)) c.add.ensures.exact
