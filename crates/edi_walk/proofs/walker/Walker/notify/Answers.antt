use Rattle.std.proofs.Common.{◌≡◌, sym, ◌∙◌}
use Rattle.edi_walk.specs.declared.process.Standing.TheVariants as stands
use Rattle.edi_walk.proofs.Exits.{idle_parent, less_calm, less_parent}
use Rattle.edi_walk.proofs.Onward.{got_there}
use Rattle.edi_walk.proofs.walker.Walker.notify.Goals as goal

pub returns-in-Ready-clause-exact : goal.returns-in-Ready-clause-exact
returns-in-Ready-clause-exact c =
    idle_parent c.args.self.now c.args.parent.now c.args.index c.index.result.now tt (got_there c.args.self.now.live.items c.args.index c.index.result.now c.requires.inside c.index.ensures)
    (λ n e. let f : stands.Ready ≡ stands.Waiting n = sym c.in-Ready.is ∙ e in absurd (cc))

pub returns-in-AtWhen-clause-exact : goal.returns-in-AtWhen-clause-exact
returns-in-AtWhen-clause-exact c =
    idle_parent c.args.self.now c.args.parent.now c.args.index c.index.result.now tt (got_there c.args.self.now.live.items c.args.index c.index.result.now c.requires.inside c.index.ensures)
    (λ n e. let f : stands.AtWhen _ ≡ stands.Waiting n = sym c.in-AtWhen.is ∙ e in absurd (cc))

pub returns-in-Waiting-clause-exact : goal.returns-in-Waiting-clause-exact
returns-in-Waiting-clause-exact c =
    less_parent c.args.self.now c.one_less.new.self c.args.parent.now c.args.index c.in-Waiting.children c.index.result.now c.one_less.result
    (got_there c.args.self.now.live.items c.args.index c.index.result.now c.requires.inside c.index.ensures) c.in-Waiting.is c.one_less.ensures.exact

pub returns-in-Waiting-clause-calm : goal.returns-in-Waiting-clause-calm
returns-in-Waiting-clause-calm c =
    less_calm c.args.parent.now c.args.index c.one_less.result c.args.self.now c.one_less.new.self
    (less_parent c.args.self.now c.one_less.new.self c.args.parent.now c.args.index c.in-Waiting.children c.index.result.now c.one_less.result
    (got_there c.args.self.now.live.items c.args.index c.index.result.now c.requires.inside c.index.ensures) c.in-Waiting.is c.one_less.ensures.exact)
