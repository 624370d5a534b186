use Rattle.std.proofs.Common.{sym, subst}
use Rattle.edi_walk.specs.Walkers.{Follows}
use Rattle.edi_walk.specs.declared.process.Standing.TheVariants as stands
use Rattle.edi_walk.proofs.Onward.{back_free, calm_for_memory, goes_follow, stands_follow}
use Rattle.edi_walk.proofs.walker.Walker.follow.Goals as goal

pub returns-in-Goes-clause-exact : goal.returns-in-Goes-clause-exact
returns-in-Goes-clause-exact c =
    subst (λ a. Follows a c.args.index c.back.result c.args.self.now c.back.new.self) (sym c.in-Goes.is)
    (goes_follow c.args.index c.back.result c.args.self.now c.back.new.self c.back.ensures.exact c.back.ensures.err)

pub returns-in-Goes-clause-free : goal.returns-in-Goes-clause-free
returns-in-Goes-clause-free c =
    back_free c.back.result c.args.index stands.Ready c.args.self.now c.back.new.self c.back.ensures.exact c.requires.free

pub returns-in-Goes-clause-calm : goal.returns-in-Goes-clause-calm
returns-in-Goes-clause-calm c =
    calm_for_memory c.back.result c.back.ensures.err

pub returns-in-Stands-clause-exact : goal.returns-in-Stands-clause-exact
returns-in-Stands-clause-exact c =
    subst (λ a. Follows a c.args.index c.back-in-Stands.result c.args.self.now c.back-in-Stands.new.self) (sym c.in-Stands.is)
    (stands_follow c.args.index c.in-Stands.clauses c.back-in-Stands.result c.args.self.now c.back-in-Stands.new.self c.back-in-Stands.ensures.exact c.back-in-Stands.ensures.err)

pub returns-in-Stands-clause-free : goal.returns-in-Stands-clause-free
returns-in-Stands-clause-free c =
    back_free c.back-in-Stands.result c.args.index (stands.AtWhen c.in-Stands.clauses) c.args.self.now c.back-in-Stands.new.self c.back-in-Stands.ensures.exact c.requires.free

pub returns-in-Stands-clause-calm : goal.returns-in-Stands-clause-calm
returns-in-Stands-clause-calm c =
    calm_for_memory c.back-in-Stands.result c.back-in-Stands.ensures.err

pub returns-in-Forks-clause-exact : goal.returns-in-Forks-clause-exact
returns-in-Forks-clause-exact c =
    subst (λ a. Follows a c.args.index c.fork.result c.args.self.now c.fork.new.self) (sym c.in-Forks.is)
    (c.fork.ensures.exact)

pub returns-in-Leaves-clause-exact : goal.returns-in-Leaves-clause-exact
returns-in-Leaves-clause-exact c =
    subst (λ a. Follows a c.args.index c.leave.result c.args.self.now c.leave.new.self) (sym c.in-Leaves.is)
    (c.leave.ensures.exact c.args.index)
