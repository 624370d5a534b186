use Rattle.std.proofs.Common.{length, Err, sym, ap, ◌∙◌, rules}
use Rattle.edi_calls.specs.Forks.{equal_share}
use Rattle.edi_walk.specs.declared.stop.Stop.TheVariants as stop
use Rattle.edi_calls.specs.declared.kinds.Cause.TheVariants as cause
use Rattle.edi_walk.proofs.Births.{above_limit, forks_follow, room_for_all, too_large, too_many, within_limit}
use Rattle.edi_walk.proofs.Onward.{got_there}
use Rattle.edi_walk.proofs.walker.Walker.fork.Goals as goal

pub returns-then-saturating_add-gt-MOST_PROCESSES-clause-exact : goal.returns-then-saturating_add-gt-MOST_PROCESSES-clause-exact
returns-then-saturating_add-gt-MOST_PROCESSES-clause-exact c =
    forks_follow c.args.index c.args.branches c.args.line c.args.self.now c.args.self.now (Err (stop.Failed cause.ProcessLimit c.args.line))
    (too_many c.args.index c.args.branches c.args.line c.args.self.now c.args.self.now
    (above_limit (length c.args.self.now.live.items) (length c.args.branches.now) c.saturating_add.result (search rules) c.if-saturating_add-gt-MOST_PROCESSES.true))

pub returns-then-exceeds-clause-exact : goal.returns-then-exceeds-clause-exact
returns-then-exceeds-clause-exact c =
    let old = c.args.self.now in
    let p = c.index.result.now in
    forks_follow c.args.index c.args.branches c.args.line old old (Err (stop.Failed cause.VariableLimit c.args.line))
    (too_large c.args.index c.args.branches c.args.line old old
    (within_limit (length old.live.items) (length c.args.branches.now) c.saturating_add.result (search rules) c.if-saturating_add-gt-MOST_PROCESSES.false) p
    (got_there old.live.items c.args.index p c.requires.inside c.index.ensures) c.equal_share-share.result
    (c.equal_share-share.ensures.exact ∙ ap (λ r. equal_share r (length c.args.branches.now)) c.room.ensures.exact) (sym c.exceeds.ensures.exact ∙ c.if-exceeds.true))

pub returns-clause-exact : goal.returns-clause-exact
returns-clause-exact c =
    let old = c.args.self.now in
    let p = c.index.result.now in
    forks_follow c.args.index c.args.branches c.args.line old c.forked.new.self c.forked.result
    (room_for_all c.args.index c.args.branches c.args.line old c.forked.new.self
    (within_limit (length old.live.items) (length c.args.branches.now) c.saturating_add.result (search rules) c.if-saturating_add-gt-MOST_PROCESSES.false) p
    (got_there old.live.items c.args.index p c.requires.inside c.index.ensures) c.equal_share-share.result
    (c.equal_share-share.ensures.exact ∙ ap (λ r. equal_share r (length c.args.branches.now)) c.room.ensures.exact) (sym c.exceeds.ensures.exact ∙ c.if-exceeds.false)
    c.forked.result c.forked.ensures.exact)
