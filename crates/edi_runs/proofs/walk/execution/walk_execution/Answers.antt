use Rattle.std.proofs.Common.{◌≡◌, subst, ◌∙◌}
use Rattle.edi_unit.specs.View.{unit_of}
use Rattle.edi_system.proofs.Chained.{behind_none, keeps_on, keeps_told_on, told_behind, told_then}
use Rattle.edi_system.proofs.Lasting.{valid_ready}
use Rattle.edi_execute.proofs.Executing.{run_keeps}
use Rattle.edi_system.specs.AsCalls.{HasFailed}
use Rattle.edi_system.specs.State.{failed_in}
use Rattle.edi_walk.specs.Ends.{WalkFaultsBy, WalksTo}
use Rattle.edi_runs.proofs.walk.Walking.{before_end, blamed, failed_so, named}
use Rattle.edi_runs.proofs.walk.execution.walk_execution.Goals as goal

pub returns-clause-exact : goal.returns-clause-exact
returns-clause-exact g c =
    told_then _ _ _ _ _ _
    (λ x y z same walks. subst (λ s. WalksTo (unit_of c.args.unit.now) s c.args.bound c.args.choices.now c.walk.result z c.walk.new.choices) same walks)
    c.begin_program.ensures.exact c.walk.ensures.exact

pub returns-clause-asked : goal.returns-clause-asked
returns-clause-asked g c =
    told_then _ _ _ _ _ _
    (λ x y z same faults. subst
    (λ s. WalkFaultsBy (λ o. failed_in c.walk.new.calls ≡ o) (unit_of c.args.unit.now) s c.args.bound c.args.choices.now c.walk.result z c.walk.new.choices) same
    (failed_so (HasFailed g.D.Drive.contents g.D.Drive.count g.S.Source.left c.walk.new.calls) (λ o. failed_in c.walk.new.calls ≡ o) (unit_of c.args.unit.now) y c.args.bound
    c.args.choices.now c.walk.result z c.walk.new.choices (λ o h. h.is) faults))
    c.begin_program.ensures.exact c.walk.ensures.asked

pub returns-clause-before_end : goal.returns-clause-before_end
returns-clause-before_end g c = before_end g.D.Drive.contents g.D.Drive.count g.S.Source.left c.walk.new.calls _ _ c.walk.result c.walk.ensures.blame

pub returns-clause-failed : goal.returns-clause-failed
returns-clause-failed g c = named g.D.Drive.contents g.D.Drive.count g.S.Source.left c.walk.new.calls _ _ c.walk.result c.walk.ensures.blame

pub returns-clause-told : goal.returns-clause-told
returns-clause-told g c =
    keeps_told_on g.D.Drive.contents g.S.Source.left g.T.Sink.taken g.P.Sink.taken c.args.system.now c.begin_program.new.self c.walk.new.calls
    c.begin_program.ensures.told
    (told_behind g.D.Drive.contents g.D.Drive.count g.S.Source.left g.T.Sink.taken g.P.Sink.taken c.begin_program.new.self c.walk.new.calls
    (valid_ready g.D.Drive.contents g.D.Drive.count c.begin_program.new.self c.begin_program.ensures.ready)
    (c.walk.ensures.lasts.2 c.begin_program.new.self
    (behind_none g.D.Drive.contents g.D.Drive.count g.S.Source.left g.T.Sink.taken g.P.Sink.taken c.begin_program.new.self)))

pub returns-clause-due : goal.returns-clause-due
returns-clause-due g c = λ start since.
    (c.walk.ensures.lasts.2 c.begin_program.new.self
    (behind_none g.D.Drive.contents g.D.Drive.count g.S.Source.left g.T.Sink.taken g.P.Sink.taken c.begin_program.new.self)).due
    start (c.begin_program.ensures.due start since)

pub returns-clause-size : goal.returns-clause-size
returns-clause-size g c =
    (c.walk.ensures.lasts.2 c.begin_program.new.self
    (behind_none g.D.Drive.contents g.D.Drive.count g.S.Source.left g.T.Sink.taken g.P.Sink.taken c.begin_program.new.self)).count_
    ∙ c.begin_program.ensures.size

pub returns-clause-keeps : goal.returns-clause-keeps
returns-clause-keeps g c =
    keeps_on g.D.Drive.faults g.S.Source.faults g.T.Sink.faults g.P.Sink.faults _ c.args.system.now c.begin_program.new.self c.walk.new.calls
    c.begin_program.ensures.keeps
    (run_keeps g.D.Drive.faults g.S.Source.faults g.T.Sink.faults g.P.Sink.faults _ c.begin_program.new.self c.walk.new.calls c.walk.ensures.lasts.1
    c.walk.ensures.lasts.0 (blamed g.D.Drive.contents g.D.Drive.count g.S.Source.left c.walk.new.calls _ _ c.walk.result c.walk.ensures.blame))
