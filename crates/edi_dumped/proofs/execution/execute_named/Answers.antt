use Rattle.std.proofs.Common.{refl, subst, sym, ◌∙◌}
use Rattle.std.specs.Prelude.{IsSome}
use Rattle.edi_kernel.specs.Runs.{FaultsBy, RunsTo}
use Rattle.edi_waits.specs.Runs.{EndsNamed}
use Rattle.edi_calls.specs.State.{State, fresh}
use Rattle.edi_system.specs.AsCalls.{HasFailed, LeavesByte}
use Rattle.edi_execute.specs.Execution.{IsAtFailedCall}
use Rattle.edi_system.proofs.Chained.{behind_none, keeps_on, keeps_told_on, told_behind, told_then}
use Rattle.edi_system.proofs.Lasting.{valid_ready}
use Rattle.edi_system.proofs.Told.{told_map, told_with}
use Rattle.edi_system.proofs.Used.{byte_left}
use Rattle.edi_execute.proofs.Executing.{at_call, at_moment, blamed, failed_is, named, run_keeps}
use Rattle.edi_dumped.proofs.execution.execute_named.Goals as goal

pub returns-clause-exact : goal.returns-clause-exact
returns-clause-exact g c = λ few.
    told_then _ _ _ _ _ _
    (λ x y z same runs. subst (λ s. RunsTo c.args.code.now s c.args.bound c.args.choices.now c.run_named.result.0 c.run_named.new.kernel.store c.run_named.new.kernel.used z
    c.run_named.new.choices) same runs)
    c.begin_program.ensures.exact (c.run_named.ensures.exact few)

pub returns-clause-named : goal.returns-clause-named
returns-clause-named g c = λ few.
    told_then _ _ _ _ _ _
    (λ x y z same ends. subst (λ s. EndsNamed c.args.code.now s c.args.bound c.args.choices.now c.run_named.result.0 c.run_named.new.kernel
    c.run_named.new.choices c.run_named.result.1) same ends)
    c.begin_program.ensures.exact (c.run_named.ensures.named few)

pub returns-clause-moment : goal.returns-clause-moment
returns-clause-moment g c = λ fault few.
    told_map _ _ _ _ (λ x z runs. at_moment c.args.code.now _ c.args.bound c.args.choices.now c.run_named.result.0 _ _ z _ fault runs) (returns-clause-exact g c few)

pub returns-clause-failed : goal.returns-clause-failed
returns-clause-failed g c = named g.D.Drive.contents g.D.Drive.count g.S.Source.left c.run_named.new.calls _ _ c.run_named.result.0 c.run_named.ensures.blame

pub returns-clause-call : goal.returns-clause-call
returns-clause-call g c = λ outside is few.
    let fault = (returns-clause-failed g c).0 (subst IsSome (sym is) refl) in
    let failed = failed_is g.D.Drive.contents g.D.Drive.count g.S.Source.left c.run_named.new.calls _ _ c.run_named.result.0 fault c.run_named.ensures.blame outside is in
    let At : State → State → Type 0 = λ s t. IsAtFailedCall c.args.code.now (fresh s) c.args.bound c.args.choices.now outside t in
    told_with At (λ (t : State). LeavesByte outside t.input) _ _
    (byte_left g.D.Drive.contents g.S.Source.left g.T.Sink.taken g.P.Sink.taken c.run_named.new.calls outside failed.before_end)
    (told_then _ _ At _ _ _
    (λ x y z same faults. at_call g.D.Drive.contents g.D.Drive.count g.S.Source.left c.run_named.new.calls c.args.code.now (fresh x) c.args.bound
    c.args.choices.now c.run_named.result.0 c.run_named.new.kernel.used z c.run_named.new.choices outside fault failed
    (subst (λ s. FaultsBy (λ o. HasFailed g.D.Drive.contents g.D.Drive.count g.S.Source.left c.run_named.new.calls o) c.args.code.now s c.args.bound
    c.args.choices.now c.run_named.result.0 c.run_named.new.kernel.used z c.run_named.new.choices) same faults))
    c.begin_program.ensures.exact (c.run_named.ensures.asked few))

pub returns-clause-told : goal.returns-clause-told
returns-clause-told g c =
    keeps_told_on g.D.Drive.contents g.S.Source.left g.T.Sink.taken g.P.Sink.taken c.args.system.now c.begin_program.new.self c.run_named.new.calls
    c.begin_program.ensures.told
    (told_behind g.D.Drive.contents g.D.Drive.count g.S.Source.left g.T.Sink.taken g.P.Sink.taken c.begin_program.new.self c.run_named.new.calls
    (valid_ready g.D.Drive.contents g.D.Drive.count c.begin_program.new.self c.begin_program.ensures.ready)
    (c.run_named.ensures.leads c.begin_program.new.self
    (behind_none g.D.Drive.contents g.D.Drive.count g.S.Source.left g.T.Sink.taken g.P.Sink.taken c.begin_program.new.self)))

pub returns-clause-due : goal.returns-clause-due
returns-clause-due g c = λ start since.
    (c.run_named.ensures.leads c.begin_program.new.self
    (behind_none g.D.Drive.contents g.D.Drive.count g.S.Source.left g.T.Sink.taken g.P.Sink.taken c.begin_program.new.self)).due
    start (c.begin_program.ensures.due start since)

pub returns-clause-size : goal.returns-clause-size
returns-clause-size g c =
    (c.run_named.ensures.leads c.begin_program.new.self
    (behind_none g.D.Drive.contents g.D.Drive.count g.S.Source.left g.T.Sink.taken g.P.Sink.taken c.begin_program.new.self)).count_
    ∙ c.begin_program.ensures.size

pub returns-clause-keeps : goal.returns-clause-keeps
returns-clause-keeps g c =
    keeps_on g.D.Drive.faults g.S.Source.faults g.T.Sink.faults g.P.Sink.faults _ c.args.system.now c.begin_program.new.self c.run_named.new.calls
    c.begin_program.ensures.keeps
    (run_keeps g.D.Drive.faults g.S.Source.faults g.T.Sink.faults g.P.Sink.faults _ c.begin_program.new.self c.run_named.new.calls c.run_named.ensures.references
    c.run_named.ensures.later (blamed g.D.Drive.contents g.D.Drive.count g.S.Source.left c.run_named.new.calls _ _ c.run_named.result.0 c.run_named.ensures.blame))
