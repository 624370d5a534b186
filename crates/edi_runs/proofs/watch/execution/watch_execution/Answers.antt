use Rattle.std.proofs.Common.{refl, subst, sym, ◌∙◌}
use Rattle.std.specs.Prelude.{IsSome}
use Rattle.edi_calls.specs.State.{State, fresh}
use Rattle.edi_scheme.specs.Laws.{parts_of}
use Rattle.edi_kernel.specs.Runs.{FaultsBy}
use Rattle.edi_system.specs.AsCalls.{HasFailed, LeavesByte}
use Rattle.edi_execute.specs.Execution.{IsAtCall, IsAtFailedCall, IsAtMoment}
use Rattle.edi_runs.specs.watch.Watchable.{IsWhole}
use Rattle.edi_system.proofs.Chained.{behind_none, keeps_on, keeps_told_on, told_behind, told_then}
use Rattle.edi_system.proofs.Lasting.{valid_ready}
use Rattle.edi_system.proofs.Told.{told_map, told_with}
use Rattle.edi_system.proofs.Used.{byte_left}
use Rattle.edi_execute.proofs.Executing.{at_call, at_moment, blamed, failed_is, named, run_keeps, still_ready}
use Rattle.edi_debug.specs.Points.{watched_in}
use Rattle.edi_debug.specs.stops.Underway.{Ended}
use Rattle.edi_runs.proofs.watch.execution.watch_execution.Goals as goal

pub returns-clause-exact : goal.returns-clause-exact
returns-clause-exact g c = λ few.
    let Ends : State → State → Type 0 = λ s t. (whole : IsWhole c.args.watched.now) →
    Ended whole.unit (watched_in c.args.points.now) (fresh s) c.args.bound c.args.choices.now c.args.log.now c.watch.result
    c.watch.new.kernel t c.watch.new.choices c.watch.new.log in
    told_then _ _ Ends _ _ _
    (λ x y z same ran whole. subst (λ s. Ended whole.unit (watched_in c.args.points.now) s c.args.bound c.args.choices.now c.args.log.now c.watch.result
    c.watch.new.kernel z c.watch.new.choices c.watch.new.log) same (ran whole.unit whole.resolved whole.mapped))
    c.begin_program.ensures.exact (c.watch.ensures.exact few)

pub returns-clause-moment : goal.returns-clause-moment
returns-clause-moment g c = λ fault few.
    let Ends : State → State → Type 0 = λ s t. (whole : IsWhole c.args.watched.now) →
    Ended whole.unit (watched_in c.args.points.now) (fresh s) c.args.bound c.args.choices.now c.args.log.now c.watch.result
    c.watch.new.kernel t c.watch.new.choices c.watch.new.log in
    let At : State → State → Type 0 = λ s t. (whole : IsWhole c.args.watched.now) →
    IsAtMoment (parts_of whole.unit) (fresh s) c.args.bound c.args.choices.now t in
    told_map Ends At _ _
    (λ x z ended whole. at_moment (parts_of whole.unit) (fresh x) c.args.bound c.args.choices.now c.watch.result _ _ z _ fault (ended whole).ran)
    (returns-clause-exact g c few)

pub returns-clause-failed : goal.returns-clause-failed
returns-clause-failed g c = named g.D.Drive.contents g.D.Drive.count g.S.Source.left c.watch.new.calls _ _ c.watch.result c.watch.ensures.blame

pub returns-clause-call : goal.returns-clause-call
returns-clause-call g c = λ outside is few.
    let fault = (returns-clause-failed g c).0 (subst IsSome (sym is) refl) in
    let failed = failed_is g.D.Drive.contents g.D.Drive.count g.S.Source.left c.watch.new.calls _ _ c.watch.result fault c.watch.ensures.blame outside is in
    let Asks : State → State → Type 0 = λ s t. (whole : IsWhole c.args.watched.now) →
    FaultsBy (λ o. HasFailed g.D.Drive.contents g.D.Drive.count g.S.Source.left c.watch.new.calls o) (parts_of whole.unit) (fresh s) c.args.bound
    c.args.choices.now c.watch.result c.watch.new.kernel.used t c.watch.new.choices in
    let FailsAt : State → State → Type 0 = λ s t. (whole : IsWhole c.args.watched.now) →
    IsAtFailedCall (parts_of whole.unit) (fresh s) c.args.bound c.args.choices.now outside t in
    let FailsLeft : State → State → Type 0 = λ s t. FailsAt s t × LeavesByte outside t.input in
    let At : State → State → Type 0 = λ s t. (whole : IsWhole c.args.watched.now) →
    IsAtCall (parts_of whole.unit) (fresh s) c.args.bound c.args.choices.now outside t in
    told_map FailsLeft At _ _ (λ x z both whole. (both.0 whole, both.1))
    (told_with FailsAt (λ (t : State). LeavesByte outside t.input) _ _
    (byte_left g.D.Drive.contents g.S.Source.left g.T.Sink.taken g.P.Sink.taken c.watch.new.calls outside failed.before_end)
    (told_map Asks FailsAt _ _
    (λ x z asks whole. at_call g.D.Drive.contents g.D.Drive.count g.S.Source.left c.watch.new.calls (parts_of whole.unit) (fresh x) c.args.bound
    c.args.choices.now c.watch.result c.watch.new.kernel.used z c.watch.new.choices outside fault failed (asks whole))
    (told_then _ _ Asks _ _ _
    (λ x y z same asks whole. subst (λ s. FaultsBy (λ o. HasFailed g.D.Drive.contents g.D.Drive.count g.S.Source.left c.watch.new.calls o)
    (parts_of whole.unit) s
    c.args.bound c.args.choices.now c.watch.result c.watch.new.kernel.used z c.watch.new.choices) same (asks whole.unit whole.resolved whole.mapped))
    c.begin_program.ensures.exact (c.watch.ensures.asked few))))

pub returns-clause-ready : goal.returns-clause-ready
returns-clause-ready g c = still_ready g.D.Drive.contents g.D.Drive.count g.S.Source.left c.watch.new.calls _ _ c.watch.result c.watch.ensures.blame

pub returns-clause-told : goal.returns-clause-told
returns-clause-told g c =
    keeps_told_on g.D.Drive.contents g.S.Source.left g.T.Sink.taken g.P.Sink.taken c.args.system.now c.begin_program.new.self c.watch.new.calls
    c.begin_program.ensures.told
    (told_behind g.D.Drive.contents g.D.Drive.count g.S.Source.left g.T.Sink.taken g.P.Sink.taken c.begin_program.new.self c.watch.new.calls
    (valid_ready g.D.Drive.contents g.D.Drive.count c.begin_program.new.self c.begin_program.ensures.ready)
    (c.watch.ensures.leads c.begin_program.new.self
    (behind_none g.D.Drive.contents g.D.Drive.count g.S.Source.left g.T.Sink.taken g.P.Sink.taken c.begin_program.new.self)))

pub returns-clause-due : goal.returns-clause-due
returns-clause-due g c = λ start since.
    (c.watch.ensures.leads c.begin_program.new.self
    (behind_none g.D.Drive.contents g.D.Drive.count g.S.Source.left g.T.Sink.taken g.P.Sink.taken c.begin_program.new.self)).due
    start (c.begin_program.ensures.due start since)

pub returns-clause-size : goal.returns-clause-size
returns-clause-size g c =
    (c.watch.ensures.leads c.begin_program.new.self
    (behind_none g.D.Drive.contents g.D.Drive.count g.S.Source.left g.T.Sink.taken g.P.Sink.taken c.begin_program.new.self)).count_
    ∙ c.begin_program.ensures.size

pub returns-clause-keeps : goal.returns-clause-keeps
returns-clause-keeps g c =
    keeps_on g.D.Drive.faults g.S.Source.faults g.T.Sink.faults g.P.Sink.faults _ c.args.system.now c.begin_program.new.self c.watch.new.calls
    c.begin_program.ensures.keeps
    (run_keeps g.D.Drive.faults g.S.Source.faults g.T.Sink.faults g.P.Sink.faults _ c.begin_program.new.self c.watch.new.calls c.watch.ensures.references
    c.watch.ensures.later (blamed g.D.Drive.contents g.D.Drive.count g.S.Source.left c.watch.new.calls _ _ c.watch.result c.watch.ensures.blame))
