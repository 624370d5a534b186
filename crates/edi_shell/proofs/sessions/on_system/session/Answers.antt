-- A session on a system is one on an object that the shell works on.
use Rattle.std.proofs.Common.{sym, subst, refl, ◌∙◌}
use Rattle.std.specs.Prelude.{IsSome}
use Rattle.edi_session.specs.Shell.{session_on}
use Rattle.edi_shell_io.specs.calls.OnSystem.{FailsAt, HasState, StandsAt}
use Rattle.edi_system.specs.State.{failed_in, state_of, IsReady}
use Rattle.edi_shell.specs.sessions.Ends.{IsFreshlyBy, IsFreshlySince}
use Rattle.edi_system.proofs.Chained.{told_behind}
use Rattle.edi_system.proofs.Lasting.{valid_ready}
use Rattle.edi_shell.proofs.sessions.OnSystem.{ends_otherwise, failed_so, keeps_all, told_both}
use Rattle.edi_shell_io.specs.calls.Lasting.{told_before}
use Rattle.edi_shell.proofs.sessions.on_system.session.Goals as goal

pub returns-clause-failed : goal.returns-clause-failed
returns-clause-failed g c =
    failed_so (λ system. IsReady g.D.Drive.contents g.D.Drive.count system) (λ system. failed_in system) c.hold.result c.hold.new.calls
    (λ system ready. ready.nothing_failed) c.hold.ensures.left

pub returns-clause-exact : goal.returns-clause-exact
returns-clause-exact g c = λ few shown_before since.
    told_both (state_of g.D.Drive.contents g.S.Source.left g.T.Sink.taken g.P.Sink.taken c.args.system.now)
    (state_of g.D.Drive.contents g.S.Source.left g.T.Sink.taken g.P.Sink.taken c.hold.new.calls) _
    (told_before g.D.Drive.contents g.D.Drive.count g.S.Source.left g.T.Sink.taken g.P.Sink.taken g.D.Drive.faults g.S.Source.faults g.T.Sink.faults g.P.Sink.faults
    c.args.system.now c.hold.new.calls c.hold.ensures.lasts)
    (λ before now was is.
    ends_otherwise c.args.bound c.args.choices.now.source
    (λ system state n. StandsAt g.D.Drive.contents g.S.Source.left g.T.Sink.taken g.P.Sink.taken system state n)
    (λ system outside state. FailsAt g.D.Drive.contents g.S.Source.left g.T.Sink.taken g.P.Sink.taken system outside state) IsFreshlySince
    (IsFreshlyBy c.hold.result) c.hold.new.calls now (λ state n at_. subst (λ o. HasState o state) is at_.has)
    (λ outside state at_. (sym (returns-clause-failed g c) ∙ at_.blamed, subst (λ o. HasState o state) is at_.has))
    (session_on before c.args.choices.now.drawn shown_before) c.hold.result c.hold.new.choices.drawn
    (c.hold.ensures.exact few (session_on before c.args.choices.now.drawn shown_before)
    (record {
      mode_is = refl;
      taken_is = refl;
      drawn_is = refl;
      at_ = record { has = subst (λ o. HasState o before) (sym was) refl; due = since };
    })
    (subst IsSome (sym is) refl)))

pub returns-clause-due : goal.returns-clause-due
returns-clause-due g c = c.hold.ensures.lasts.behind.due

pub returns-clause-told : goal.returns-clause-told
returns-clause-told g c =
    told_behind g.D.Drive.contents g.D.Drive.count g.S.Source.left g.T.Sink.taken g.P.Sink.taken c.args.system.now c.hold.new.calls
    (valid_ready g.D.Drive.contents g.D.Drive.count c.args.system.now c.requires.ready) c.hold.ensures.lasts.behind

pub returns-clause-size : goal.returns-clause-size
returns-clause-size g c = c.hold.ensures.lasts.behind.count_

pub returns-clause-keeps : goal.returns-clause-keeps
returns-clause-keeps g c =
    keeps_all g.D.Drive.contents g.D.Drive.count g.S.Source.left g.T.Sink.taken g.P.Sink.taken g.D.Drive.faults g.S.Source.faults g.T.Sink.faults g.P.Sink.faults
    c.args.system.now c.hold.new.calls c.requires.ready.nothing_failed c.hold.ensures.lasts c.hold.result (returns-clause-failed g c)
