-- The exits of a walk.
use Rattle.std.proofs.Common.{rules, ◌≡◌, ◌∙◌, None, Some, refl, ap}
use Rattle.edi_calls.specs.declared.ends.Outside.TheVariants as object
use Rattle.edi_unit.specs.View.{unit_of}
use Rattle.edi_walk.specs.declared.walking.WalkEnd.TheVariants as end
use Rattle.edi_main.specs.steps.NotMounted.{mount_status}
use Rattle.edi_statuses.specs.Executions.{object_status}
use Rattle.edi_execute.specs.Objects.{objects}
use Rattle.edi_main.proofs.run.Blamed.{blamed_by}
use Rattle.edi_main.proofs.run.Asked.{asked_so, failed_asked, unmounted_asked}
use Rattle.edi_main.proofs.run.Mounting.{left_on}
use Rattle.edi_main.proofs.run.Past.{failed_past, never_at, past_so, walked_past}
use Rattle.edi_main.proofs.run.WalkEnds.{ended_no_fault, ended_walk_asked, failed_so, not_mounted, walked_so, with_bound}
use Rattle.edi_main.proofs.run.walking.walk_unit.Goals as goal

pub returns-in-Err-clause-ran : goal.returns-in-Err-clause-ran
returns-in-Err-clause-ran g c = λ files kernel.
    let n = c.in-Err.ensures.nothing_done in (
      None,
      tt,
      not_mounted (unit_of c.args.unit.now) c.args.turns _ _ kernel None c.args.choices.now.source c.stopped.result.status c.stopped.result.due c.in-Err.why
          (c.stopped.ensures.status_is ∙ c.mount_status.ensures.exact) c.stopped.ensures.due
          (record {
            files = refl;
            blocks = c.in-Err.ensures.not_mounted;
            input = ap g.S.Source.left n.0;
            shown = ap g.T.Sink.taken n.1;
            printed = ap g.P.Sink.taken n.2;
            kernel_same = refl;
          }),
    )

pub returns-in-Some-clause-ran : goal.returns-in-Some-clause-ran
returns-in-Some-clause-ran g c = λ files kernel.
    let l = c.in-Ok.ensures.leaves in (
      Some c.in-Some.object,
      blamed_by g.D.Drive.faults g.S.Source.faults g.T.Sink.faults g.P.Sink.faults
          (objects c.args.drive.now c.args.input.now c.args.terminal.now c.args.printer.now)
          (objects c.walk_on.new.drive c.walk_on.new.input c.walk_on.new.terminal c.walk_on.new.printer) c.object_status.result c.in-Some.object _ c.in-Some.is
          c.in-Ok.ensures.blame,
      with_bound c.from.result c.args.turns (search rules) _ _ _ _ _ _ _
          (failed_so (unit_of c.args.unit.now) c.from.result _ _ kernel (Some c.in-Some.object) c.args.choices.now c.requires.none_drawn c.in-Ok.walked.due
          (left_on _ _ _ c.in-Ok.ensures.mounted l.told l.due) refl c.object_status.result c.in-Some.object c.in-Ok.walked.failed
          refl c.object_status.ensures.exact c.in-Some.is l.broke),
    )

pub returns-clause-ran : goal.returns-clause-ran
returns-clause-ran g c = λ files kernel.
    let l = c.in-Ok.ensures.leaves in
    let unfailed : c.in-Ok.walked.end ≡ end.Fault → ⊥ = search rules in (
      None,
      tt,
      with_bound c.from.result c.args.turns (search rules) _ _ _ _ _ _ _
          (walked_so (unit_of c.args.unit.now) c.from.result _ _ kernel None c.args.choices.now c.requires.none_drawn c.in-Ok.walked.due
          (left_on _ _ _ c.in-Ok.ensures.mounted l.told l.due) refl c.walk_on.new.choices c.in-Ok.walked.end c.end_status.result unfailed
          c.end_status.ensures.exact l.walks),
    )

pub returns-clause-cause : goal.returns-clause-cause
returns-clause-cause g c = λ had has. ended_no_fault c.in-Ok.walked.end c.end_status.result _ _ c.end_status.ensures.exact

pub returns-in-Err-clause-asked : goal.returns-in-Err-clause-asked
returns-in-Err-clause-asked g c =
    asked_so (mount_status c.in-Err.why) c.stopped.result.status _ (c.stopped.ensures.status_is ∙ c.mount_status.ensures.exact)
    (unmounted_asked c.in-Err.why _ c.in-Err.ensures.faults)

pub returns-in-Some-clause-asked : goal.returns-in-Some-clause-asked
returns-in-Some-clause-asked g c =
    asked_so (object_status c.in-Some.object) c.object_status.result _ c.object_status.ensures.exact
    (failed_asked _ (record { least = c.in-Ok.ensures.least; most = c.in-Ok.ensures.most }) c.in-Some.object)

pub returns-clause-asked : goal.returns-clause-asked
returns-clause-asked g c =
    ended_walk_asked _ (record { least = c.in-Ok.ensures.least; most = c.in-Ok.ensures.most }) c.in-Ok.walked.end c.end_status.result
    c.end_status.ensures.exact

pub returns-in-Err-clause-later_drive : goal.returns-in-Err-clause-later_drive
returns-in-Err-clause-later_drive g c = c.walk_on.ensures.later.later object.Drive

pub returns-in-Some-clause-later_drive : goal.returns-in-Some-clause-later_drive
returns-in-Some-clause-later_drive g c = c.walk_on.ensures.later.later object.Drive

pub returns-in-Some-clause-later_input : goal.returns-in-Some-clause-later_input
returns-in-Some-clause-later_input g c = c.walk_on.ensures.later.later object.Input

pub returns-in-Some-clause-later_terminal : goal.returns-in-Some-clause-later_terminal
returns-in-Some-clause-later_terminal g c = c.walk_on.ensures.later.later object.Terminal

pub returns-in-Some-clause-later_printer : goal.returns-in-Some-clause-later_printer
returns-in-Some-clause-later_printer g c = c.walk_on.ensures.later.later object.Printer

pub returns-clause-later_drive : goal.returns-clause-later_drive
returns-clause-later_drive g c = c.walk_on.ensures.later.later object.Drive

pub returns-clause-later_input : goal.returns-clause-later_input
returns-clause-later_input g c = c.walk_on.ensures.later.later object.Input

pub returns-clause-later_terminal : goal.returns-clause-later_terminal
returns-clause-later_terminal g c = c.walk_on.ensures.later.later object.Terminal

pub returns-clause-later_printer : goal.returns-clause-later_printer
returns-clause-later_printer g c = c.walk_on.ensures.later.later object.Printer

pub returns-in-Err-clause-unmounted : goal.returns-in-Err-clause-unmounted
returns-in-Err-clause-unmounted g c = λ at.
    let n = c.in-Err.ensures.nothing_done in
    (n.0, n.2)

pub returns-in-Some-clause-unmounted : goal.returns-in-Some-clause-unmounted
returns-in-Some-clause-unmounted g c = λ at.
    never_at c.object_status.result
    (past_so (object_status c.in-Some.object) c.object_status.result c.object_status.ensures.exact (failed_past c.in-Some.object)) at

pub returns-clause-unmounted : goal.returns-clause-unmounted
returns-clause-unmounted g c = λ at.
    never_at c.end_status.result (walked_past c.in-Ok.walked.end c.end_status.result c.end_status.ensures.exact) at
