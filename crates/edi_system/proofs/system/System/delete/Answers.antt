use Rattle.std.proofs.Common.{◌∙◌, sym}
use Rattle.edi_calls.specs.State.{find_file}
use Rattle.edi_catalog.specs.Refusing.{no_deletion}
use Rattle.edi_catalog.specs.SlotsChanged.{deleted, slots_changed}
use Rattle.edi_system.proofs.InState.{closed_files, refused_files}
use Rattle.edi_system.proofs.Lasting.{told_changes}
use Rattle.edi_system.proofs.system.System.delete.Goals as goal

pub returns-then-is_refused-clause-exact : goal.returns-then-is_refused-clause-exact
returns-then-is_refused-clause-exact g c =
    refused_files g.D.Drive.contents g.S.Source.left g.T.Sink.taken g.P.Sink.taken g.D.Drive.count g.D.Drive.faults g.met.D.Drive.counted g.met.D.Drive.sized
    c.args.self.now c.delete-answer.new.self c.failed_at-self.result c.delete-answer.result
    (λ n slots. no_deletion (find_file slots c.args.title.now)) (slots_changed deleted c.args.title.now)
    c.delete-answer.ensures.changes.count_stays (sym c.is_refused.ensures ∙ c.if-is_refused.true) c.delete-answer.ensures.exact

pub returns-clause-exact : goal.returns-clause-exact
returns-clause-exact g c =
    closed_files g.D.Drive.contents g.S.Source.left g.T.Sink.taken g.P.Sink.taken g.D.Drive.count g.D.Drive.faults g.met.D.Drive.counted g.met.D.Drive.sized
    c.args.self.now c.delete-answer.new.self c.failed_at-self.result c.leave.new.self c.delete-answer.result
    (λ n slots. no_deletion (find_file slots c.args.title.now)) (slots_changed deleted c.args.title.now)
    c.delete-answer.ensures.changes.count_stays (sym c.is_refused.ensures ∙ c.if-is_refused.false) c.leave.ensures c.delete-answer.ensures.exact

pub returns-then-is_refused-clause-told : goal.returns-then-is_refused-clause-told
returns-then-is_refused-clause-told g c = told_changes _ _ _ _ _ _ _ _ _ _ _ _ c.requires.ready.mounted c.delete-answer.ensures.changes

pub returns-clause-told : goal.returns-clause-told
returns-clause-told g c = told_changes _ _ _ _ _ _ _ _ _ _ _ _ c.requires.ready.mounted c.delete-answer.ensures.changes
