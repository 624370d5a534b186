use Rattle.std.proofs.Common.{◌∙◌, sym}
use Rattle.edi_calls.specs.State.{find_file}
use Rattle.edi_catalog.specs.Refusing.{no_renaming}
use Rattle.edi_catalog.specs.SlotsChanged.{file_renamed, slots_changed}
use Rattle.edi_system.proofs.InState.{closed_files, refused_files}
use Rattle.edi_system.proofs.Lasting.{told_changes}
use Rattle.edi_system.proofs.system.System.rename.Goals as goal

pub returns-then-is_refused-clause-exact : goal.returns-then-is_refused-clause-exact
returns-then-is_refused-clause-exact g c =
    refused_files g.D.Drive.contents g.S.Source.left g.T.Sink.taken g.P.Sink.taken g.D.Drive.count g.D.Drive.faults g.met.D.Drive.counted g.met.D.Drive.sized
    c.args.self.now c.rename-answer.new.self c.failed_at-self.result c.rename-answer.result
    (λ n slots. no_renaming (find_file slots c.args.from.now) (find_file slots c.args.to.now)) (slots_changed (file_renamed c.args.to.now) c.args.from.now)
    c.rename-answer.ensures.changes.count_stays (sym c.is_refused.ensures ∙ c.if-is_refused.true) c.rename-answer.ensures.exact

pub returns-clause-exact : goal.returns-clause-exact
returns-clause-exact g c =
    closed_files g.D.Drive.contents g.S.Source.left g.T.Sink.taken g.P.Sink.taken g.D.Drive.count g.D.Drive.faults g.met.D.Drive.counted g.met.D.Drive.sized
    c.args.self.now c.rename-answer.new.self c.failed_at-self.result c.leave.new.self c.rename-answer.result
    (λ n slots. no_renaming (find_file slots c.args.from.now) (find_file slots c.args.to.now)) (slots_changed (file_renamed c.args.to.now) c.args.from.now)
    c.rename-answer.ensures.changes.count_stays (sym c.is_refused.ensures ∙ c.if-is_refused.false) c.leave.ensures c.rename-answer.ensures.exact

pub returns-then-is_refused-clause-told : goal.returns-then-is_refused-clause-told
returns-then-is_refused-clause-told g c = told_changes _ _ _ _ _ _ _ _ _ _ _ _ c.requires.ready.mounted c.rename-answer.ensures.changes

pub returns-clause-told : goal.returns-clause-told
returns-clause-told g c = told_changes _ _ _ _ _ _ _ _ _ _ _ _ c.requires.ready.mounted c.rename-answer.ensures.changes
