use Rattle.std.proofs.Common.{◌∙◌, sym, length}
use Rattle.edi_catalog.specs.Refusing.{no_room}
use Rattle.edi_catalog.specs.SlotsStored.{slots_stored}
use Rattle.edi_system.proofs.InState.{closed_files, refused_files}
use Rattle.edi_system.proofs.Lasting.{told_stores}
use Rattle.edi_system.proofs.system.System.store.Goals as goal

pub returns-then-is_refused-clause-exact : goal.returns-then-is_refused-clause-exact
returns-then-is_refused-clause-exact g c =
    refused_files g.D.Drive.contents g.S.Source.left g.T.Sink.taken g.P.Sink.taken g.D.Drive.count g.D.Drive.faults g.met.D.Drive.counted g.met.D.Drive.sized
    c.args.self.now c.store-answer.new.self c.failed_at-self.result c.store-answer.result
    (λ n slots. no_room c.args.title.now (length c.args.bytes.now) n slots) (slots_stored c.args.title.now c.args.kind c.args.bytes.now)
    c.store-answer.ensures.changes.count_stays (sym c.is_refused.ensures ∙ c.if-is_refused.true) c.store-answer.ensures.exact

pub returns-clause-exact : goal.returns-clause-exact
returns-clause-exact g c =
    closed_files g.D.Drive.contents g.S.Source.left g.T.Sink.taken g.P.Sink.taken g.D.Drive.count g.D.Drive.faults g.met.D.Drive.counted g.met.D.Drive.sized
    c.args.self.now c.store-answer.new.self c.failed_at-self.result c.leave.new.self c.store-answer.result
    (λ n slots. no_room c.args.title.now (length c.args.bytes.now) n slots) (slots_stored c.args.title.now c.args.kind c.args.bytes.now)
    c.store-answer.ensures.changes.count_stays (sym c.is_refused.ensures ∙ c.if-is_refused.false) c.leave.ensures c.store-answer.ensures.exact

pub returns-then-is_refused-clause-told : goal.returns-then-is_refused-clause-told
returns-then-is_refused-clause-told g c = told_stores _ _ _ _ _ _ _ _ _ _ _ _ _ c.requires.ready.mounted c.store-answer.ensures.changes

pub returns-clause-told : goal.returns-clause-told
returns-clause-told g c = told_stores _ _ _ _ _ _ _ _ _ _ _ _ _ c.requires.ready.mounted c.store-answer.ensures.changes
