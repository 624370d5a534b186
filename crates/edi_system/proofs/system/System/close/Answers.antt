use Rattle.std.proofs.Common.{◌∙◌, refl, sym}
use Rattle.edi_system.proofs.CloseCalls.{close_refused_told, closes_ready, closes_told}
use Rattle.edi_system.proofs.InState.{changed_to}
use Rattle.edi_system.proofs.Lasting.{told_stores}
use Rattle.edi_system.proofs.system.System.close.Goals as goal

pub returns-then-is_refused-clause-exact : goal.returns-then-is_refused-clause-exact
returns-then-is_refused-clause-exact g c =
    close_refused_told g.D.Drive.contents g.S.Source.left g.T.Sink.taken g.P.Sink.taken g.D.Drive.count g.D.Drive.faults g.met.D.Drive.counted
    g.met.D.Drive.sized
    c.args.self.now (record c.args.self.now { catalog = c.store-answer.new.self; failed = c.failed_at-self.result })
    c.store-answer.result c.in-Some-title_of.title c.args.words.now c.requires.ready.mounted (sym c.in-Some-title_of.ensures) refl refl refl
    c.in-Some.bytes.now _ c.word_of-then-is_refused.ensures c.in-Some.ensures.most (sym c.is_refused.ensures ∙ c.if-is_refused.true)
    c.store-answer.ensures.changes
    (sym c.in-Some.ensures.exact) refl refl

pub returns-clause-exact : goal.returns-clause-exact
returns-clause-exact g c =
    closes_told g.D.Drive.contents g.S.Source.left g.T.Sink.taken g.P.Sink.taken g.D.Drive.count g.D.Drive.faults g.met.D.Drive.counted g.met.D.Drive.sized
    c.args.self.now (changed_to c.args.self.now c.store-answer.new.self c.failed_at-self.result c.drop_titled.new.found c.leave.new.self)
    c.store-answer.result c.in-Some-title_of.title c.args.words.now c.requires.ready.mounted (sym c.in-Some-title_of.ensures) refl refl refl
    c.in-Some.bytes.now c.done.result c.done.ensures (sym c.is_refused.ensures ∙ c.if-is_refused.false) c.store-answer.ensures.changes
    (sym c.in-Some.ensures.exact) c.drop_titled.ensures c.leave.ensures

pub returns-clause-ready : goal.returns-clause-ready
returns-clause-ready g c =
    closes_ready g.D.Drive.contents g.D.Drive.count g.D.Drive.faults c.args.self.now
    (changed_to c.args.self.now c.store-answer.new.self c.failed_at-self.result c.drop_titled.new.found c.leave.new.self)
    c.store-answer.result c.in-Some-title_of.title c.done.result c.done.ensures
    (sym c.is_refused.ensures ∙ c.if-is_refused.false) c.requires.ready c.failed_at-self.ensures c.drop_titled.ensures refl _ _ _ c.store-answer.ensures.changes

pub returns-then-is_refused-clause-told : goal.returns-then-is_refused-clause-told
returns-then-is_refused-clause-told g c = told_stores _ _ _ _ _ _ _ _ _ _ _ _ _ c.requires.ready.mounted c.store-answer.ensures.changes

pub returns-clause-told : goal.returns-clause-told
returns-clause-told g c = told_stores _ _ _ _ _ _ _ _ _ _ _ _ _ c.requires.ready.mounted c.store-answer.ensures.changes
