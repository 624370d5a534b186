use Rattle.std.proofs.Common.{◌∙◌, refl, sym}
use Rattle.edi_system.proofs.CloseCalls.{remove_refused_told, removes_ready, removes_told}
use Rattle.edi_system.proofs.Lasting.{told_changes}
use Rattle.edi_system.proofs.system.System.remove.Goals as goal

pub returns-then-is_refused-clause-exact : goal.returns-then-is_refused-clause-exact
returns-then-is_refused-clause-exact g c =
    remove_refused_told g.D.Drive.contents g.S.Source.left g.T.Sink.taken g.P.Sink.taken g.D.Drive.count g.D.Drive.faults g.met.D.Drive.counted
    g.met.D.Drive.sized
    c.args.self.now (record c.args.self.now { catalog = c.delete-answer.new.self; failed = c.failed_at-self.result })
    c.delete-answer.result c.in-Some.title c.args.words.now c.requires.ready.mounted (sym c.in-Some.ensures) refl refl refl
    _ c.word_of-then-is_refused.ensures (sym c.is_refused.ensures ∙ c.if-is_refused.true) c.delete-answer.ensures.changes refl refl

pub returns-clause-exact : goal.returns-clause-exact
returns-clause-exact g c =
    removes_told g.D.Drive.contents g.S.Source.left g.T.Sink.taken g.P.Sink.taken g.D.Drive.count g.D.Drive.faults g.met.D.Drive.counted g.met.D.Drive.sized
    c.args.self.now (record c.args.self.now { catalog = c.delete-answer.new.self; failed = c.failed_at-self.result; found = c.drop_titled.new.found })
    c.delete-answer.result c.in-Some.title c.args.words.now c.requires.ready.mounted (sym c.in-Some.ensures) refl refl refl
    c.done.result c.done.ensures (sym c.is_refused.ensures ∙ c.if-is_refused.false) c.delete-answer.ensures.changes c.drop_titled.ensures refl

pub returns-clause-ready : goal.returns-clause-ready
returns-clause-ready g c =
    removes_ready g.D.Drive.contents g.D.Drive.count g.D.Drive.faults c.args.self.now
    (record c.args.self.now { catalog = c.delete-answer.new.self; failed = c.failed_at-self.result; found = c.drop_titled.new.found })
    c.delete-answer.result c.in-Some.title c.done.result c.done.ensures
    (sym c.is_refused.ensures ∙ c.if-is_refused.false) c.requires.ready c.failed_at-self.ensures c.drop_titled.ensures refl _ _ c.delete-answer.ensures.changes

pub returns-then-is_refused-clause-told : goal.returns-then-is_refused-clause-told
returns-then-is_refused-clause-told g c = told_changes _ _ _ _ _ _ _ _ _ _ _ _ c.requires.ready.mounted c.delete-answer.ensures.changes

pub returns-clause-told : goal.returns-clause-told
returns-clause-told g c = told_changes _ _ _ _ _ _ _ _ _ _ _ _ c.requires.ready.mounted c.delete-answer.ensures.changes
