use Rattle.std.proofs.Common.{◌≡◌, ◌∙◌, ap, false, refl, sym, true}
use Rattle.std.specs.Option.{option_map}
use Rattle.edi_system.specs.State.{found_of}
use Rattle.edi_system.proofs.Protecting.{index_stays, protects_ready}
use Rattle.edi_calls.specs.State.{find_file}
use Rattle.edi_catalog.specs.Refusing.{no_such}
use Rattle.edi_catalog.specs.SlotsChanged.{file_protected, slots_changed}
use Rattle.edi_system.proofs.InState.{keeps_files}
use Rattle.edi_system.proofs.Lasting.{told_changes}
use Rattle.edi_system.proofs.system.System.set_protected.Goals as goal

pub returns-clause-stays : goal.returns-clause-stays
returns-clause-stays g c = (ap (option_map found_of) c.forget_page.ensures ∙ index_stays c.args.self.now.found, refl)

pub returns-then-is_refused-clause-forgets : goal.returns-then-is_refused-clause-forgets
returns-then-is_refused-clause-forgets g c = λ open_.
    let wrong : true ≡ false = sym c.if-is_refused.true ∙ c.is_refused.ensures ∙ open_ in absurd (cc)

pub returns-clause-ready : goal.returns-clause-ready
returns-clause-ready g c =
    protects_ready g.D.Drive.contents g.D.Drive.count g.D.Drive.faults c.args.self.now
    (record c.args.self.now { catalog = c.set_protected-answer.new.self; failed = c.failed_at-self.result; found = c.forget_page.new.found })
    c.set_protected-answer.result c.args.protected c.args.title.now _ _ c.requires.ready c.set_protected-answer.ensures.changes c.failed_at-self.ensures c.forget_page.ensures refl

pub returns-then-is_refused-clause-exact : goal.returns-then-is_refused-clause-exact
returns-then-is_refused-clause-exact g c =
    keeps_files g.D.Drive.contents g.S.Source.left g.T.Sink.taken g.P.Sink.taken g.D.Drive.count g.D.Drive.faults g.met.D.Drive.counted g.met.D.Drive.sized
    c.args.self.now (record c.args.self.now { catalog = c.set_protected-answer.new.self; failed = c.failed_at-self.result }) c.set_protected-answer.result
    (λ n slots. no_such (find_file slots c.args.title.now)) (slots_changed (file_protected c.args.protected) c.args.title.now) refl refl refl
    c.set_protected-answer.ensures.changes.count_stays (refl, refl) c.set_protected-answer.ensures.exact

pub returns-clause-exact : goal.returns-clause-exact
returns-clause-exact g c =
    keeps_files g.D.Drive.contents g.S.Source.left g.T.Sink.taken g.P.Sink.taken g.D.Drive.count g.D.Drive.faults g.met.D.Drive.counted g.met.D.Drive.sized
    c.args.self.now (record c.args.self.now { catalog = c.set_protected-answer.new.self; failed = c.failed_at-self.result; found = c.forget_page.new.found })
    c.set_protected-answer.result
    (λ n slots. no_such (find_file slots c.args.title.now)) (slots_changed (file_protected c.args.protected) c.args.title.now) refl refl refl
    c.set_protected-answer.ensures.changes.count_stays (returns-clause-stays g c) c.set_protected-answer.ensures.exact

pub returns-then-is_refused-clause-told : goal.returns-then-is_refused-clause-told
returns-then-is_refused-clause-told g c = told_changes _ _ _ _ _ _ _ _ _ _ _ _ c.requires.ready.mounted c.set_protected-answer.ensures.changes

pub returns-clause-told : goal.returns-clause-told
returns-clause-told g c = told_changes _ _ _ _ _ _ _ _ _ _ _ _ c.requires.ready.mounted c.set_protected-answer.ensures.changes
