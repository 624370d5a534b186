use Rattle.std.proofs.Common.{◌∙◌, sym}
use Rattle.edi_system.specs.State.{failed_in}
use Rattle.edi_shell_io.proofs.calls.Executed.{no_fault, run_breaks, runs_to}
use Rattle.edi_shell_io.proofs.calls.on_system.SystemShellCalls.execute.Goals as goal

pub returns-in-Some-clause-exact : goal.returns-in-Some-clause-exact
returns-in-Some-clause-exact g c = λ few s so_many at tells.
    let blamed = sym c.failed.ensures.exact ∙ c.in-Some.is in
    run_breaks g.D.Drive.contents g.S.Source.left g.T.Sink.taken g.P.Sink.taken c.args.self.now c.execute-ending.new.system s at tells
    c.execute-ending.ensures.due
    c.args.code.now c.args.bound c.args.choices.now c.execute-ending.new.choices so_many
    c.in-Some.outside blamed (c.execute-ending.ensures.call c.in-Some.outside blamed few)

pub returns-in-None-clause-exact : goal.returns-in-None-clause-exact
returns-in-None-clause-exact g c = λ few s so_many at tells.
    let fine = no_fault (failed_in c.execute-ending.new.system) c.execute-ending.result c.execute-ending.ensures.failed
    (sym c.failed.ensures.exact ∙ c.in-None.is) in
    runs_to g.D.Drive.contents g.S.Source.left g.T.Sink.taken g.P.Sink.taken c.args.self.now c.execute-ending.new.system s at tells c.execute-ending.ensures.due
    c.args.code.now c.args.bound c.args.choices.now c.execute-ending.new.choices so_many c.execute-ending.result _ _ fine (c.execute-ending.ensures.exact few)
