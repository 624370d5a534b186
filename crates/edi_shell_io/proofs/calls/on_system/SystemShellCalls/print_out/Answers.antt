use Rattle.std.proofs.Common.{rules}
use Rattle.edi_session.specs.declared.end.SessionEnd.TheVariants as end
use Rattle.edi_shell_io.proofs.calls.Told.{none_printed, prints_by}
use Rattle.edi_shell_io.proofs.calls.on_system.SystemShellCalls.print_out.Goals as goal

pub returns-then-is_empty-clause-exact : goal.returns-then-is_empty-clause-exact
returns-then-is_empty-clause-exact g c = λ s at tells.
    none_printed g.D.Drive.contents g.S.Source.left g.T.Sink.taken g.P.Sink.taken c.args.self.now s c.args.bytes.now (search rules) at

pub returns-clause-exact : goal.returns-clause-exact
returns-clause-exact g c = λ s at tells.
    rw c.put_by.ensures
    (prints_by g.D.Drive.contents g.S.Source.left g.T.Sink.taken g.P.Sink.taken c.args.self.now c.print_out.new.self s at tells c.print_out.ensures.due
    c.print_out.result end.PrinterFault c.args.bytes.now (λ failed. search rules) c.print_out.ensures.failed c.print_out.ensures.exact)
