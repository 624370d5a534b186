use Rattle.edi_shell_io.proofs.calls.Told.{reads_page}
use Rattle.edi_shell_io.proofs.calls.on_system.SystemShellCalls.read_page.Goals as goal

pub returns-clause-exact : goal.returns-clause-exact
returns-clause-exact g c = λ s at tells.
    reads_page g.D.Drive.contents g.S.Source.left g.T.Sink.taken g.P.Sink.taken c.args.self.now c.read_page.new.self s at tells c.read_page.ensures.due
    c.read_page.result c.page_size-size.result c.args.i c.args.title.now c.read_page.new.into _ c.find.result c.in-Some.entry c.read_page.array_long
    (c.find.ensures.in_slots c.requires.ready) c.in-Some.is c.page_size-size.ensures c.page_by.ensures c.read_page.ensures.refusals
    c.read_page.ensures.failed c.read_page.ensures.exact
