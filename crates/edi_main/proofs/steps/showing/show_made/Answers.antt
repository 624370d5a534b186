-- The exits of the function that shows what was made.
use Rattle.std.proofs.Common.{false, subst}
use Rattle.edi_statuses.specs.Showing.{ShowsBytes}
use Rattle.edi_main.proofs.steps.Shown.{shows_made}
use Rattle.edi_main.proofs.steps.showing.show_made.Goals as goal

pub returns-in-Ok-clause-shows : goal.returns-in-Ok-clause-shows
returns-in-Ok-clause-shows g c =
    rw c.in-Ok.is (shows_made c.in-Ok.bytes.items c.show_bytes.result (g.T.Sink.taken c.args.terminal.now) (g.T.Sink.taken c.show_bytes.new.terminal) _ _
    (subst (λ b. ShowsBytes b false c.show_bytes.result (g.T.Sink.taken c.args.terminal.now) (g.T.Sink.taken c.show_bytes.new.terminal))
    c.deref.ensures.value c.show_bytes.ensures.shows) c.show_bytes.ensures.cause)
