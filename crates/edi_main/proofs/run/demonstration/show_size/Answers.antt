use Rattle.std.proofs.Common.{rules, subst}
use Rattle.edi_statuses.specs.Showing.{ShowsBytes}
use Rattle.edi_main.proofs.run.demonstration.show_size.Goals as goal

pub returns-clause-shows : goal.returns-clause-shows
returns-clause-shows g c =
    subst (λ b. ShowsBytes b c.args.due c.show_bytes.result (g.T.Sink.taken c.args.terminal.now) (g.T.Sink.taken c.show_bytes.new.terminal))
    {x = c.as_bytes.result.now} (search rules) c.show_bytes.ensures.shows
