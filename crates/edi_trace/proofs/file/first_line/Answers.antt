use Rattle.std.proofs.Common.{sym}
use Rattle.edi_trace.specs.Lines.{is_line_feed}
use Rattle.edi_trace.proofs.Cuts.{cut_at, uncut}
use Rattle.edi_trace.proofs.file.first_line.Goals as goal

pub returns-in-Some-clause-cut : goal.returns-in-Some-clause-cut
returns-in-Some-clause-cut c =
    let cut = cut_at is_line_feed c.args.bytes.now c.in-Some.end (sym c.in-Some.ensures) in
    cc (cut, c.split_at.ensures.front, c.split_at-in-Some.ensures.back)

pub returns-in-None-clause-cut : goal.returns-in-None-clause-cut
returns-in-None-clause-cut c = uncut is_line_feed c.args.bytes.now (sym c.in-None.ensures)
