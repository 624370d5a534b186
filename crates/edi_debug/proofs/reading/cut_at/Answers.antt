use Rattle.std.proofs.Common.{sym}
use Rattle.std.specs.Prelude.{◌==◌}
use Rattle.edi_trace.proofs.Cuts.{cut_at, uncut}
use Rattle.edi_debug.proofs.reading.cut_at.Goals as goal

pub returns-in-Some-clause-cut : goal.returns-in-Some-clause-cut
returns-in-Some-clause-cut c =
    let cut = cut_at (λ b. b == c.args.wanted) c.args.bytes.now c.in-Some.at (sym c.in-Some.ensures.exact) in
    cc (cut, c.split_at.ensures.front, c.split_at-in-Some.ensures.back)

pub returns-in-None-clause-cut : goal.returns-in-None-clause-cut
returns-in-None-clause-cut c = uncut (λ b. b == c.args.wanted) c.args.bytes.now (sym c.in-None.ensures.exact)
