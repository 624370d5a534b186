use Rattle.edi_explain.proofs.told.Cutting.{begins}
use Rattle.edi_explain.proofs.told.source.line_start.Goals as goal

pub returns-then-feeds-eq0 : goal.returns-then-feeds-eq0
returns-then-feeds-eq0 c = record { exact = begins _ _ _ _ c.if-feeds-eq0.true c.loop-b.invariant.start }
