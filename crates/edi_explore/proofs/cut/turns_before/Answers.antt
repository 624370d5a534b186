-- Stint after stint.
use Rattle.std.proofs.Common.{arith}
use Rattle.edi_explore.proofs.cut.turns_before.Goals as goal

pub rounds-init : goal.rounds-init
rounds-init c = record {
  kernel = c.start.ensures.exact.kernel;
  taken = c.start.ensures.taken;
  working = c.requires.working;
  few = omega arith;
}

pub rounds-preserved : goal.rounds-preserved
rounds-preserved c = record {
  kernel = c.round.ensures.kernel;
  taken = c.round.ensures.taken c.in_default.is;
  working = c.round.ensures.working c.in_default.is;
  few = c.round.ensures.few c.in_default.is;
}
