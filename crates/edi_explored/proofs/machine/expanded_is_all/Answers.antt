use Rattle.edi_explored.proofs.machine.All.{closed_all, levels_below}
use Rattle.edi_explored.proofs.machine.expanded_is_all.Goals as goal

pub returns : goal.returns
returns c = record {
  all = λ unit coded code is start bound report table count f. closed_all unit coded code is start bound report table count f;
  below = λ unit coded code is start bound report table starts depth f. levels_below unit coded code is start bound report table starts depth f;
}
