use Rattle.edi_explored.proofs.machine.Ranks.{ranks_fewer}
use Rattle.edi_explored.proofs.machine.ranked_is_fewer.Goals as goal

pub returns : goal.returns
returns c = record {
  law = λ unit coded code is start bound report table count most firsts targets rank linked falls.
      ranks_fewer code start bound report table count most firsts targets rank linked falls unit coded is;
}
