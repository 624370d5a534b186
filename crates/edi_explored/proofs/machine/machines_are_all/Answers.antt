use Rattle.std.proofs.Common.{ℕ}
use Rattle.edi_follows.proofs.Whole.{steps, starts}
use Rattle.edi_follows.proofs.kernel.Meaning.{steps_queue}
use Rattle.edi_explored.proofs.machine.Tied.{machines_below, machines_all}
use Rattle.edi_explored.proofs.machine.machines_are_all.Goals as goal

pub returns : goal.returns
returns k c = record {
  all = λ g system report begin f. machines_all g system report ℕ begin k.K.KeptMachines.keeps k.K.KeptMachines.has f (steps g) steps_queue (starts g);
  below = λ g system report begin most f.
      machines_below g system report ℕ begin k.K.KeptMachines.keeps k.K.KeptMachines.has f (steps g) steps_queue (starts g) most;
}
