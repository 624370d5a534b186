use Rattle.edi_explored.proofs.machine.Coding.{run_reached, run_shown, runs_to}
use Rattle.edi_explored.proofs.machine.runs_reach.Goals as goal

pub returns : goal.returns
returns c = record {
  law = λ unit coded system bound choices outcome m uncut.
      (run_reached unit coded system bound choices outcome m uncut, run_shown unit coded system bound choices outcome m uncut);
  kernel = λ unit coded code is system bound choices old new none source e words used now r.
      runs_to unit coded code is system bound choices old new none source e words used now r;
}
