use Rattle.std.proofs.Common.{ℕ}
use Rattle.edi_explored.proofs.machine.All.{kernels_all, kernels_below}
use Rattle.edi_explored.proofs.machine.kernels_are_all.Goals as goal

pub returns : goal.returns
returns k c = record {
  all = λ unit coded code is start bound report f h.
      kernels_all unit coded code is start bound report ℕ k.S.Searched.processes k.S.Searched.slots k.S.Searched.system k.S.Searched.begun k.S.Searched.has f h;
  below = λ unit coded code is start bound most report f h.
      kernels_below unit coded code is start bound report ℕ k.S.Searched.processes k.S.Searched.slots k.S.Searched.system k.S.Searched.begun k.S.Searched.has f most h;
}
