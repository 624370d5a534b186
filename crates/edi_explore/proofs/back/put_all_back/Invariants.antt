use Rattle.edi_kernel.specs.Kernel.{IsKernel}
use Rattle.edi_explore.specs.Back.{AreBack, IsSameRest}
use Rattle.edi_explore.proofs.back.put_all_back.Given as goal

-- those so far are back
abbrev pub invariant-loop-number : goal.invariant-loop-number
invariant-loop-number l = record {
  back : AreBack l.kept.keys l.numbers l.number-index l.kernel;
  rest : IsSameRest l.initial.kernel l.kernel;
  kernel : IsKernel l.kernel;
}
