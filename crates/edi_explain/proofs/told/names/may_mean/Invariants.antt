use Rattle.std.proofs.Common.{◌≡◌, true, false, drop}
use Rattle.edi_explain.specs.told.Names.{is_placed}
use Rattle.edi_explain.proofs.told.names.may_mean.Given as goal

abbrev pub invariant-loop-mark : goal.invariant-loop-mark
invariant-loop-mark l =
    is_placed l.letters l.declares l.uses l.last (drop l.mark-index l.marks) ≡ is_placed l.letters true false 0 l.marks
