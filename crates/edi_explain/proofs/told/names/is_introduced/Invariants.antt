use Rattle.std.proofs.Common.{◌≡◌, drop}
use Rattle.edi_explain.specs.told.Names.{is_introduced}
use Rattle.edi_explain.proofs.told.names.is_introduced.Given as goal

abbrev pub invariant-loop-mark : goal.invariant-loop-mark
invariant-loop-mark l = is_introduced l.letters l.last (drop l.mark-index l.marks) ≡ is_introduced l.letters 0 l.marks
