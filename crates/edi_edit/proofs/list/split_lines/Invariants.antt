use Rattle.std.proofs.Common.{◌≡◌, ◌++◌, length}
use Rattle.edi_edit.specs.Lines.{lines_of}
use Rattle.edi_edit.specs.Steps.{plain}
use Rattle.edi_edit.proofs.list.split_lines.Given as goal

abbrev pub invariant-loop-rest : goal.invariant-loop-rest
invariant-loop-rest l = plain l.lines.items ++ lines_of l.rest ≡ lines_of l.bytes

abbrev pub decreases-loop-rest : goal.decreases-loop-rest
decreases-loop-rest l = length l.rest
