use Rattle.std.proofs.Common.{◌≡◌, ◌+◌, drop}
use Rattle.edi_edit.specs.Lines.{size_of_lines}
use Rattle.edi_edit.specs.Steps.{plain}
use Rattle.edi_edit.proofs.list.size.Given as goal

abbrev pub invariant-loop-line : goal.invariant-loop-line
invariant-loop-line l = l.size + size_of_lines (plain (drop l.line-index l.lines)) ≡ size_of_lines (plain l.lines)
