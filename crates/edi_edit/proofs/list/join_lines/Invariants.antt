use Rattle.std.proofs.Common.{◌≡◌, ◌++◌, drop}
use Rattle.edi_edit.specs.Lines.{bytes_of_lines}
use Rattle.edi_edit.specs.Steps.{plain}
use Rattle.edi_edit.proofs.list.join_lines.Given as goal

abbrev pub invariant-loop-line : goal.invariant-loop-line
invariant-loop-line l = l.bytes.items ++ bytes_of_lines (plain (drop l.line-index l.lines)) ≡ bytes_of_lines (plain l.lines)
