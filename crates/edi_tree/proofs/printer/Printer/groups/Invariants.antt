use Rattle.edi_tree.specs.View.{group_of, groups}
use Rattle.edi_tree.specs.Printing.{print_groups}
use Rattle.edi_tree.proofs.Loops.{Prints}
use Rattle.edi_tree.proofs.printer.Printer.groups.Given as goal

abbrev pub invariant-loop-group : goal.invariant-loop-group
invariant-loop-group l = Prints group_of groups print_groups l.group-index l.group-items l.self l.initial.self
