use Rattle.edi_tree.specs.View.{global_of, globals}
use Rattle.edi_tree.specs.Printing.{print_globals}
use Rattle.edi_tree.proofs.Loops.{Prints}
use Rattle.edi_tree.proofs.printer.Printer.globals.Given as goal

abbrev pub invariant-loop-global : goal.invariant-loop-global
invariant-loop-global l = Prints global_of globals print_globals l.global-index l.global-items l.self l.initial.self
