use Rattle.edi_tree.specs.View.{more_params, param_of}
use Rattle.edi_tree.specs.Printing.{print_more_params}
use Rattle.edi_tree.proofs.Loops.{Prints}
use Rattle.edi_tree.proofs.printer.Printer.+print_heading.Given as goal

abbrev pub invariant-params-loop-param : goal.invariant-params-loop-param
invariant-params-loop-param l = Prints param_of more_params print_more_params l.param-index l.more l.self l.initial.self
