use Rattle.std.proofs.Common.{◌≡◌, drop}
use Rattle.edi_tree.specs.View.{names}
use Rattle.edi_tree.specs.Printing.{print_names}
use Rattle.edi_tree.proofs.printer.Printer.names.Given as goal

abbrev pub invariant-loop-name : goal.invariant-loop-name
invariant-loop-name l = print_names (names (drop l.name-index l.name-items)) l.self ≡ print_names (names l.name-items) l.initial.self
