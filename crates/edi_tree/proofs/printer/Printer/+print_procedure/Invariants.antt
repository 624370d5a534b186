use Rattle.edi_tree.specs.View.{declaration_of, declarations, member_of, members}
use Rattle.edi_tree.specs.Printing.{print_declarations, print_members}
use Rattle.edi_tree.proofs.Loops.{Prints}
use Rattle.edi_tree.proofs.printer.Printer.+print_procedure.Given as goal

abbrev pub invariant-procedure-loop-declaration : goal.invariant-procedure-loop-declaration
invariant-procedure-loop-declaration l = Prints declaration_of declarations print_declarations l.declaration-index l.declaration-items l.self l.initial.self

abbrev pub invariant-module-loop-member : goal.invariant-module-loop-member
invariant-module-loop-member l = Prints member_of members print_members l.member-index l.member-items l.self l.initial.self
