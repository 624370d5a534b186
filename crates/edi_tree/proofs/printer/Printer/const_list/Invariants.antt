use Rattle.std.proofs.Common.{◌≡◌, drop}
use Rattle.edi_tree.specs.View.{const_decls}
use Rattle.edi_tree.specs.Printing.{print_const_decls}
use Rattle.edi_tree.proofs.printer.Printer.const_list.Given as goal

abbrev pub invariant-loop-decl : goal.invariant-loop-decl
invariant-loop-decl l = print_const_decls (const_decls (drop l.decl-index l.decl-items)) l.self ≡ print_const_decls (const_decls l.decl-items) l.initial.self
