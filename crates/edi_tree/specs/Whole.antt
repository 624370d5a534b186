-- Words of contracts. The plain tree of a program.
use Rattle.edi_tree.specs.declared.programs.Program as code
use Rattle.edi_tree.specs.Tree.{Program}
use Rattle.edi_tree.specs.View.{program_with}

abbrev pub program_of : code.Program → Program
program_of p = program_with p.globals p.procedure
