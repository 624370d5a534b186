use Rattle.edi_compile.proofs.Known.{code_answers, code_private, scanned_symbols}
use Rattle.edi_compile.proofs.passes.code_by.Goals as goal

pub returns-clause-answers : goal.returns-clause-answers
returns-clause-answers c = λ text scanned.
    let symbols = c.in_ok-symbols.symbols in
    code_answers text (symbols.marks, symbols.last) c.code_of_symbols.result
    (scanned_symbols text c.args.scanned symbols c.in_ok-symbols.was scanned) c.code_of_symbols.ensures.gives

pub returns-clause-is_private : goal.returns-clause-is_private
returns-clause-is_private c =
    let symbols = c.in_ok-symbols.symbols in
    code_private (symbols.marks, symbols.last) c.code_of_symbols.result c.code_of_symbols.ensures.gives
