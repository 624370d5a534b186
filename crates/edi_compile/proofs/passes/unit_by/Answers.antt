use Rattle.edi_compile.proofs.Known.{front_answers, scanned_symbols}
use Rattle.edi_compile.proofs.passes.unit_by.Goals as goal

pub returns : goal.returns
returns c =
    let symbols = c.in_ok-symbols.symbols in
    record {
      answers = λ text scanned.
          front_answers text (symbols.marks, symbols.last) c.unit_of_symbols.result
          (scanned_symbols text c.args.scanned symbols c.in_ok-symbols.was scanned) c.unit_of_symbols.ensures.gives;
    }
