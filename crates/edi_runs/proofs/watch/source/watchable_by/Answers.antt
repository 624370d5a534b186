use Rattle.edi_compile.proofs.Known.{scanned_symbols}
use Rattle.edi_runs.proofs.watch.Read.{watchable_answers}
use Rattle.edi_runs.proofs.watch.source.watchable_by.Goals as goal

pub returns : goal.returns
returns c =
    let symbols = c.in_ok-symbols.symbols in
    record {
      answers = λ text scanned.
          watchable_answers text (symbols.marks, symbols.last) c.watchable_of_symbols.result
          (scanned_symbols text c.args.scanned symbols c.in_ok-symbols.was scanned) c.watchable_of_symbols.ensures.gives;
    }
