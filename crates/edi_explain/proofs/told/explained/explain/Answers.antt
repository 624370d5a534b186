use Rattle.edi_explain.proofs.told.Whole.{lexical_whole, scanned}
use Rattle.edi_explain.proofs.told.explained.explain.Goals as goal

pub symbols_text-requires-clause-scanned : goal.symbols_text-requires-clause-scanned
symbols_text-requires-clause-scanned c = scanned c.args.text.now (c.in-Ok.symbols.marks, c.in-Ok.symbols.last) c.in-Ok.ensures.exact

pub returns-in-Err : goal.returns-in-Err
returns-in-Err c = record {
  exact = lexical_whole c.args.text.now c.args.kind c.args.line c.in-Err.fault c.lexical_text.result c.lexical_text.ensures.known c.lexical_text.ensures.exact;
}
