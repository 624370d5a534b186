use Rattle.edi_tree.specs.Whole.{program_of}
use Rattle.edi_explain.proofs.told.Whole.{static_whole, syntax_whole}
use Rattle.edi_explain.proofs.told.explained.symbols_text.Goals as goal

pub returns-in-Ok : goal.returns-in-Ok
returns-in-Ok c = record {
  exact = static_whole c.args.text.now c.args.kind c.args.line (c.args.symbols.now.marks, c.args.symbols.now.last) (program_of c.in-Ok._tree)
      c.static_text.result c.requires.known c.in-Ok.ensures.tree c.static_text.ensures.exact;
}

pub returns-in-Err : goal.returns-in-Err
returns-in-Err c = record {
  exact = syntax_whole c.args.text.now c.args.kind c.args.line (c.args.symbols.now.marks, c.args.symbols.now.last) c.fault_text.result c.requires.known
      c.fault_text.ensures.exact;
}
