use Rattle.std.proofs.Common.{◌∙◌, ap}
use Rattle.edi_lex.specs.Symbols.{symbols_of}
use Rattle.edi_statuses.specs.Commands.{count_in}
use Rattle.edi_main.proofs.run.Coded.{demo_coded, demo_wants}
use Rattle.edi_main.proofs.run.demonstration.demo_code.Goals as goal

pub returns : goal.returns
returns c = record {
  made = demo_coded c.args.n c.in_ok-text.text.items c.deref-2.result.now c.in-Ok.code c.in_ok-symbols.symbols
      c.in_ok-text.ensures.exact (c.in_ok-symbols.ensures.exact ∙ ap (λ t. count_in (symbols_of t)) c.deref.ensures.value) (c.deref-2.ensures.value ∙ c.in_ok-text.ensures.exact)
      c.in-Ok.ensures.reads;
}

pub returns-in-Err : goal.returns-in-Err
returns-in-Err c = record {
  made = demo_wants c.args.n c.requires.some c.requires.many c.deref-2.result.now c.in-Err.status (c.deref-2.ensures.value ∙ c.in_ok-text.ensures.exact)
      c.in-Err.ensures.reads;
}
