-- Each text is one thing.
use Rattle.edi_lex.specs.Symbols.{symbols_of}
use Rattle.edi_texts.specs.Laws.{EachTextIsOneThing}
use Rattle.edi_texts.proofs.Once.{not_both, one_fault, one_unit}
use Rattle.edi_texts.proofs.Total.{some_thing}

pub one_thing : EachTextIsOneThing
one_thing = record {
  some_thing = some_thing;
  one_fault = λ text p q k l m n a b. one_fault (symbols_of text) p q k l m n a b;
  not_both = λ text p k m unit a u. not_both (symbols_of text) p k m unit a u;
  one_unit = λ text one other a b. one_unit (symbols_of text) one other a b;
}
