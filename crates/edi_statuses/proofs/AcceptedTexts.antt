-- What a text is, is one.
use Rattle.edi_lex.specs.Symbols.{symbols_of}
use Rattle.edi_compile.proofs.codable.Following.{units_fit}
use Rattle.edi_texts.proofs.Bounded.{accepted_texts_are_sound}
use Rattle.edi_texts.proofs.Once.{one_fault, not_both, one_unit}
use Rattle.edi_statuses.proofs.StepLemmas.{TextsAreOne}

pub texts_are_one : TextsAreOne
texts_are_one = record {
  one_fault = λ text p q k l m n a b. one_fault (symbols_of text) p q k l m n a b;
  not_both = λ text p k m unit a u. not_both (symbols_of text) p k m unit a u;
  one_unit = λ text one other a b. one_unit (symbols_of text) one other a b;
  fits = λ text unit u. let sound = accepted_texts_are_sound text unit u in units_fit sound.tree unit sound.sound sound.resolved;
}
