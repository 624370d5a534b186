-- Words of contracts. Where no string stands.
use Rattle.std.specs.Prelude.{◌≡◌, List, [], ◌∷◌, false}
use Rattle.edi_lex.specs.declared.symbol.Mark.{Mark}
use Rattle.edi_grammar.specs.Kinds as kind
use Rattle.edi_grammar.specs.Kind.{front}
use Rattle.edi_grammar.specs.Parser.{has}
use Rattle.edi_phrases.specs.declared.stop.Stop.{Stop}
use Rattle.edi_phrases.specs.declared.stop.Stop.TheVariants as stop

-- no string is in front, and there is the fault
abbrev pub NoStringBy : List Mark → Stop → Type 0
NoStringBy p (stop.Fault rest) = has (front p) (kind.Char ∷ kind.Text ∷ []) ≡ false
NoStringBy p (stop.TooDeep rest) = ⊥
NoStringBy p stop.NoMemory = Unit {0}

pub record NoString (p : List Mark) (e : Stop) : Type 0 where
  pub at : NoStringBy p e
