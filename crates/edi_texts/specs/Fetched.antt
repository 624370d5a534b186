-- Words of contracts. How many bytes of a text have to be fetched to know what it is.
use Rattle.std.specs.Prelude.{◌≡◌, ℕ, List, take}
use Rattle.edi_lex.specs.Limit.{most_fetched}
use Rattle.edi_unit.specs.Tree.{ProgramUnit}
use Rattle.edi_target.specs.Check.{CodeParts}
use Rattle.edi_texts.specs.declared.kind.RefusalKind.{RefusalKind}
use Rattle.edi_texts.specs.declared.refusal.Pass.{Pass}
use Rattle.edi_texts.specs.Texts.{IsFault, IsUnit}
use Rattle.edi_texts.specs.Length.{symbol_count}
use Rattle.edi_texts.specs.Run.{IsCodeFor}

-- of two texts: what is known of the first is so of the second
pub record Tells (one other : List ℕ) : Type 0 where
  pub fault : (pass : Pass) (kind : RefusalKind) (line : ℕ) → IsFault one pass kind line → IsFault other pass kind line
  pub unit : (unit : ProgramUnit) → IsUnit one unit → IsUnit other unit
  pub code : (code : CodeParts) → IsCodeFor one code → IsCodeFor other code

-- the first 262,145 bytes of a text have the same first fault, unit, codes and number of symbols as all of them
pub record FetchedBytesDecide : Type 0 where
  pub there : (text : List ℕ) → Tells (take most_fetched text) text
  pub back : (text : List ℕ) → Tells text (take most_fetched text)
  pub count : (text : List ℕ) → symbol_count (take most_fetched text) ≡ symbol_count text
