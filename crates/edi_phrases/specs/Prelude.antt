-- Words of contracts. Those in which the contracts of all parsing functions are written, from here and from below.
pub use Rattle.edi_grammar.specs.Kind.{kind_of, front}
pub use Rattle.edi_grammar.specs.Parser.{has}
pub use Rattle.edi_phrases.specs.Words.{is_word, at_line, StandsHere, HeadStands}
pub use Rattle.edi_phrases.specs.Parses.{Passes}
pub use Rattle.edi_phrases.specs.Stopped.{HaltsAt, Lacks, HaltsInHead}
