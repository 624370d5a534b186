-- One symbol in hand decides, in each part of the grammar of Edison.
use Rattle.std.proofs.Common.{◌≡◌, true, refl}
use Rattle.edi_grammar.specs.Fair.{part_is_fair}
use Rattle.edi_grammar.specs.Rules.{Sort, Program}
use Rattle.edi_grammar.specs.Edison.{edison}
use Rattle.edi_grammar.proofs.Conditions.{Fair, fair_of}

pub one_symbol_decides : (k : Sort) → part_is_fair edison k ≡ true
one_symbol_decides Program = refl
one_symbol_decides k = refl

pub fair : Fair edison
fair = fair_of edison one_symbol_decides
