use Rattle.std.proofs.Common.{◌≡◌, ◌++◌, drop}
use Rattle.std.specs.Prelude.{map}
use Rattle.edi_unit.specs.Values.{values}
use Rattle.edi_meaning.specs.Whole.{words_of_values}
use Rattle.edi_walk.specs.Data.{value_of}
use Rattle.edi_walk.proofs.asking.add_parts.Given as goal

abbrev pub invariant-loop-part : goal.invariant-loop-part
invariant-loop-part l =
    l.words.items ++ words_of_values (values (map value_of (drop l.part-index l.parts))) ≡ l.initial.words.items ++ words_of_values (values (map value_of l.parts))
