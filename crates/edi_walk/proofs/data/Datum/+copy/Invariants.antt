use Rattle.std.proofs.Common.{◌≡◌, ◌++◌, drop}
use Rattle.std.specs.Prelude.{map}
use Rattle.edi_walk.specs.Data.{value_of}
use Rattle.edi_walk.proofs.data.Datum.+copy.Given as goal

abbrev pub invariant-loop-part : goal.invariant-loop-part
invariant-loop-part l = map value_of l.copies.items ++ map value_of (drop l.part-index l.part-items) ≡ map value_of l.part-items
