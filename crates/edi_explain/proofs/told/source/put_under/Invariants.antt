use Rattle.std.proofs.Common.{◌≡◌, ◌++◌, drop}
use Rattle.std.specs.Prelude.{map}
use Rattle.edi_explain.specs.told.Source.{under_byte}
use Rattle.edi_explain.proofs.told.source.put_under.Given as goal

abbrev pub invariant-loop-b : goal.invariant-loop-b
invariant-loop-b l = l.out.items ++ map under_byte (drop l.b-index l.bytes) ≡ l.fn.out.items ++ map under_byte l.bytes
