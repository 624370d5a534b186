use Rattle.std.proofs.Common.{◌≡◌, ◌++◌, drop}
use Rattle.std.specs.Prelude.{map}
use Rattle.edi_explain.specs.told.Source.{shown_byte}
use Rattle.edi_explain.proofs.told.source.put_shown.Given as goal

abbrev pub invariant-loop-b : goal.invariant-loop-b
invariant-loop-b l = l.out.items ++ map shown_byte (drop l.b-index l.bytes) ≡ l.fn.out.items ++ map shown_byte l.bytes
