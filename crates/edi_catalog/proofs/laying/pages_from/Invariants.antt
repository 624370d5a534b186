use Rattle.std.proofs.Common.{◌≡◌, take}
use Rattle.edi_catalog.proofs.laying.pages_from.Given as goal

abbrev pub invariant-loop-number : goal.invariant-loop-number
invariant-loop-number l = l.pages.items ≡ take l.number-index l.numbers
