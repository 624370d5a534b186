use Rattle.std.proofs.Common.{◌≡◌, ◌++◌, drop}
use Rattle.edi_tree.specs.View.{names as listed}
use Rattle.edi_sights.specs.named.Names.{spellings}
use Rattle.edi_sights.proofs.named.spelled.put_names.Given as goal

abbrev pub invariant-loop-name : goal.invariant-loop-name
invariant-loop-name l = record { left : l.into.items ++ spellings (listed (drop l.name-index l.names)) ≡ l.fn.into.items ++ spellings (listed l.names) }
