use Rattle.std.proofs.Common.{◌≡◌, ◌-◌, length}
use Rattle.edi_explain.specs.told.Names.{next_from, next_name}
use Rattle.edi_explain.proofs.told.names.next_name.Given as goal

abbrev pub invariant-loop-index : goal.invariant-loop-index
invariant-loop-index l = next_from l.marks l.line l.index (length l.marks - l.index) ≡ next_name l.marks l.line l.from
