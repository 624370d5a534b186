use Rattle.std.proofs.Common.{◌≡◌, ◌++◌, false, drop}
use Rattle.edi_explain.specs.told.Groups.{listed}
use Rattle.edi_explain.proofs.told.groups.put_listed.Given as goal

abbrev pub invariant-loop-kind : goal.invariant-loop-kind
invariant-loop-kind l = l.out.items ++ listed l.more (drop l.kind-index l.kinds) ≡ l.fn.out.items ++ listed false l.kinds
