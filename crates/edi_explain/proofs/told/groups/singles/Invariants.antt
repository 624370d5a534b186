use Rattle.std.proofs.Common.{◌≡◌, ◌++◌, drop}
use Rattle.edi_explain.specs.told.Groups.{singles}
use Rattle.edi_explain.specs.told.Tables.{may_of}
use Rattle.edi_explain.proofs.told.groups.singles.Given as goal

abbrev pub invariant-loop-kind : goal.invariant-loop-kind
invariant-loop-kind l = l.list.items ++ singles (may_of l.expected) (drop l.kind-index l.kinds) ≡ singles (may_of l.expected) l.kinds
