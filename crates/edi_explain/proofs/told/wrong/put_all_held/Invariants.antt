use Rattle.std.proofs.Common.{◌≡◌, ◌++◌, drop}
use Rattle.edi_explain.specs.told.Explained.{held_lines}
use Rattle.edi_explain.proofs.told.wrong.put_all_held.Given as goal

abbrev pub invariant-loop-one : goal.invariant-loop-one
invariant-loop-one l = l.out.items ++ held_lines (drop l.one-index l.held) ≡ l.fn.out.items ++ held_lines l.held
