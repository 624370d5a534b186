use Rattle.std.proofs.Common.{◌≡◌, drop}
use Rattle.edi_disjoint.specs.Apart.{reached_of, with_called}
use Rattle.edi_disjoint.proofs.reach.Queue.add_called.Given as goal

abbrev pub invariant-loop-mention : goal.invariant-loop-mention
invariant-loop-mention l = with_called (reached_of l.self) (drop l.mention-index l.text) ≡ with_called (reached_of l.fn.self) l.text
