use Rattle.std.proofs.Common.{◌≡◌, [], drop}
use Rattle.edi_disjoint.specs.Openly.{with_values}
use Rattle.edi_disjoint.proofs.reach.values.Given as goal

abbrev pub invariant-loop-mention : goal.invariant-loop-mention
invariant-loop-mention l = with_values l.list.items (drop l.mention-index l.text) ≡ with_values [] l.text
