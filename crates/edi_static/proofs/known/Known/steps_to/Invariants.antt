use Rattle.std.proofs.Common.{◌≡◌, ◌+◌, drop}
use Rattle.edi_static.specs.Environment.{steps_to}
use Rattle.edi_static.proofs.known.Known.steps_to.Given as goal

abbrev pub invariant-loop-around : goal.invariant-loop-around
invariant-loop-around l = record {
  at : l.steps ≡ l.around-index;
  left : l.steps + steps_to l.block (drop l.around-index l.around-items) ≡ steps_to l.block l.around-items;
}
