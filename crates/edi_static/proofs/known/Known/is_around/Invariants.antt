use Rattle.std.proofs.Common.{◌≡◌, ◌==◌, drop}
use Rattle.std.specs.List.{list_any}
use Rattle.edi_static.proofs.known.Known.is_around.Given as goal

abbrev pub invariant-loop-around : goal.invariant-loop-around
invariant-loop-around l = record {
  left : list_any (λ a. a == l.block) (drop l.around-index l.around-items) ≡ list_any (λ a. a == l.block) l.around-items;
}
