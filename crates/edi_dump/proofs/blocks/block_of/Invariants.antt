use Rattle.std.proofs.Common.{◌≡◌, ◌≤◌, ◌+◌, length, drop}
use Rattle.std.specs.Prelude.{filter, nat_lt}
use Rattle.edi_dump.proofs.blocks.block_of.Given as goal

abbrev pub invariant-loop-end : goal.invariant-loop-end
invariant-loop-end l = record {
  left : l.found + length (filter (λ end. nat_lt end l.at) (drop l.end-index l.ends)) ≡ length (filter (λ end. nat_lt end l.at) l.ends);
  few : l.found ≤ l.end-index;
}
