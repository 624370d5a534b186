use Rattle.std.proofs.Common.{◌≡◌, drop}
use Rattle.edi_static.specs.Waiting as spec
use Rattle.edi_static.proofs.splits.end_all.Given as goal

abbrev pub invariant-loop-place : goal.invariant-loop-place
invariant-loop-place l = record {
  left : spec.ended_all (drop l.place-index l.places) l.rows.items ≡ spec.ended_all l.places l.initial.rows.items;
}
