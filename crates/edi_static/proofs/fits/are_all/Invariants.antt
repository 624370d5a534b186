use Rattle.std.proofs.Common.{◌≡◌, ◌==◌, drop, map}
use Rattle.std.specs.List.{list_all}
use Rattle.edi_static.proofs.fits.are_all.Given as goal

abbrev pub invariant-loop-part : goal.invariant-loop-part
invariant-loop-part l = record {
  left : list_all (λ t. t == l.of) (map (λ p. p.of) (drop l.part-index l.parts)) ≡ list_all (λ t. t == l.of) (map (λ p. p.of) l.parts);
}
