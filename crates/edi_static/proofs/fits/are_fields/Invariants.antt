use Rattle.std.proofs.Common.{◌≡◌, drop, map}
use Rattle.edi_static.specs.Fitting.{same_types}
use Rattle.edi_static.proofs.fits.are_fields.Given as goal

abbrev pub invariant-loop-part : goal.invariant-loop-part
invariant-loop-part l = record {
  at : l.position ≡ l.part-index;
  left : same_types (map (λ p. p.of) (drop l.part-index l.parts)) (drop l.part-index l.fields) ≡ same_types (map (λ p. p.of) l.parts) l.fields;
}
