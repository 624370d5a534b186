use Rattle.std.proofs.Common.{ap, ◌∙◌, map}
use Rattle.edi_unit.specs.Types.{shape_at}
use Rattle.edi_static.specs.Fitting.{takes_parts}
use Rattle.edi_values.proofs.Making.{types_of}
use Rattle.edi_values.proofs.constructors.fits.Goals as goal

pub returns : goal.returns
returns c =
    let types = c.args.known.now.types in
    let parts = c.args.parts.now in
    record {
      exact = c.takes_parts.ensures.exact
          ∙ ap (λ s. takes_parts types s (map (λ p. p.of) parts)) c.shape.ensures.exact
          ∙ ap (takes_parts types (shape_at types c.args.of)) (types_of parts);
    }
