use Rattle.std.proofs.Common.{◌∙◌, ap, sym, subst, rules, w16}
use Rattle.std.proofs.lemmas.Int.{to_z-of_z}
use Rattle.edi_unit.specs.Types.{is_ordinal_of, shape_at}
use Rattle.edi_unit.specs.View.{expression_of, unit_of}
use Rattle.edi_walk.specs.Reads.{ReadsValue}
use Rattle.edi_walk.proofs.ReadParts.{convert_so, convert_fails, convert_stops}
use Rattle.edi_walk.proofs.reading.converted.Goals as goal

pub returns-then-has_ordinal : goal.returns-then-has_ordinal
returns-then-has_ordinal c = record {
  exact =
      convert_so c.args.here.now (expression_of c.args.e.now) c.args.of c.args.line c.in-Ok.n _ (to_z-of_z w16 c.in-Ok.n (search rules))
      (ap (is_ordinal_of (shape_at (unit_of c.args.here.now.unit.now).types c.args.of)) (sym (to_z-of_z w16 c.in-Ok.n (search rules)))
      ∙ sym c.has_ordinal.ensures.exact
      ∙ c.if-has_ordinal.true)
      (subst (λ r. ReadsValue (expression_of c.args.e.now) r c.args.here.now) c.in-Ok.is c.requires.read);
}

pub returns-else-has_ordinal : goal.returns-else-has_ordinal
returns-else-has_ordinal c = record {
  exact =
      convert_fails c.args.here.now (expression_of c.args.e.now) c.args.of c.args.line c.in-Ok.n
      (ap (is_ordinal_of (shape_at (unit_of c.args.here.now.unit.now).types c.args.of)) (sym (to_z-of_z w16 c.in-Ok.n (search rules)))
      ∙ sym c.has_ordinal.ensures.exact
      ∙ c.if-has_ordinal.false)
      (subst (λ r. ReadsValue (expression_of c.args.e.now) r c.args.here.now) c.in-Ok.is c.requires.read);
}

pub returns-in-Err : goal.returns-in-Err
returns-in-Err c = record {
  exact =
      convert_stops c.args.here.now (expression_of c.args.e.now) c.args.of c.args.line c.in-Err.hurdle
      (subst (λ r. ReadsValue (expression_of c.args.e.now) r c.args.here.now) c.in-Err.is c.requires.read);
}
