use Rattle.std.proofs.Common.{◌∙◌, ap, subst, rules, w16}
use Rattle.std.proofs.lemmas.Int.{to_z-of_z}
use Rattle.edi_unit.specs.Values.{negation, ordinal}
use Rattle.edi_unit.specs.View.{expression_of}
use Rattle.edi_walk.specs.Reads.{ReadsValue}
use Rattle.edi_walk.proofs.ReadParts.{not_so, not_stops}
use Rattle.edi_walk.proofs.reading.negated.Goals as goal

pub returns-in-Ok : goal.returns-in-Ok
returns-in-Ok c = record {
  exact =
      not_so c.args.here.now (expression_of c.args.e.now) c.in-Ok.n _
      (ap ordinal (to_z-of_z w16 c.negation_ordinal.result (search rules))
      ∙ c.negation_ordinal.ensures.exact ∙ ap (λ n. negation (ordinal n)) (to_z-of_z w16 c.in-Ok.n (search rules)))
      (subst (λ r. ReadsValue (expression_of c.args.e.now) r c.args.here.now) c.in-Ok.is c.requires.read);
}

pub returns-in-Err : goal.returns-in-Err
returns-in-Err c = record {
  exact =
      not_stops c.args.here.now (expression_of c.args.e.now) c.in-Err.hurdle
      (subst (λ r. ReadsValue (expression_of c.args.e.now) r c.args.here.now) c.in-Err.is c.requires.read);
}
