use Rattle.std.proofs.Common.{◌∷◌, [], sym, ◌∙◌}
use Rattle.std.specs.Prelude.{None}
use Rattle.edi_unit.specs.Headings.{heading}
use Rattle.edi_static.specs.Views.{asked_of, formal_of, formals, same_one}
use Rattle.edi_sema.proofs.Shapes.{one_stated, not_one, with_result, with_no_result}
use Rattle.edi_sema.proofs.calls.asks_only.Goals as goal

pub returns-then-formals-ne1 : goal.returns-then-formals-ne1
returns-then-formals-ne1 c =
    record {
      exact = sym (not_one (asked_of c.args.asked.now) c.formals_of-formals.result.now (formal_of c.args.formal.now) c.formals_of-formals.ensures.exact
          c.if-formals-ne1.true);
    }

pub returns-then-not-is_procedure : goal.returns-then-not-is_procedure
returns-then-not-is_procedure c =
    record {
      exact = sym (with_result (asked_of c.args.asked.now) (heading (formals (formal_of c.args.formal.now ∷ [])) None)
          (sym c.is_procedure.ensures.exact ∙ c.if-not-is_procedure.true));
    }

pub returns : goal.returns
returns c =
    let h = asked_of c.args.asked.now in
    let x = c.index-formals-0.result in
    let wanted = formal_of c.args.formal.now in
    record {
      exact =
          c.same_formal.ensures.exact
          ∙ sym (with_no_result (same_one (formal_of x) wanted) h (sym c.is_procedure.ensures.exact ∙ c.if-not-is_procedure.false))
          ∙ sym (one_stated h c.formals_of-formals.result.now x wanted c.formals_of-formals.ensures.exact c.if-formals-ne1.false
          c.index-formals-0.is);
    }
