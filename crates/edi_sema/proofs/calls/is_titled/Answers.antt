use Rattle.std.proofs.Common.{sym, ◌∙◌, ap, ◌&&◌}
use Rattle.edi_unit.specs.Types.{bool_type}
use Rattle.edi_sema.specs.Calls.{takes_title}
use Rattle.edi_static.specs.Views.{variable, asked_of, formal_of, same_one}
use Rattle.edi_sema.proofs.Shapes.{with_no_result, titled_stated, not_titled, no_title, not_two}
use Rattle.edi_sema.proofs.calls.is_titled.Goals as goal

pub returns-then-formals-ne2 : goal.returns-then-formals-ne2
returns-then-formals-ne2 c =
    record {
      exact = sym (not_two c.args.known.now.types (asked_of c.args.asked.now) c.formals_of-formals.result.now c.formals_of-formals.ensures.exact
          c.if-formals-ne2.true);
    }

pub returns-then-not-is_procedure : goal.returns-then-not-is_procedure
returns-then-not-is_procedure c =
    record { exact = sym (not_titled c.args.known.now.types (asked_of c.args.asked.now) (sym c.is_procedure.ensures.exact ∙ c.if-not-is_procedure.true)) }

pub returns-then-not-is_title_value : goal.returns-then-not-is_title_value
returns-then-not-is_title_value c =
    record {
      exact =
          sym (no_title c.args.known.now.types (asked_of c.args.asked.now) c.formals_of-formals.result.now c.index-formals-0.result
          c.formals_of-formals.ensures.exact c.index-formals-0.is
          (sym c.is_title_value.ensures.exact ∙ c.if-not-is_title_value.true));
    }

pub returns : goal.returns
returns c =
    let h = asked_of c.args.asked.now in
    let types = c.args.known.now.types in
    let x = c.index-formals-0.result in
    let y = c.index-formals-1.result in
    record {
      exact =
          c.is_variable.ensures.exact
          ∙ sym (titled_stated types h c.formals_of-formals.result.now x y c.formals_of-formals.ensures.exact c.if-formals-ne2.false c.index-formals-0.is
          c.index-formals-1.is
          ∙ (with_no_result (takes_title types (formal_of x) && same_one (formal_of y) (variable bool_type)) h
          (sym c.is_procedure.ensures.exact ∙ c.if-not-is_procedure.false)
          ∙ ap (λ b. b && same_one (formal_of y) (variable bool_type)) (sym c.is_title_value.ensures.exact ∙ c.if-not-is_title_value.false)));
    }
