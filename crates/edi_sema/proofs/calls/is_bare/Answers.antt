use Rattle.std.proofs.Common.{sym, ◌∙◌}
use Rattle.edi_static.specs.Environment.{no_heading}
use Rattle.edi_static.specs.Views.{asked_of}
use Rattle.edi_sema.proofs.Shapes.{with_result, bare_stated}
use Rattle.edi_sema.proofs.calls.is_bare.Goals as goal

pub returns-then-not-is_procedure : goal.returns-then-not-is_procedure
returns-then-not-is_procedure c =
    record { exact = sym (with_result (asked_of c.args.asked.now) no_heading (sym c.is_procedure.ensures.exact ∙ c.if-not-is_procedure.true)) }

pub returns : goal.returns
returns c =
    record {
      exact = c.is_empty.ensures ∙ sym (bare_stated (asked_of c.args.asked.now) c.formals_of.result.now c.formals_of.ensures.exact
          (sym c.is_procedure.ensures.exact ∙ c.if-not-is_procedure.false));
    }
