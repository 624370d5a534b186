use Rattle.std.proofs.Common.{refl, sym, ◌∙◌}
use Rattle.std.specs.Prelude.{map}
use Rattle.edi_unit.specs.View.{expressions, expression_of}
use Rattle.edi_unit.proofs.Limits.{drop_item}
use Rattle.edi_meaning.specs.Step as step
use Rattle.edi_code.proofs.Calling.{none_here}
use Rattle.edi_code.proofs.quiet.+calls.Goals as goal

pub any_calls-loop-value-preserved : goal.any_calls-loop-value-preserved
any_calls-loop-value-preserved t c =
    none_here (λ l. step.any_calls (expressions (map expression_of l))) _ _ _ _ (drop_item _ _ _ c.loop-value-test.true c.value-item.is)
    c.loop-value.invariant refl (sym c.value_calls.ensures.exact ∙ c.if-value_calls.false)
