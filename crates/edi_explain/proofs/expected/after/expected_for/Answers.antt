use Rattle.std.proofs.Common.{rules, ◌<◌, arith, length}
use Rattle.edi_explain.proofs.expected.Reaching.{grown}
use Rattle.edi_explain.proofs.expected.after.expected_for.Goals as goal

pub loop-kind-init : goal.loop-kind-init
loop-kind-init c = record { most = omega arith; size = (search rules); exact = λ before h k less. absurd (omega (arith, less)) }

pub loop-kind-preserved : goal.loop-kind-preserved
loop-kind-preserved c =
    let inv = c.loop-kind.invariant in
    let fits : c.loop-kind.kind < length c.loop-kind.kinds = (search rules) in record {
      most = (search rules);
      size = (search rules);
      exact = λ before h. grown before c.loop-kind.kinds c.loop-kind.kind c.in_ok-kinds.field-0 fits (inv.exact before h)
          (c.in_ok-kinds.ensures.exact before h);
    }
