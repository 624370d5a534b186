use Rattle.edi_utils.specs.Demo.{demo_procedure}
use Rattle.edi_utils.proofs.Numbered.{numbered_next}
use Rattle.edi_utils.proofs.demonstration.put_procedures.Goals as goal

pub loop-before-preserved : goal.loop-before-preserved
loop-before-preserved c =
    numbered_next demo_procedure c.loop-before.before c.args.n c.loop-before.bytes.items _ _ c.loop-before-test.true c.loop-before.invariant
    c.in_ok-put_procedure.ensures
