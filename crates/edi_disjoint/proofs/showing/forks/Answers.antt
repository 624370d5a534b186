use Rattle.std.proofs.Common.{refl, ◌∙◌}
use Rattle.std.specs.Prelude.{map}
use Rattle.edi_unit.specs.View.{block_of}
use Rattle.edi_disjoint.specs.Report.{forks_in_acts, forks_of}
use Rattle.edi_disjoint.specs.Shown.{forks_here}
use Rattle.edi_disjoint.proofs.Filing.{filed_step}
use Rattle.edi_disjoint.proofs.showing.forks.Goals as goal

pub loop-block-preserved : goal.loop-block-preserved
loop-block-preserved c =
    filed_step (λ xs. forks_of (map block_of xs)) (λ x. forks_in_acts (block_of x).body) (map forks_here c.loop-block.begun.items)
    (map forks_here c.put_acts.new.begun.items) c.items-block-items.result.now c.loop-block.block-index c.block-item.result c.loop-block-test.true
    c.block-item.is refl c.in_ok-put_acts.ensures.exact
    ∙ c.loop-block.invariant
