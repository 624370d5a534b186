use Rattle.std.proofs.Common.{sym, ap, ◌∙◌}
use Rattle.std.specs.Prelude.{map}
use Rattle.edi_unit.specs.Need.{block_at}
use Rattle.edi_unit.specs.View.{acts, act_of, unit_of}
use Rattle.edi_walk.specs.Data.{cell_of, closure_of, spot_of}
use Rattle.edi_walk.specs.Frames.{calls_procedure, ends_procedure, performs}
use Rattle.edi_walk.specs.Machine.{given_of, next_of, world_of}
use Rattle.edi_walk.proofs.Arms.{above}
use Rattle.edi_walk.proofs.Blocks.{procedure_entered}
use Rattle.edi_walk.proofs.Calls.{same_on}
use Rattle.edi_walk.proofs.evaluation.Evaluation.call_procedure.Goals as goal

pub returns-in_ok-block-in-Block-clause-exact : goal.returns-in_ok-block-in-Block-clause-exact
returns-in_ok-block-in-Block-clause-exact c levels system enough =
    let old = c.args.self.now in
    let mid = c.enter.new.self in
    c.put_two.ensures.exact levels system _
    (ap (λ g. next_of levels old (calls_procedure c.args.callee c.args.line) (given_of g) (world_of old system)) c.in_ok-cells.ensures.exact
    ∙ procedure_entered levels system old mid c.in-Block.number (spot_of c.in-Block.parent) (map cell_of c.in_ok-cells.cells.items)
    c.in_ok-enter-in-Block.ensures.exact enough c.args.callee c.args.line (sym (c.in_ok-number.ensures.exact system) ∙ ap closure_of c.in-Block.is)
    ∙ ap (λ s. above levels system (performs s) mid (next_of levels mid ends_procedure))
    (ap (λ u. (block_at (unit_of u.now).blocks c.in-Block.number).body) (sym c.in_ok-enter-in-Block.ensures.same.unit)
    ∙ ap (λ b. b.body) (sym c.in_ok-block-in-Block.ensures.exact)
    ∙ ap (λ l. acts (map act_of l)) (sym c.items.ensures.exact)))

pub returns-in_ok-block-in-Block-clause-same : goal.returns-in_ok-block-in-Block-clause-same
returns-in_ok-block-in-Block-clause-same c = same_on c.args.self.now c.enter.new.self c.put_two.new.self c.in_ok-enter-in-Block.ensures.same c.put_two.ensures.same
