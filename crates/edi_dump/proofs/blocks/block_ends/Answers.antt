use Rattle.std.proofs.Common.{ℕ, Bool, if◌then◌else◌, List, [], ◌∷◌, ◌++◌, ap, ◌∙◌}
use Rattle.edi_target.specs.View.{instruction_of}
use Rattle.edi_dump.proofs.Addresses.{ends_step}
use Rattle.edi_dump.proofs.blocks.block_ends.Goals as goal

pub loop-op-preserved : goal.loop-op-preserved
loop-op-preserved c =
    let r = c.in-Some.ensures in
    let own : Bool → List ℕ = λ t. if t then c.loop-op.at ∷ [] else [] in
    record {
      left =
          ends_step c.args.words.now c.loop-op.at c.in-Some.next (instruction_of c.in-Some.op) c.loop-op.ends.items _ r.found r.after r.within
          (c.in_ok-add_if.ensures.exact ∙ ap (λ t. c.loop-op.ends.items ++ own t) c.ends_block.ensures.exact)
          c.loop-op.invariant.left;
    }
