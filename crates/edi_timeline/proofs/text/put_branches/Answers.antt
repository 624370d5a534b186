use Rattle.std.proofs.Common.{◌∙◌, arith}
use Rattle.edi_timeline.proofs.Naming.{put_more}
use Rattle.edi_timeline.proofs.text.put_branches.Goals as goal

pub loop-left-preserved-in-Continue-branch-2 : goal.loop-left-preserved-in-Continue-branch-2
loop-left-preserved-in-Continue-branch-2 c = record {
  text =
      put_more c.args.path.now c.loop-left.left (0, 0) c.loop-left.out.items c.put_branch.new.out.items c.extend_from_slice.new.self.items
      c.if-left-gt0.true c.loop-left.invariant.within c.in_ok-put_branch.ensures.exact c.in_ok-extend_from_slice.ensures.items
      ∙ c.loop-left.invariant.text;
  within = omega (arith, c.loop-left.invariant.within);
}
