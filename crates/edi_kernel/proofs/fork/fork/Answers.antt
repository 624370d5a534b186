-- The children begin one after another.
use Rattle.std.proofs.Common.{arith}
use Rattle.edi_machine.specs.Starts.{branches_at}
use Rattle.edi_kernel.proofs.Sharing.{one_child, added_table, added_free}
use Rattle.edi_kernel.proofs.fork.fork.Goals as goal

pub loop-i-preserved : goal.loop-i-preserved
loop-i-preserved c = record {
  begun =
      one_child c.args.slot c.args.parent.now (branches_at c.args.code.now.words c.args.at) c.args.store.now c.args.table.now c.loop-i.i c.loop-i.store
      c.branch-activity.new.store c.loop-i.table c.add.new.self
      c.branch-activity.result c.loop-i.invariant.begun c.branch-activity.ensures.exact c.branch-activity.ensures.child c.branch-activity.ensures.words
      c.add.ensures;
  table = added_table c.args.slot c.branch-activity.result c.loop-i.table c.add.new.self c.loop-i.invariant.table c.requires.slot
      c.branch-activity.ensures.child c.add.ensures;
  free =
      omega (
        arith,
        c.loop-i.invariant.free,
        added_free c.args.slot c.branch-activity.result c.loop-i.table c.add.new.self c.loop-i.invariant.table c.requires.slot c.branch-activity.ensures.child
            c.add.ensures,
      );
}
