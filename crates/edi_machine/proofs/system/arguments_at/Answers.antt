use Rattle.std.proofs.Common.{◌∙◌, arith, length-set}
use Rattle.edi_machine.proofs.SystemCalls.{read_more}
use Rattle.edi_machine.proofs.system.arguments_at.Goals as goal

pub loop-i-preserved : goal.loop-i-preserved
loop-i-preserved c = record {
  so_far = read_more c.args.store.now c.loop-i.words c.args.at c.loop-i.i c.get.result c.get-whole.ensures.whole (omega arith) (omega arith)
      c.get.ensures.exact c.loop-i.invariant.so_far;
  long = length-set c.loop-i.words c.loop-i.i c.get.result ∙ c.loop-i.invariant.long;
}
