use Rattle.edi_target.proofs.Writing.{count_is_word}
use Rattle.edi_target.proofs.write.append_op.Goals as goal

pub append_cobegin-requires-clause-count : goal.append_cobegin-requires-clause-count
append_cobegin-requires-clause-count c = count_is_word c.args.op.now c.in-Cobegin.line c.in-Cobegin.branches c.in-Cobegin.is c.requires
