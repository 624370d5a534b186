use Rattle.std.proofs.Common.{arith}
use Rattle.edi_unit.proofs.Tables.{size_unknown}
use Rattle.edi_unit.proofs.typing.type_words.Goals as goal

pub returns-else-t-len-clause-exact : goal.returns-else-t-len-clause-exact
returns-else-t-len-clause-exact c = size_unknown c.args.types.now c.args.t (omega (arith, c.len.ensures.exact))
