use Rattle.std.proofs.Common.{ap, arith, length}
use Rattle.edi_target.proofs.Sound.{sound_fields}
use Rattle.edi_target.proofs.code.Code.words.Goals as goal

pub returns-clause-some : goal.returns-clause-some
returns-clause-some c = let fields = sound_fields _ c.self.invariant in omega (arith, fields.words, ap length c.deref.ensures.value)

pub returns-clause-limit : goal.returns-clause-limit
returns-clause-limit c = let fields = sound_fields _ c.self.invariant in omega (arith, fields.limit, ap length c.deref.ensures.value)
