use Rattle.std.proofs.Common.{refl}
use Rattle.edi_code.proofs.Emitting.{two}
use Rattle.edi_code.proofs.program.emit_branch.Goals as goal

pub returns : goal.returns
returns c = record { emits = two c.put.result _ _ _ _ _ _ _ c.in_ok-emit_acts.ensures.emits c.put.ensures.emits refl refl }
