use Rattle.std.proofs.Common.{arith}
use Rattle.edi_unit.proofs.types.TypeTable.takes_array.Goals as goal

pub returns-then-not-has_elementary : goal.returns-then-not-has_elementary
returns-then-not-has_elementary c =
    record { exact = (λ taken. cc, λ new. c.if-not-has_elementary.ensures.other (new.known 0 0 (omega arith)) (new.elementary 0 0 (omega arith))) }
