use Rattle.std.proofs.Common.{to_z-of_z}
use Rattle.edi_word.proofs.IntLaws.{remainder_from}
use Rattle.edi_word.proofs.modulo.Goals as goal

pub returns : goal.returns
returns c = record { exact = remainder_from _ _ _ c.ranges.b (simp (to_z-of_z c.ranges.a, to_z-of_z c.ranges.b) at c.checked_rem.ensures) }
