use Rattle.std.proofs.Common.{arith}
use Rattle.std.proofs.lemmas.Int.{ints}
use Rattle.edi_word.proofs.SetLaws.{has_from_bit}
use Rattle.edi_word.proofs.members.Members.has.Goals as goal

pub returns : goal.returns
returns c =
    rw (c.from.ensures, ← c.self.view_is) (record
    { exact = has_from_bit c.self.inside.0 c.args.n c.cast_unsigned-n.result (omega (arith, ints)) (omega (arith, ints)) })
