use Rattle.std.proofs.Common.{arith, ◌<◌, ◌%◌}
use Rattle.std.proofs.lemmas.Nat.{one_shl}
use Rattle.edi_word.proofs.SetLaws.{members_of-words_with}
use Rattle.edi_word.proofs.members.Members.with.Goals as goal

pub returns : goal.returns
returns c =
    let bit : c.args.n % 16 < 16 = omega arith in
    rw (c.from.ensures, ← c.self.view_is, one_shl (c.args.n % 16) 16 bit)
    (record { exact = members_of-words_with c.self.inside.0 c.args.n c.self.invariant (omega arith) })
