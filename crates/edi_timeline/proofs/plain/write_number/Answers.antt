use Rattle.std.proofs.Common.{arith}
use Rattle.std.proofs.lemmas.Fmt.{length-decimal-le}
use Rattle.edi_timeline.proofs.plain.write_number.Goals as goal

pub write_digits-requires : goal.write_digits-requires
write_digits-requires c =
    let few = length-decimal-le 10 c.args.number (omega arith) (omega (arith, c.requires.small)) (omega (arith, c.requires.small)) in
    (omega (arith, few, c.requires.within), omega (arith, c.requires.within))

pub returns-clause-start : goal.returns-clause-start
returns-clause-start c =
    let few = length-decimal-le 10 c.args.number (omega arith) (omega (arith, c.requires.small)) (omega (arith, c.requires.small)) in
    omega (arith, few, c.write_digits.ensures.start)
