use Rattle.std.proofs.Common.{sym, arith}
use Rattle.edi_lex.proofs.Numbers.{number_of-above}
use Rattle.edi_lex.proofs.cutter.number.Goals as goal

pub returns-then-value-gt32767 : goal.returns-then-value-gt32767
returns-then-value-gt32767 c =
    record {
      exact = sym (number_of-above c.args.digits.now c.loop-digit.digit-index c.loop-digit.value c.loop-digit-test.true c.loop-digit.invariant.goes_on
          (omega arith));
    }
