use Rattle.std.proofs.Common.{rules, arith}
use Rattle.edi_runs.proofs.explore.Reading.{none_more, one_lost, one_more, read_too_long, read_whole, rose_since}
use Rattle.edi_runs.proofs.explore.input.read_input.Goals as goal

pub returns-then-is_err-clause-reads : goal.returns-then-is_err-clause-reads
returns-then-is_err-clause-reads g c = one_lost _ _ _ c.loop-count.bytes.items (omega (arith, c.loop-count.invariant.count, c.loop-count-test.true)) c.loop-count.invariant.told c.in-Byte.byte c.in-Byte.ensures.takes

pub returns-then-is_err-clause-later : goal.returns-then-is_err-clause-later
returns-then-is_err-clause-later g c = omega (arith, c.loop-count.invariant.later, c.next.ensures.later)

pub returns-in-End-clause-reads : goal.returns-in-End-clause-reads
returns-in-End-clause-reads g c =
    read_whole _ _ _ c.loop-count.bytes (omega (arith, c.loop-count.invariant.count, c.loop-count-test.true)) c.loop-count.invariant.told
    c.in-End.ensures.takes

pub returns-in-End-clause-few : goal.returns-in-End-clause-few
returns-in-End-clause-few g c = omega (arith, c.loop-count.invariant.count, c.loop-count-test.true)

pub returns-in-End-clause-later : goal.returns-in-End-clause-later
returns-in-End-clause-later g c = omega (arith, c.loop-count.invariant.later, c.next.ensures.later)

pub returns-in-Failed-clause-reads : goal.returns-in-Failed-clause-reads
returns-in-Failed-clause-reads g c = none_more _ _ _ c.loop-count.bytes.items (omega (arith, c.loop-count.invariant.count, c.loop-count-test.true))
    c.loop-count.invariant.told c.in-Failed.ensures.takes

pub returns-in-Failed-clause-later : goal.returns-in-Failed-clause-later
returns-in-Failed-clause-later g c = omega (arith, c.loop-count.invariant.later, c.next.ensures.later)

pub returns-in-Failed-clause-cause : goal.returns-in-Failed-clause-cause
returns-in-Failed-clause-cause g c = λ e. rose_since _ _ _ c.loop-count.invariant.later (c.next.ensures.cause c.in-Failed.is)

pub loop-count-preserved : goal.loop-count-preserved
loop-count-preserved g c = record {
  told = one_more _ _ _ c.loop-count.bytes.items (omega (arith, c.loop-count.invariant.count, c.loop-count-test.true))
      c.loop-count.invariant.told c.push.new.self.items c.in-Byte.byte (search rules) c.in-Byte.ensures.takes;
  count = search rules;
  most = omega (arith, c.loop-count-test.true);
  later = omega (arith, c.loop-count.invariant.later, c.next.ensures.later);
}

pub returns-clause-reads : goal.returns-clause-reads
returns-clause-reads g c =
    read_too_long _ _ c.loop-count.bytes.items (omega (arith, c.loop-count.invariant.count, c.loop-count.invariant.most, c.loop-count-test.false)) c.loop-count.invariant.told

pub returns-clause-later : goal.returns-clause-later
returns-clause-later g c = c.loop-count.invariant.later
