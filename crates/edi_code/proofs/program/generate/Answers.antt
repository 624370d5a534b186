use Rattle.std.proofs.Common.{length, ap, arith}
use Rattle.edi_unit.specs.View.{unit_of}
use Rattle.edi_code.proofs.Faultless.{few_calls, no_fault}
use Rattle.edi_code.proofs.program.generate.Goals as goal

pub check-requires-clause-number : goal.check-requires-clause-number
check-requires-clause-number c =
    omega (arith, ap length c.items.ensures.exact, few_calls (unit_of c.args.unit.now) c.requires.fits c.requires.parts c.requires.short)

pub unreachable-requires : goal.unreachable-requires
unreachable-requires c =
    c.in_default.not-NoMemory
    (no_fault (unit_of c.args.unit.now) c.requires.fits c.requires.parts c.requires.short _ _ _ c.in_ok-words.ensures.exact c.items.ensures.exact
    c.in-Err.ensures.err)
