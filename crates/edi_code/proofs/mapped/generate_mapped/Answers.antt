use Rattle.std.proofs.Common.{arith}
use Rattle.edi_unit.specs.View.{unit_of}
use Rattle.edi_code.proofs.Fitting.{is_writable}
use Rattle.edi_code.proofs.mapped.generate_mapped.Goals as goal

pub unit_mapped-requires : goal.unit_mapped-requires
unit_mapped-requires c = record { writable = is_writable (unit_of c.args.unit.now) c.requires.fits c.requires.parts (omega (arith, c.requires.short)) }
