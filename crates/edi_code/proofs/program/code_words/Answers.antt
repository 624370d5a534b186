use Rattle.edi_unit.specs.View.{unit_of}
use Rattle.edi_code.proofs.Fitting.{is_writable}
use Rattle.edi_code.proofs.program.code_words.Goals as goal

pub unit_words-requires : goal.unit_words-requires
unit_words-requires c = record { writable = is_writable (unit_of c.args.unit.now) c.requires.fits c.requires.parts c.requires.small }
