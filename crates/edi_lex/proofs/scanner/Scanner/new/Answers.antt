use Rattle.edi_lex.specs.Reading.{HasRead}
use Rattle.edi_lex.proofs.Readings.{reads_nothing}
use Rattle.edi_lex.proofs.scanner.Scanner.new.Goals as goal

pub returns : goal.returns
unfolding HasRead
returns c = record { empty = rw (c.new.ensures.empty, c.new-2.ensures.empty) reads_nothing }
