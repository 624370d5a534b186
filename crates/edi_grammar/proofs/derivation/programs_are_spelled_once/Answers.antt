use Rattle.edi_grammar.proofs.derivation.Programs.{same_program}
use Rattle.edi_grammar.proofs.derivation.programs_are_spelled_once.Goals as goal

pub returns : goal.returns
returns c = record { one = same_program }
