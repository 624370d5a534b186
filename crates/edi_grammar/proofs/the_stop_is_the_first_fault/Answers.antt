use Rattle.edi_grammar.proofs.Start.{first_fault}
use Rattle.edi_grammar.proofs.the_stop_is_the_first_fault.Goals as goal

pub returns : goal.returns
returns c = record { exact = first_fault }
