use Rattle.edi_grammar.proofs.EdisonIsFair.{one_symbol_decides}
use Rattle.edi_grammar.proofs.one_symbol_decides.Goals as goal

pub returns : goal.returns
returns c = record { fair = one_symbol_decides }
