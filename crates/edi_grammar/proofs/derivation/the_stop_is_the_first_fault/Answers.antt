use Rattle.edi_grammar.proofs.derivation.Firsts.{misplaced, too_deep_at, whole_tree}
use Rattle.edi_grammar.proofs.derivation.the_stop_is_the_first_fault.Goals as goal

pub returns : goal.returns
returns c = record { misplaced = misplaced; deep = too_deep_at; whole = whole_tree }
