use Rattle.std.proofs.Common.{ap, sym}
use Rattle.edi_tree.specs.Levels as elements
use Rattle.edi_grammar.specs.Rules as g
use Rattle.edi_phrases.proofs.Moves.{at_exit, alone_halts, alone_passes}
use Rattle.edi_syntax.proofs.declarations.Choices.{item_at}
use Rattle.edi_syntax.proofs.declarations.items.parse_const_item.Goals as goal

pub returns-in_err-consts-clause-halts : goal.returns-in_err-consts-clause-halts
returns-in_err-consts-clause-halts c = at_exit _ c.from_residual.ensures.1 (alone_halts g.ConstList (item_at _ c.requires.chosen) c.in_err-consts.ensures.halts)

pub returns-clause-passes : goal.returns-clause-passes
returns-clause-passes c = alone_passes g.ConstList (item_at _ c.requires.chosen) c.in_ok-consts.ensures.passes
    (λ es. ap (λ t. elements.item_elements t es) (sym c.make_const_item.ensures.seen))
