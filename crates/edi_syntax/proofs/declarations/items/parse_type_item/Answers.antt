use Rattle.std.proofs.Common.{ap, sym}
use Rattle.edi_tree.specs.Levels as elements
use Rattle.edi_grammar.specs.Kind.{front}
use Rattle.edi_grammar.specs.Rules as g
use Rattle.edi_phrases.proofs.Moves.{at_exit, alone_halts, alone_passes}
use Rattle.edi_syntax.proofs.declarations.Choices.{item_type}
use Rattle.edi_syntax.proofs.declarations.items.parse_type_item.Goals as goal

pub returns-in_err-type_decl-clause-halts : goal.returns-in_err-type_decl-clause-halts
returns-in_err-type_decl-clause-halts c = at_exit _ c.from_residual.ensures.1 (alone_halts g.TypeDecl (item_type (front c.args.marks.now) c.requires.chosen)
    c.in_err-type_decl.ensures.halts)

pub returns-clause-passes : goal.returns-clause-passes
returns-clause-passes c = alone_passes g.TypeDecl (item_type (front c.args.marks.now) c.requires.chosen) c.in_ok-type_decl.ensures.passes
    (λ es. ap (λ t. elements.item_elements t es) (sym c.make_type_item.ensures.seen))
