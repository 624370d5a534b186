use Rattle.std.proofs.Common.{◌∙◌, ap, refl, sym}
use Rattle.std.proofs.lemmas.Bool.{eqb-true}
use Rattle.edi_grammar.specs.Parser.{rule_at}
use Rattle.edi_grammar.specs.Kinds as kind
use Rattle.edi_grammar.specs.Kind.{front}
use Rattle.edi_grammar.specs.Rules as g
use Rattle.edi_grammar.specs.Edison.{edison}
use Rattle.edi_phrases.proofs.Moves.{at_exit, alone_halts, alone_passes}
use Rattle.edi_syntax.proofs.declarations.globals.parse_global.Goals as goal

pub returns-in_err-const_list-clause-halts : goal.returns-in_err-const_list-clause-halts
returns-in_err-const_list-clause-halts c = at_exit _ c.from_residual.ensures.1 (alone_halts g.ConstList
    (ap (λ a. rule_at edison g.Global a) (eqb-true (front c.args.marks.now) kind.Const (sym c.at.ensures.exact ∙ c.if-at.true)))
    c.in_err-const_list.ensures.halts)

pub returns-then-at-clause-passes : goal.returns-then-at-clause-passes
returns-then-at-clause-passes c = alone_passes g.ConstList (ap (λ a. rule_at edison g.Global a) (eqb-true (front c.args.marks.now) kind.Const
    (sym c.at.ensures.exact ∙ c.if-at.true))) c.in_ok-const_list.ensures.passes (λ es. refl)

pub returns-in_err-type_decl-clause-halts : goal.returns-in_err-type_decl-clause-halts
returns-in_err-type_decl-clause-halts c = at_exit _ c.from_residual-in_err-type_decl.ensures.1 (alone_halts g.TypeDecl
    (rw (sym c.at.ensures.exact ∙ c.if-at.false) refl) c.in_err-type_decl.ensures.halts)

pub returns-clause-passes : goal.returns-clause-passes
returns-clause-passes c = alone_passes g.TypeDecl (rw (sym c.at.ensures.exact ∙ c.if-at.false) refl) c.in_ok-type_decl.ensures.passes (λ es. refl)
