use Rattle.std.proofs.Common.{◌∙◌, ap, sym}
use Rattle.std.proofs.lemmas.Bool.{eqb-true}
use Rattle.edi_grammar.specs.Parser.{has}
use Rattle.edi_grammar.specs.Kinds as kind
use Rattle.edi_grammar.specs.Kind.{front}
use Rattle.edi_grammar.specs.Rules as g
use Rattle.edi_grammar.specs.Edison.{first}
use Rattle.edi_syntax.proofs.declarations.Choices.{no_const}
use Rattle.edi_syntax.proofs.declarations.fronts.at_global.Goals as goal

pub returns-then-at : goal.returns-then-at
returns-then-at c = record {
  exact = sym (ap (λ a. has a (first g.Global)) (eqb-true (front c.args.marks.now) kind.Const (sym c.at.ensures.exact ∙ c.if-at.true)));
}

pub returns : goal.returns
returns c = record { exact = c.at_type_decl.ensures.exact ∙ no_const (front c.args.marks.now) (sym c.at.ensures.exact ∙ c.if-at.false) }
