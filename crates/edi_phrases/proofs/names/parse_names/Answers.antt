use Rattle.std.proofs.Common.{◌≡◌, rules, ◌∷◌, [], Some, ap, refl, sym, arith}
use Rattle.std.proofs.lemmas.Bool.{ne_eqb}
use Rattle.edi_lex.specs.declared.symbol.Symbol.TheVariants as is
use Rattle.edi_tree.specs.Stands.{just, name_mark}
use Rattle.edi_tree.specs.Levels as elements
use Rattle.edi_tree.specs.View as view
use Rattle.edi_grammar.specs.Grammar.{token, part}
use Rattle.edi_grammar.specs.Parser.{rule_at}
use Rattle.edi_grammar.specs.Kinds as kind
use Rattle.edi_grammar.specs.Kind.{front}
use Rattle.edi_grammar.specs.Rules as g
use Rattle.edi_grammar.specs.Edison.{edison}
use Rattle.edi_phrases.specs.Words.{at_line}
use Rattle.edi_phrases.proofs.Moves.{at_exit, over_mark, into, written, lacks}
use Rattle.edi_phrases.proofs.Pushes.{one_more}
use Rattle.edi_phrases.proofs.Opened.{over_front}
use Rattle.edi_phrases.proofs.names.parse_names.Goals as goal

names_comma : rule_at edison g.Names kind.Comma ≡ Some (token kind.Comma ∷ token kind.Name ∷ part g.Names ∷ [])
names_comma = refl

pub returns-in_err-item-clause-halts : goal.returns-in_err-item-clause-halts
returns-in_err-item-clause-halts c = at_exit _ c.from_residual.ensures.1 (lacks (over_front g.Names is.Comma (just is.Comma) names_comma refl (refl, tt)
    c.loop-behind.invariant.goes c.in-Some.ensures.found) c.in_err-item.ensures.none)

pub loop-behind-preserved : goal.loop-behind-preserved
loop-behind-preserved c = record {
  goes = written
      (over_mark (name_mark c.in_ok-item.item) (at_line (is.Name c.in_ok-item.item.text) c.in_ok-item.item.line)
      (over_front g.Names is.Comma (just is.Comma) names_comma refl (refl, tt) c.loop-behind.invariant.goes c.in-Some.ensures.found) c.in_ok-item.ensures.found refl refl
      (refl, refl)) (one_more (λ x es. elements.word is.Comma ∷ elements.named x ∷ es) (λ l. elements.names_elements (view.names l)) (λ es. refl) (λ x l es. refl)
      c.loop-behind.items.items c.push.new.self.items c.in_ok-item.item (search rules));
  shorter = omega (arith, c.loop-behind.invariant.shorter, c.in-Some.ensures.shorter, c.in_ok-item.ensures.shorter);
}

pub returns-clause-passes : goal.returns-clause-passes
returns-clause-passes c = written (into ([]) (c.loop-behind.invariant.goes) (rw (ne_eqb (front _) kind.Comma c.in_default.ensures.none) refl))
    (λ es. ap (λ l. elements.names_elements (view.names l) es) (sym c.from_vec.ensures.exact))
