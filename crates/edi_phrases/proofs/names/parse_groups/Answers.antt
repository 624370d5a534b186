use Rattle.std.proofs.Common.{rules, [], map, ap, refl, sym, arith}
use Rattle.std.proofs.lemmas.Bool.{ne_eqb}
use Rattle.edi_lex.specs.declared.symbol.Symbol.TheVariants as is
use Rattle.edi_tree.specs.Levels as elements
use Rattle.edi_tree.specs.View as view
use Rattle.edi_grammar.specs.Kinds as kind
use Rattle.edi_grammar.specs.Kind.{front}
use Rattle.edi_grammar.specs.Rules as g
use Rattle.edi_phrases.proofs.Moves.{at_exit, into, written}
use Rattle.edi_phrases.proofs.Pushes.{separated, separated_halts}
use Rattle.edi_phrases.proofs.names.parse_groups.Goals as goal

pub returns-in_err-item-clause-halts : goal.returns-in_err-item-clause-halts
returns-in_err-item-clause-halts c = at_exit _ c.from_residual.ensures.1 (separated_halts g.Groups g.Group is.Semicolon refl refl
    c.loop-behind.invariant.goes c.in-Some.ensures.found c.in_err-item.ensures.halts)

pub loop-behind-preserved : goal.loop-behind-preserved
loop-behind-preserved c = record {
  goes = separated g.Groups g.Group is.Semicolon (λ x. elements.group_elements (view.group_of x)) (λ l. elements.groups_elements (view.groups (map view.group_of l))) (λ es. refl) (λ x l es. refl) refl refl
      c.loop-behind.items.items c.push.new.self.items c.in_ok-item.item (search rules) c.loop-behind.invariant.goes c.in-Some.ensures.found
      c.in_ok-item.ensures.passes;
  shorter = omega (arith, c.loop-behind.invariant.shorter, c.in-Some.ensures.shorter, c.in_ok-item.ensures.shorter);
}

pub returns-clause-passes : goal.returns-clause-passes
returns-clause-passes c = written (into ([]) (c.loop-behind.invariant.goes) (rw (ne_eqb (front _) kind.Semicolon c.in_default.ensures.none) refl))
    (λ es. ap (λ l. elements.groups_elements (view.groups (map view.group_of l)) es) (sym c.from_vec.ensures.exact))
