use Rattle.std.proofs.Common.{rules, ◌∙◌, [], map, ap, refl, sym, arith}
use Rattle.edi_tree.specs.Levels as elements
use Rattle.edi_tree.specs.View as view
use Rattle.edi_grammar.specs.Kind.{front}
use Rattle.edi_grammar.specs.Rules as g
use Rattle.edi_phrases.proofs.Moves.{at_exit, into, written}
use Rattle.edi_phrases.proofs.Pushes.{repeated, repeated_halts}
use Rattle.edi_syntax.proofs.declarations.Choices.{globals_more, globals_end}
use Rattle.edi_syntax.proofs.declarations.globals.parse_globals.Goals as goal

pub returns-in_err-global-clause-halts : goal.returns-in_err-global-clause-halts
returns-in_err-global-clause-halts c = at_exit _ c.from_residual.ensures.1 (repeated_halts g.Globals g.Global
    (globals_more (front c.loop-alloc.rest.now) (sym c.at_global.ensures.exact ∙ c.loop-alloc-test.true)) c.loop-alloc.invariant.goes
    c.in_err-global.ensures.halts)

pub loop-alloc-preserved : goal.loop-alloc-preserved
loop-alloc-preserved c = record {
  goes = repeated g.Globals g.Global (λ x. elements.global_elements (view.global_of x)) (λ l. elements.globals_elements (view.globals (map view.global_of l)))
      (λ es. refl) (λ x l es. refl) c.loop-alloc.globals.items c.push.new.self.items c.in_ok-global.global (search rules)
      (globals_more (front c.loop-alloc.rest.now) (sym c.at_global.ensures.exact ∙ c.loop-alloc-test.true)) c.loop-alloc.invariant.goes
      c.in_ok-global.ensures.passes;
  shorter = omega (arith, c.loop-alloc.invariant.shorter, c.in_ok-global.ensures.shorter);
}

pub returns-clause-passes : goal.returns-clause-passes
returns-clause-passes c = written (into [] c.loop-alloc.invariant.goes
    (globals_end (front c.loop-alloc.rest.now) (sym c.at_global.ensures.exact ∙ c.loop-alloc-test.false)))
    (λ es. ap (λ l. elements.globals_elements (view.globals (map view.global_of l)) es) (sym c.from_vec.ensures.exact))
