use Rattle.std.proofs.Common.{[], ◌∷◌, refl}
use Rattle.std.specs.Prelude.{map}
use Rattle.edi_told.proofs.Told.{WhereTold-map}
use Rattle.edi_unit.specs.View.{clauses, clause_of}
use Rattle.edi_walk.specs.Processes.{loops_back}
use Rattle.edi_meaning.specs.Step.{loop_end}
use Rattle.edi_walk.proofs.Working.{calm_blames, choice_stops, chosen_calm, chosen_so}
use Rattle.edi_walk.proofs.evaluation.Evaluation.looped.Goals as goal

pub returns-in-Ok-clause-exact : goal.returns-in-Ok-clause-exact
returns-in-Ok-clause-exact g c =
    WhereTold-map _ _ (g.C.Calls.state c.args.calls.now) (g.C.Calls.state c.chosen.new.calls)
    (λ s t h. chosen_so (clauses (map clause_of c.args.clauses.now)) (λ position. loop_end (clauses (map clause_of c.args.clauses.now)) position ∷ []) (loops_back (clauses (map clause_of c.args.clauses.now)) ∷ []) (λ position. refl) c.args.self.now c.chosen.new.self s t c.args.work.now.items c.in-Ok.body c.put_turn.result
    c.put_turn.new.work.items h c.put_turn.ensures.exact) c.in-Ok.ensures.exact

pub returns-in-Ok-clause-blame : goal.returns-in-Ok-clause-blame
returns-in-Ok-clause-blame g c =
    calm_blames c.put_turn.result (chosen_calm (loops_back (clauses (map clause_of c.args.clauses.now)) ∷ []) c.in-Ok.body c.put_turn.result c.args.work.now.items c.put_turn.new.work.items c.put_turn.ensures.exact) (g.C.Calls.failed c.chosen.new.calls) (g.C.Calls.faults c.args.calls.now) (g.C.Calls.faults c.chosen.new.calls) c.in-Ok.ensures.blame

pub returns-in-Err-clause-exact : goal.returns-in-Err-clause-exact
returns-in-Err-clause-exact g c =
    WhereTold-map _ _ (g.C.Calls.state c.args.calls.now) (g.C.Calls.state c.chosen.new.calls)
    (λ s t h. choice_stops (clauses (map clause_of c.args.clauses.now)) (λ position. loop_end (clauses (map clause_of c.args.clauses.now)) position ∷ []) (loops_back (clauses (map clause_of c.args.clauses.now)) ∷ []) (λ position. refl) c.args.self.now c.chosen.new.self s t c.args.work.now.items c.in-Err.stop c.args.work.now.items h)
    c.in-Err.ensures.exact
