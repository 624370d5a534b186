use Rattle.std.proofs.Common.{[], sym, subst, ap, ◌∙◌}
use Rattle.std.specs.Prelude.{map}
use Rattle.edi_told.specs.Told.{WhereTold}
use Rattle.edi_told.proofs.Told.{WhereTold-map}
use Rattle.edi_unit.specs.Tree as tree
use Rattle.edi_unit.specs.View.{act_of, arguments, argument_of, clauses, clause_of}
use Rattle.edi_walk.specs.Processes.{work_of}
use Rattle.edi_walk.specs.Works.{Statement}
use Rattle.edi_walk.proofs.Layers.{assign_seen, call_seen, if_seen, while_seen}
use Rattle.edi_walk.proofs.evaluation.Evaluation.statement.Goals as goal

pub returns-in-Assign-clause-exact : goal.returns-in-Assign-clause-exact
returns-in-Assign-clause-exact g c =
    WhereTold-map _ _ (g.C.Calls.state c.args.calls.now) (g.C.Calls.state c.assigned.new.calls)
    (λ s t h. subst (λ a. Statement a (work_of c.args.work.now.items []) c.args.work.now.items c.assigned.result c.args.self.now c.assigned.new.self s t)
    (sym (ap act_of c.in-Assign.is ∙ assign_seen c.in-Assign.place c.in-Assign.e)) (h c.args.work.now.items)) c.assigned.ensures.exact

pub returns-in-Call-clause-exact : goal.returns-in-Call-clause-exact
returns-in-Call-clause-exact g c =
    subst (λ a. WhereTold (g.C.Calls.state c.args.calls.now) (g.C.Calls.state c.called.new.calls)
    (λ s t. Statement a (work_of c.args.work.now.items []) c.called.new.work.items c.called.result c.args.self.now c.called.new.self s t))
    (sym (ap act_of c.in-Call.is ∙ call_seen c.in-Call.callee c.in-Call.arguments c.in-Call.line ∙ ap (λ l. tree.call c.in-Call.callee (arguments (map argument_of l)) c.in-Call.line) (sym c.items.ensures.exact))) c.called.ensures.exact

pub returns-in-If-clause-exact : goal.returns-in-If-clause-exact
returns-in-If-clause-exact g c =
    subst (λ a. WhereTold (g.C.Calls.state c.args.calls.now) (g.C.Calls.state c.branched.new.calls)
    (λ s t. Statement a (work_of c.args.work.now.items []) c.branched.new.work.items c.branched.result c.args.self.now c.branched.new.self s t))
    (sym (ap act_of c.in-If.is ∙ if_seen c.in-If.clauses ∙ ap (λ l. tree.if_act (clauses (map clause_of l))) (sym c.items-in-If.ensures.exact))) c.branched.ensures.exact

pub returns-in-While-clause-exact : goal.returns-in-While-clause-exact
returns-in-While-clause-exact g c =
    subst (λ a. WhereTold (g.C.Calls.state c.args.calls.now) (g.C.Calls.state c.looped.new.calls)
    (λ s t. Statement a (work_of c.args.work.now.items []) c.looped.new.work.items c.looped.result c.args.self.now c.looped.new.self s t))
    (sym (ap act_of c.in-While.is ∙ while_seen c.in-While.clauses ∙ ap (λ l. tree.while_act (clauses (map clause_of l))) (sym c.items-in-While.ensures.exact))) c.looped.ensures.exact
