use Rattle.std.proofs.Common.{[], ◌++◌, sym, subst}
use Rattle.std.specs.Prelude.{map}
use Rattle.edi_told.proofs.Told.{WhereTold-map}
use Rattle.edi_walk.proofs.Calls.{WhereTold-same}
use Rattle.edi_unit.specs.View.{acts, act_of, clauses, clause_of}
use Rattle.edi_unit.specs.Tree as tree
use Rattle.edi_walk.specs.Processes.{acts_bare, piece_of, work_of}
use Rattle.edi_walk.specs.Works.{Works}
use Rattle.edi_walk.proofs.Working.{calm_blames}
use Rattle.edi_walk.proofs.Pieces.{act_first, branch_over}
use Rattle.edi_walk.proofs.evaluation.Evaluation.piece.Goals as goal

pub returns-in-Doing-clause-exact : goal.returns-in-Doing-clause-exact
returns-in-Doing-clause-exact g c =
    WhereTold-map _ _ (g.C.Calls.state c.args.calls.now) (g.C.Calls.state c.first_act.new.calls)
    (λ s t h. subst (λ x. Works (piece_of x ++ work_of c.args.work.now.items []) c.first_act.new.work.items c.first_act.result c.args.self.now c.first_act.new.self s t) (sym c.in-Doing.is)
    (act_first c.args.self.now c.first_act.new.self s t (act_of c.in-Doing.first.now) (acts_bare (acts (map act_of c.in-Doing.rest.now)) ++ work_of c.args.work.now.items []) c.first_act.new.work.items c.first_act.result h)) c.first_act.ensures.exact

pub returns-in-Again-clause-exact : goal.returns-in-Again-clause-exact
returns-in-Again-clause-exact g c =
    WhereTold-map _ _ (g.C.Calls.state c.args.calls.now) (g.C.Calls.state c.looped.new.calls)
    (λ s t h. subst (λ x. Works (piece_of x ++ work_of c.args.work.now.items []) c.looped.new.work.items c.looped.result c.args.self.now c.looped.new.self s t) (sym c.in-Again.is)
    (act_first c.args.self.now c.looped.new.self s t (tree.while_act (clauses (map clause_of c.in-Again.clauses.now))) (work_of c.args.work.now.items []) c.looped.new.work.items c.looped.result h)) c.looped.ensures.exact

pub returns-in-LoopEnd-clause-exact : goal.returns-in-LoopEnd-clause-exact
returns-in-LoopEnd-clause-exact g c =
    WhereTold-same _ (g.C.Calls.state c.args.calls.now)
    (λ s. subst (λ x. Works (piece_of x ++ work_of c.args.work.now.items []) c.loop_end.new.work.items c.loop_end.result c.args.self.now c.loop_end.new.self s s) (sym c.in-LoopEnd.is)
    (c.loop_end.ensures.exact s))

pub returns-in-LoopEnd-clause-blame : goal.returns-in-LoopEnd-clause-blame
returns-in-LoopEnd-clause-blame g c =
    calm_blames c.loop_end.result c.loop_end.ensures.calm (g.C.Calls.failed c.args.calls.now) (g.C.Calls.faults c.args.calls.now) (g.C.Calls.faults c.args.calls.now) c.requires.working

pub returns-in-ProcedureEnd-clause-exact : goal.returns-in-ProcedureEnd-clause-exact
returns-in-ProcedureEnd-clause-exact g c =
    WhereTold-same _ (g.C.Calls.state c.args.calls.now)
    (λ s. subst (λ x. Works (piece_of x ++ work_of c.args.work.now.items []) c.args.work.now.items c.procedure_end.result c.args.self.now c.procedure_end.new.self s s) (sym c.in-ProcedureEnd.is)
    (c.procedure_end.ensures.exact c.args.work.now.items s))

pub returns-in-ProcedureEnd-clause-blame : goal.returns-in-ProcedureEnd-clause-blame
returns-in-ProcedureEnd-clause-blame g c =
    calm_blames c.procedure_end.result c.procedure_end.ensures.calm (g.C.Calls.failed c.args.calls.now) (g.C.Calls.faults c.args.calls.now) (g.C.Calls.faults c.args.calls.now) c.requires.working

pub returns-in-BranchEnd-clause-exact : goal.returns-in-BranchEnd-clause-exact
returns-in-BranchEnd-clause-exact g c =
    WhereTold-same _ (g.C.Calls.state c.args.calls.now)
    (λ s. subst (λ x. Works (piece_of x ++ work_of c.args.work.now.items []) c.args.work.now.items c.after_turn.result c.args.self.now c.after_turn.new.self s s) (sym c.in-BranchEnd.is)
    (branch_over c.args.self.now c.after_turn.new.self s c.after_turn.result c.args.work.now.items c.after_turn.ensures.exact))

pub returns-in-BranchEnd-clause-blame : goal.returns-in-BranchEnd-clause-blame
returns-in-BranchEnd-clause-blame g c =
    calm_blames c.after_turn.result c.after_turn.ensures.calm (g.C.Calls.failed c.args.calls.now) (g.C.Calls.faults c.args.calls.now) (g.C.Calls.faults c.args.calls.now) c.requires.working

pub returns-in-ProgramEntry-clause-exact : goal.returns-in-ProgramEntry-clause-exact
returns-in-ProgramEntry-clause-exact g c =
    WhereTold-same _ (g.C.Calls.state c.args.calls.now)
    (λ s. subst (λ x. Works (piece_of x ++ work_of c.args.work.now.items []) c.program.new.work.items c.program.result c.args.self.now c.program.new.self s s) (sym c.in-ProgramEntry.is)
    (c.program.ensures.exact s))

pub returns-in-ProgramEntry-clause-blame : goal.returns-in-ProgramEntry-clause-blame
returns-in-ProgramEntry-clause-blame g c =
    calm_blames c.program.result c.program.ensures.calm (g.C.Calls.failed c.args.calls.now) (g.C.Calls.faults c.args.calls.now) (g.C.Calls.faults c.args.calls.now) c.requires.working

pub returns-in-ProgramEnd-clause-exact : goal.returns-in-ProgramEnd-clause-exact
returns-in-ProgramEnd-clause-exact g c =
    WhereTold-same _ (g.C.Calls.state c.args.calls.now)
    (λ s. subst (λ x. Works (piece_of x ++ work_of c.args.work.now.items []) c.args.work.now.items c.program_end.result c.args.self.now c.program_end.new.self s s) (sym c.in-ProgramEnd.is)
    (c.program_end.ensures.exact (work_of c.args.work.now.items []) c.args.work.now.items s))

pub returns-in-ProgramEnd-clause-blame : goal.returns-in-ProgramEnd-clause-blame
returns-in-ProgramEnd-clause-blame g c =
    calm_blames c.program_end.result c.program_end.ensures.calm (g.C.Calls.failed c.args.calls.now) (g.C.Calls.faults c.args.calls.now) (g.C.Calls.faults c.args.calls.now) c.requires.working
