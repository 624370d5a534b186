use Rattle.std.proofs.Common.{rules, [], ◌∷◌, refl, arith}
use Rattle.std.proofs.lemmas.Result.{err_from_is_err_and}
use Rattle.edi_tree.specs.View.{program_with}
use Rattle.edi_grammar.specs.Grammar.{part}
use Rattle.edi_grammar.specs.Rules as g
use Rattle.edi_phrases.proofs.Moves.{waits, over_part, into, halts}
use Rattle.edi_syntax.proofs.Stopping.{ends_at, ends_behind, reads_all, whole}
use Rattle.edi_syntax.proofs.programs.parse_program.Goals as goal

pub returns-in_err-globals-clause-ends : goal.returns-in_err-globals-clause-ends
returns-in_err-globals-clause-ends c =
    let p = err_from_is_err_and c.from_residual.result c.from_residual.ensures.1 in
    rw (p.1, p.2) (ends_at c.args.marks.now _
    (halts (into (part g.Globals ∷ part g.Procedure ∷ []) (waits g.Program 0 _) refl) (omega arith) c.in_err-globals.ensures.halts))

pub returns-in_err-procedure-clause-ends : goal.returns-in_err-procedure-clause-ends
returns-in_err-procedure-clause-ends c =
    let p = err_from_is_err_and c.from_residual-in_err-procedure.result c.from_residual-in_err-procedure.ensures.1 in
    rw (p.1, p.2) (ends_at c.args.marks.now _
    (halts (over_part (into (part g.Globals ∷ part g.Procedure ∷ []) (waits g.Program 0 _) refl) c.in_ok-globals.ensures.passes (omega arith)) (omega arith)
    c.in_err-procedure.ensures.halts))

pub returns-then-not-is_empty-clause-ends : goal.returns-then-not-is_empty-clause-ends
returns-then-not-is_empty-clause-ends c =
    ends_behind _ c.args.marks.now c.in_ok-procedure.rest.now
    (over_part (over_part (into (part g.Globals ∷ part g.Procedure ∷ []) (waits g.Program 0 _) refl) c.in_ok-globals.ensures.passes (omega arith))
    c.in_ok-procedure.ensures.passes (omega arith)) (search rules)

pub returns-clause-tree : goal.returns-clause-tree
returns-clause-tree c =
    whole _ c.args.marks.now c.in_ok-procedure.rest.now (program_with c.in_ok-globals.globals c.in_ok-procedure.procedure)
    (over_part (over_part (into (part g.Globals ∷ part g.Procedure ∷ []) (waits g.Program 0 _) refl) c.in_ok-globals.ensures.passes (omega arith))
    c.in_ok-procedure.ensures.passes (omega arith)) (search rules) refl

pub returns-clause-complete : goal.returns-clause-complete
returns-clause-complete c =
    reads_all _ c.args.marks.now c.in_ok-procedure.rest.now
    (over_part (over_part (into (part g.Globals ∷ part g.Procedure ∷ []) (waits g.Program 0 _) refl) c.in_ok-globals.ensures.passes (omega arith))
    c.in_ok-procedure.ensures.passes (omega arith)) (search rules)
