use Rattle.std.proofs.Common.{◌≡◌, [], ◌∷◌, ◌++◌, Err, sym, subst, ap, ◌∙◌, rules}
use Rattle.edi_told.specs.Told.{WhereTold}
use Rattle.edi_walk.proofs.Calls.{WhereTold-same}
use Rattle.edi_walk.specs.declared.stop.Stop.TheVariants as stop
use Rattle.edi_walk.specs.Processes.{work_of}
use Rattle.edi_walk.specs.Works.{Works}
use Rattle.edi_walk.proofs.Pieces.{no_work, work_added}
use Rattle.edi_walk.proofs.evaluation.Evaluation.work.Goals as goal

pub returns-in-Some-clause-exact : goal.returns-in-Some-clause-exact
returns-in-Some-clause-exact g c =
    let e : c.args.work.now.items ≡ c.pop.new.self.items ++ c.in-Some.piece ∷ [] = (search rules) in
    subst (λ todo. WhereTold (g.C.Calls.state c.args.calls.now) (g.C.Calls.state c.piece.new.calls) (λ s t. Works todo c.piece.new.work.items c.piece.result c.args.self.now c.piece.new.self s t))
    (sym (ap (λ ws. work_of ws []) e ∙ work_added c.pop.new.self.items c.in-Some.piece [])) c.piece.ensures.exact

pub returns-in-None-clause-exact : goal.returns-in-None-clause-exact
returns-in-None-clause-exact g c =
    let e : c.args.work.now.items ≡ [] = (search rules) in
    WhereTold-same _ (g.C.Calls.state c.args.calls.now)
    (λ s. subst (λ ws. Works (work_of ws []) c.pop.new.self.items (Err stop.Turns) c.args.self.now c.args.self.now s s) (sym e) (no_work c.args.self.now s c.pop.new.self.items))
