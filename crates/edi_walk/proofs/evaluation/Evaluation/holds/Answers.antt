use Rattle.std.proofs.Common.{◌∙◌, ap, subst, rules, w16, Err}
use Rattle.std.proofs.lemmas.Int.{to_z-of_z}
use Rattle.edi_unit.specs.Values.{is_true, ordinal}
use Rattle.edi_unit.specs.View.{expression_of}
use Rattle.edi_walk.specs.Reads.{ReadsValue}
use Rattle.edi_walk.proofs.AtOnce.{told_fails, told_read}
use Rattle.edi_walk.proofs.evaluation.Evaluation.holds.Goals as goal

pub returns-in-Ok-clause-exact : goal.returns-in-Ok-clause-exact
returns-in-Ok-clause-exact g c =
    told_read c.args.self.now (expression_of c.args.e.now) c.in-Ok.n c.is_one.result (g.C.Calls.state c.args.calls.now) c.in-Ok.ensures.exact
    (c.is_one.ensures.exact ∙ ap (λ n. is_true (ordinal n)) (to_z-of_z w16 c.in-Ok.n (search rules)))

pub returns-in-Range-clause-exact : goal.returns-in-Range-clause-exact
returns-in-Range-clause-exact g c =
    told_fails c.args.self.now (expression_of c.args.e.now) c.in-Range.line (g.C.Calls.state c.args.calls.now)
    (subst (λ h. ReadsValue (expression_of c.args.e.now) (Err h) c.args.self.now) c.in-Range.is c.in-Err.ensures.exact)
