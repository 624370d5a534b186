use Rattle.std.proofs.Common.{sym, subst}
use Rattle.edi_told.specs.Told.{WhereTold}
use Rattle.edi_walk.specs.Machine.{frame_of}
use Rattle.edi_walk.specs.Runs.{Handles}
use Rattle.edi_walk.proofs.Calls.{told_resumed}
use Rattle.edi_walk.proofs.FrameRuns.{resume_blames}
use Rattle.edi_walk.specs.Machine.{given_of}
use Rattle.edi_walk.proofs.evaluation.Evaluation.advance.Goals as goal

pub returns-in-Some-clause-exact : goal.returns-in-Some-clause-exact
returns-in-Some-clause-exact g c =
    let old = g.C.Calls.state c.args.calls.now in
    let now = g.C.Calls.state c.ask.new.calls in
    subst (λ f. WhereTold old now (λ s t. Handles f c.ask.result c.args.self.now c.ask.new.self s t)) (sym c.in-Some.ensures.some) c.ask.ensures.exact

pub returns-in-None-clause-exact : goal.returns-in-None-clause-exact
returns-in-None-clause-exact g c =
    told_resumed (frame_of c.args.frame) c.resume.result c.args.self.now c.resume.new.self (g.C.Calls.state c.args.calls.now) c.resume.ensures.same
    c.resume.ensures.exact

pub returns-in-None-clause-blame : goal.returns-in-None-clause-blame
returns-in-None-clause-blame g c =
    resume_blames (frame_of c.args.frame) (given_of c.args.self.now.given) c.resume.result c.args.self.now c.resume.new.self c.resume.ensures.exact
    (g.C.Calls.failed c.args.calls.now) (g.C.Calls.faults c.args.calls.now) (g.C.Calls.faults c.args.calls.now) c.requires.working
