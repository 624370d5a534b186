use Rattle.std.proofs.Common.{Err, sym, subst}
use Rattle.edi_told.proofs.Told.{WhereTold-map}
use Rattle.edi_walk.proofs.Calls.{WhereTold-same, same_on}
use Rattle.edi_walk.specs.declared.stop.Stop.TheVariants as stop
use Rattle.edi_walk.specs.Machine.{frame_of}
use Rattle.edi_walk.specs.Works.{WhollyBoth}
use Rattle.edi_walk.proofs.Working.{both_so, both_up}
use Rattle.edi_walk.proofs.Pieces.{err_is}
use Rattle.edi_walk.proofs.evaluation.Evaluation.both.Goals as goal

pub returns-in-Ok-clause-exact : goal.returns-in-Ok-clause-exact
returns-in-Ok-clause-exact g c =
    WhereTold-map _ _ (g.C.Calls.state c.args.calls.now) (g.C.Calls.state c.run.new.calls)
    (λ s t h. both_so c.args.self.now c.put_two.new.self c.run.new.self s t (frame_of c.args.lower) (frame_of c.args.upper) c.run.result c.requires.free c.in-Ok.ensures.others
    c.in-Ok.ensures.exact h) c.run.ensures.exact

pub returns-in-Err-clause-exact : goal.returns-in-Err-clause-exact
returns-in-Err-clause-exact g c =
    WhereTold-same _ (g.C.Calls.state c.args.calls.now)
    (λ s. subst (λ x. WhollyBoth (frame_of c.args.lower) (frame_of c.args.upper) (Err x) c.args.self.now c.put_two.new.self s s)
    (sym (err_is c.in-Err.stop stop.NoMemory c.in-Err.ensures.err)) (both_up c.args.self.now c.put_two.new.self s (frame_of c.args.lower) (frame_of c.args.upper) c.in-Err.ensures.same))

pub returns-in-Ok-clause-same : goal.returns-in-Ok-clause-same
returns-in-Ok-clause-same g c = same_on c.args.self.now c.put_two.new.self c.run.new.self c.in-Ok.ensures.same c.run.ensures.same
