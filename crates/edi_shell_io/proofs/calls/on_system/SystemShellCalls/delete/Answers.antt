use Rattle.std.proofs.Common.{refl}
use Rattle.edi_calls.specs.State.{State, find_file, fresh}
use Rattle.edi_catalog.specs.SlotsChanged.{deleted, slots_changed}
use Rattle.edi_catalog.specs.Refusing.{no_deletion}
use Rattle.edi_shell_io.proofs.calls.Told.{answers}
use Rattle.edi_shell_io.proofs.calls.on_system.SystemShellCalls.delete.Goals as goal

pub returns-clause-exact : goal.returns-clause-exact
returns-clause-exact g c = λ s at tells.
    answers g.D.Drive.contents g.S.Source.left g.T.Sink.taken g.P.Sink.taken c.args.self.now c.delete.new.self s at tells c.delete.ensures.due
    (λ (x : State). no_deletion (find_file x.slots c.args.title.now)) (λ (x : State). slots_changed deleted c.args.title.now x.slots) fresh (λ x. refl)
    (λ x. refl) (λ x slots. refl)
    c.delete.result c.delete.ensures.failed c.delete.ensures.exact
