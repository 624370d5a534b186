use Rattle.std.proofs.Common.{refl, length}
use Rattle.edi_calls.specs.State.{State, free, fresh}
use Rattle.edi_catalog.specs.Refusing.{no_room}
use Rattle.edi_catalog.specs.SlotsStored.{slots_stored}
use Rattle.edi_shell_io.proofs.calls.Told.{answers}
use Rattle.edi_shell_io.proofs.calls.on_system.SystemShellCalls.store.Goals as goal

pub returns-clause-exact : goal.returns-clause-exact
returns-clause-exact g c = λ s at tells.
    answers g.D.Drive.contents g.S.Source.left g.T.Sink.taken g.P.Sink.taken c.args.self.now c.store.new.self s at tells c.store.ensures.due
    (λ (x : State). no_room c.args.title.now (length c.args.bytes.now) (free x) x.slots)
    (λ (x : State). slots_stored c.args.title.now c.args.kind c.args.bytes.now x.slots) fresh (λ x. refl) (λ x. refl) (λ x slots. refl)
    c.store.result c.store.ensures.failed c.store.ensures.exact
