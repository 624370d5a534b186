use Rattle.std.proofs.Common.{refl}
use Rattle.edi_calls.specs.State.{State, find_file, fresh}
use Rattle.edi_catalog.specs.SlotsChanged.{file_renamed, slots_changed}
use Rattle.edi_catalog.specs.Refusing.{no_renaming}
use Rattle.edi_shell_io.proofs.calls.Told.{answers}
use Rattle.edi_shell_io.proofs.calls.on_system.SystemShellCalls.rename.Goals as goal

pub returns-clause-exact : goal.returns-clause-exact
returns-clause-exact g c = λ s at tells.
    answers g.D.Drive.contents g.S.Source.left g.T.Sink.taken g.P.Sink.taken c.args.self.now c.rename.new.self s at tells c.rename.ensures.due
    (λ (x : State). no_renaming (find_file x.slots c.args.old.now) (find_file x.slots c.args.new.now))
    (λ (x : State). slots_changed (file_renamed c.args.new.now) c.args.old.now x.slots) fresh (λ x. refl) (λ x. refl) (λ x slots. refl)
    c.rename.result c.rename.ensures.failed c.rename.ensures.exact
