use Rattle.std.proofs.Common.{false}
use Rattle.edi_system.proofs.Told.{told_map}
use Rattle.edi_system.proofs.Characters.{displays}
use Rattle.edi_system.proofs.system.System.display.Goals as goal

pub returns-else-show-clause-exact : goal.returns-else-show-clause-exact
returns-else-show-clause-exact g c =
    told_map _ _ _ _ (λ b a more. displays c.args.word c.character.result false b a c.character.ensures more) c.if-show.ensures.exact
