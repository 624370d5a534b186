use Rattle.std.proofs.Common.{false}
use Rattle.edi_system.proofs.Told.{told_map}
use Rattle.edi_system.proofs.Characters.{prints}
use Rattle.edi_system.proofs.system.System.print.Goals as goal

pub returns-else-print_out-clause-exact : goal.returns-else-print_out-clause-exact
returns-else-print_out-clause-exact g c =
    told_map _ _ _ _ (λ b a more. prints c.args.word c.character.result false b a c.character.ensures more) c.if-print_out.ensures.exact
