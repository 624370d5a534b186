use Rattle.std.proofs.Common.{ap, refl, ◌∙◌}
use Rattle.edi_calls.specs.Calls.{word_of}
use Rattle.edi_system.proofs.FoundFile.{more_is}
use Rattle.edi_system.proofs.Told.{told_map}
use Rattle.edi_system.proofs.system.System.more.Goals as goal

pub returns-in-Ok-clause-exact : goal.returns-in-Ok-clause-exact
returns-in-Ok-clause-exact g c =
    told_map _ _ _ _ (λ before after looks. more_is c.in-Ok.byte c.word_of.result before.found before after (c.word_of.ensures ∙ ap word_of c.is_some.ensures) refl looks) c.in-Ok.ensures.exact
