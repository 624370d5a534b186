use Rattle.std.proofs.Common.{[], ◌∷◌, ap, if◌then◌else◌, slice_index}
use Rattle.std.proofs.lemmas.Bool.{ne_eqb}
use Rattle.edi_calls.specs.State.{character}
use Rattle.edi_timed.specs.Hearing.{shown_words}
use Rattle.edi_timed.proofs.Hearing.{kept_few}
use Rattle.edi_timed.proofs.heard.said_with.Goals as goal

pub returns-then-number-ne-DISPLAY-clause-exact : goal.returns-then-number-ne-DISPLAY-clause-exact
returns-then-number-ne-DISPLAY-clause-exact c = λ few.
    kept_few c.args.said.characters (shown_words c.args.number c.args.args.now) c.args.said.many few
    (ap (λ b. if b then character (slice_index c.args.args.now 0) ∷ [] else []) (ne_eqb c.args.number 2 c.if-number-ne-DISPLAY.true))
