use Rattle.std.proofs.Common.{List, ℕ, ap, sym, ◌∙◌, ◌++◌}
use Rattle.std.specs.Prelude.{take}
use Rattle.edi_timeline.specs.Adding.{said_in}
use Rattle.edi_timed.specs.Hearing.{shown_by}
use Rattle.edi_timed.proofs.Hearing.{kept_few, answered_shows, refused_shows}
use Rattle.edi_timed.proofs.heard.said_after.Goals as goal

pub returns-then-is_answered-clause-exact : goal.returns-then-is_answered-clause-exact
returns-then-is_answered-clause-exact c = λ few.
    c.said_with.ensures.exact few
    ∙ ap (λ (l : List ℕ). take 7 (said_in c.args.said ++ l))
    (answered_shows c.args.number c.args.end c.args.args.now (sym c.is_answered.ensures.exact ∙ c.if-is_answered.true))

pub returns-clause-exact : goal.returns-clause-exact
returns-clause-exact c = λ few.
    kept_few c.args.said.characters (shown_by c.args.number c.args.end c.args.args.now) c.args.said.many few
    (refused_shows c.args.number c.args.end c.args.args.now (sym c.is_answered.ensures.exact ∙ c.if-is_answered.false))
