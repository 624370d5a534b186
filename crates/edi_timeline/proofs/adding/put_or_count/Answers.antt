use Rattle.std.proofs.Common.{◌≡◌, ◌∙◌, sym, arith, option_map}
use Rattle.std.proofs.lemmas.Bool.{leb-true, leb-false}
use Rattle.edi_timeline.specs.Timelines.{told_in}
use Rattle.edi_timeline.specs.Told.{meant}
use Rattle.edi_timeline.proofs.Growing.{added_full, one_more}
use Rattle.edi_timeline.proofs.adding.put_or_count.Goals as goal

pub count_more-requires-clause-full : goal.count_more-requires-clause-full
count_more-requires-clause-full c = leb-true 100000 c.args.kept.now.count (sym c.is_full.ensures.exact ∙ c.if-is_full.true)

pub returns-then-is_full-clause-exact : goal.returns-then-is_full-clause-exact
returns-then-is_full-clause-exact c =
    c.count_more.ensures.exact
    ∙ one_more (told_in c.args.kept.now) (option_map meant c.ended_with.result)
    ∙ added_full (told_in c.args.kept.now) c.args.seat c.args.came c.args.used c.args.said c.ended_with.result c.ended_with.ensures.exact
    (sym c.is_full.ensures.exact ∙ c.if-is_full.true)
