use Rattle.std.proofs.Common.{◌≡◌, ℕ, ◌+◌, ap, arith, option_map}
use Rattle.edi_timeline.specs.Told.{meant}
use Rattle.edi_timeline.specs.Timelines.{Told, told_in}
use Rattle.edi_timeline.proofs.adding.count_more.Goals as goal

pub returns-clause-exact : goal.returns-clause-exact
returns-clause-exact c =
    let sum : c.args.kept.now.count + c.args.many ≡ c.args.many + c.args.kept.now.count = omega arith in
    let with_count : ℕ → Told = λ n. record (told_in c.args.kept.now) { count = n; ending = option_map meant c.args.ended } in
    ap with_count sum

pub returns-clause-kept : goal.returns-clause-kept
returns-clause-kept c = record {
  rows = c.requires.kept.rows;
  few = c.requires.kept.few;
  room = c.requires.kept.room;
  counted = λ l. absurd (omega (arith, l, c.requires.full));
  stood = c.requires.kept.stood;
}
