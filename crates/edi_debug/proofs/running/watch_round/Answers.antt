-- A round of a watched run.
use Rattle.std.proofs.Common.{◌-◌, sym, ap, ◌∙◌, arith}
use Rattle.edi_debug.specs.Points.{watched_in}
use Rattle.edi_debug.proofs.Watched.{asks_on, asks_over, told_over, told_on, not_over}
use Rattle.edi_debug.proofs.running.watch_round.Goals as goal

pub returns-in-Some-clause-exact : goal.returns-in-Some-clause-exact
returns-in-Some-clause-exact g c =
    λ drawn.
    told_over c.args.stops.now.mapped.now (watched_in c.args.stops.now.points.now) c.args.bound c.code.result.now c.code.ensures.exact c.stint-end.result c.args.kernel.now
    c.stint-end.new.self c.args.choices.now c.args.log.now c.log_stop.new.log (c.args.bound - c.turns_used.result) _ _ _ _ _
    (ap (λ n. c.args.bound - n) c.turns_used.ensures)
    (omega (arith, c.stint-end.ensures.turns, c.stint-end.ensures.used, c.requires.used, c.turns_used.ensures, c.ranges.bound.fits))
    (omega (arith, c.stint-end.ensures.turns, c.stint-end.ensures.used, c.requires.used, c.turns_used.ensures, c.ranges.bound.fits))
    (λ unit m fits.
    c.log_stop.ensures.exact unit c.args.bound m fits
    (omega (arith, c.stint-end.ensures.turns, c.stint-end.ensures.used, c.requires.used, c.turns_used.ensures, c.ranges.bound.fits)))
    c.stint-end.ensures.standing c.in-Some.ending (sym c.in-Some.ensures.exact) c.stint-end.ensures.exact

pub returns-clause-exact : goal.returns-clause-exact
returns-clause-exact g c =
    λ drawn.
    told_on c.args.stops.now.mapped.now (watched_in c.args.stops.now.points.now) c.args.bound c.code.result.now c.code.ensures.exact c.stint-end.result c.args.kernel.now
    c.stint-end.new.self c.args.choices.now c.args.log.now c.log_stop-2.new.log (c.args.bound - c.turns_used.result) _ _ _ _ _
    (ap (λ n. c.args.bound - n) c.turns_used.ensures)
    (omega (arith, c.stint-end.ensures.turns, c.stint-end.ensures.used, c.requires.used, c.turns_used.ensures, c.ranges.bound.fits))
    (omega (arith, c.stint-end.ensures.turns, c.stint-end.ensures.used, c.requires.used, c.turns_used.ensures, c.ranges.bound.fits))
    (λ unit m fits.
    c.log_stop-2.ensures.exact unit c.args.bound m fits
    (omega (arith, c.stint-end.ensures.turns, c.stint-end.ensures.used, c.requires.used, c.turns_used.ensures, c.ranges.bound.fits)))
    c.stint-end.ensures.standing c.proceed.result c.proceed.new.kernel c.proceed.new.choices (sym c.ended_by.ensures.exact ∙ c.in_default.is)
    c.proceed.ensures.turns
    (c.proceed.ensures.entering ∙ c.stint-end.ensures.entering (not_over c.stint-end.result (sym c.ended_by.ensures.exact ∙ c.in_default.is)))
    (λ m ns holds.
    c.proceed.ensures.exact
    (omega (
      arith,
      drawn,
      c.stint-end.ensures.spent (not_over c.stint-end.result (sym c.ended_by.ensures.exact ∙ c.in_default.is)),
      c.stint-end.ensures.used,
      c.turns_used.ensures,
      c.requires.used,
    )) m ns holds)
    c.stint-end.ensures.exact

pub returns-in-Some-clause-asked : goal.returns-in-Some-clause-asked
returns-in-Some-clause-asked g c =
    asks_over c.args.stops.now.mapped.now (watched_in c.args.stops.now.points.now) c.args.bound c.code.result.now c.code.ensures.exact c.stint-end.result c.args.kernel.now
    c.stint-end.new.self c.args.choices.now c.args.log.now c.log_stop.new.log (c.args.bound - c.turns_used.result) _ _ _ _ _
    (ap (λ n. c.args.bound - n) c.turns_used.ensures)
    (omega (arith, c.stint-end.ensures.turns, c.stint-end.ensures.used, c.requires.used, c.turns_used.ensures, c.ranges.bound.fits))
    (omega (arith, c.stint-end.ensures.turns, c.stint-end.ensures.used, c.requires.used, c.turns_used.ensures, c.ranges.bound.fits))
    (λ unit m fits.
    c.log_stop.ensures.exact unit c.args.bound m fits
    (omega (arith, c.stint-end.ensures.turns, c.stint-end.ensures.used, c.requires.used, c.turns_used.ensures, c.ranges.bound.fits)))
    c.stint-end.ensures.standing (g.C.Calls.failed c.stint-end.new.calls) c.in-Some.ending (sym c.in-Some.ensures.exact) c.stint-end.ensures.asked

pub returns-clause-asked : goal.returns-clause-asked
returns-clause-asked g c =
    asks_on c.args.stops.now.mapped.now (watched_in c.args.stops.now.points.now) c.args.bound c.code.result.now c.code.ensures.exact c.stint-end.result c.args.kernel.now
    c.stint-end.new.self c.args.choices.now c.args.log.now c.log_stop-2.new.log (c.args.bound - c.turns_used.result) _ _ _ _ _
    (ap (λ n. c.args.bound - n) c.turns_used.ensures)
    (omega (arith, c.stint-end.ensures.turns, c.stint-end.ensures.used, c.requires.used, c.turns_used.ensures, c.ranges.bound.fits))
    (omega (arith, c.stint-end.ensures.turns, c.stint-end.ensures.used, c.requires.used, c.turns_used.ensures, c.ranges.bound.fits))
    (λ unit m fits.
    c.log_stop-2.ensures.exact unit c.args.bound m fits
    (omega (arith, c.stint-end.ensures.turns, c.stint-end.ensures.used, c.requires.used, c.turns_used.ensures, c.ranges.bound.fits)))
    c.stint-end.ensures.standing (g.C.Calls.failed c.stint-end.new.calls) c.proceed.result c.proceed.new.kernel c.proceed.new.choices c.proceed.ensures.fault
    c.stint-end.ensures.asked

pub returns-clause-spent : goal.returns-clause-spent
returns-clause-spent g c =
    λ none.
    omega (
      arith,
      c.stint-end.ensures.spent (not_over c.stint-end.result (sym c.ended_by.ensures.exact ∙ c.in_default.is)),
      c.stint-end.ensures.turns,
      c.stint-end.ensures.used,
      c.requires.used,
      c.turns_used.ensures,
      c.ranges.bound.fits,
      c.proceed.ensures.turns,
    )

pub returns-in-Some-clause-drawn : goal.returns-in-Some-clause-drawn
returns-in-Some-clause-drawn g c =
    omega (arith, c.stint-end.ensures.turns, c.stint-end.ensures.used, c.requires.used, c.turns_used.ensures, c.ranges.bound.fits)

pub returns-clause-drawn : goal.returns-clause-drawn
returns-clause-drawn g c =
    omega (
      arith,
      c.stint-end.ensures.spent (not_over c.stint-end.result (sym c.ended_by.ensures.exact ∙ c.in_default.is)),
      c.stint-end.ensures.turns,
      c.stint-end.ensures.used,
      c.requires.used,
      c.turns_used.ensures,
      c.ranges.bound.fits,
      c.proceed.ensures.turns,
      c.proceed.ensures.drawn,
    )
