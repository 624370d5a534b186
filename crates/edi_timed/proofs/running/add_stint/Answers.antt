-- A stint that is added.
use Rattle.std.proofs.Common.{◌≡◌, suc, arith, ap, ◌∙◌}
use Rattle.std.proofs.lemmas.Bool.{lt-leb}
use Rattle.edi_timeline.specs.Timelines.{Told}
use Rattle.edi_timed.specs.Seats.{Fitting}
use Rattle.edi_timed.proofs.Adding.{adds_so, more_fits, one_counted, seat_ok}
use Rattle.edi_timed.proofs.running.add_stint.Goals as goal

pub overflow_cast-turns_used : goal.overflow_cast-turns_used
overflow_cast-turns_used c = omega (arith, c.turns_used.ensures, c.requires.turns)

pub add-requires-clause-going : goal.add-requires-clause-going
add-requires-clause-going c =
    (c.requires.fits (omega (arith, c.requires.room))).going

pub add-requires-clause-seat : goal.add-requires-clause-seat
add-requires-clause-seat c =
    seat_ok c.args.code.now.words c.args.kernel.now c.args.begun c.args.end c.args.said c.args.seats.now.items c.args.seats.now.items c.args.timeline.now
    c.args.timeline.now c.at-seated.result c.came_of-came.result 0 0
    (c.requires.fits (omega (arith, c.requires.room)))
    (lt-leb 100000 c.args.timeline.now.count c.requires.room) c.at-seated.ensures c.came_of-came.ensures.exact c.came_of-came.ensures.failed

pub overflow_cast-count : goal.overflow_cast-count
overflow_cast-count c =
    let one : c.add.new.self.count ≡ suc c.args.timeline.now.count =
    ap (λ (t : Told). t.count) c.add.ensures.exact ∙ one_counted c.args.timeline.now c.at-seated.result.seat c.came_of-came.result _ c.args.said in
    omega (arith, one, c.count.ensures, c.requires.room)

pub move_on-requires-clause-small : goal.move_on-requires-clause-small
move_on-requires-clause-small c =
    let few = c.requires.room in
    let h : Fitting c.args.seats.now.items c.args.timeline.now = c.requires.fits (omega (arith, few)) in
    omega (arith, few, h.whole, (h.each c.args.begun.slot).forks)

pub returns-clause-exact : goal.returns-clause-exact
returns-clause-exact c =
    adds_so c.args.code.now.words c.args.kernel.now c.args.begun c.args.end c.args.said c.args.seats.now.items c.move_on.new.self.items c.args.timeline.now
    c.add.new.self c.at-seated.result c.came_of-came.result _ _
    (c.requires.fits (omega (arith, c.requires.room)))
    (lt-leb 100000 c.args.timeline.now.count c.requires.room) c.at-seated.ensures c.came_of-came.ensures.exact c.came_of-came.ensures.failed c.turns_used.ensures
    c.add.ensures.exact c.count.ensures c.move_on.ensures.exact

pub returns-clause-fits : goal.returns-clause-fits
returns-clause-fits c =
    more_fits c.args.code.now.words c.args.kernel.now c.args.begun c.args.end c.args.said c.args.seats.now.items c.move_on.new.self.items c.args.timeline.now
    c.add.new.self c.at-seated.result c.came_of-came.result _ _
    (c.requires.fits (omega (arith, c.requires.room)))
    (lt-leb 100000 c.args.timeline.now.count c.requires.room) c.at-seated.ensures c.came_of-came.ensures.exact c.came_of-came.ensures.failed c.turns_used.ensures
    c.add.ensures.exact c.count.ensures c.move_on.ensures.exact

pub returns-clause-count : goal.returns-clause-count
returns-clause-count c =
    let one : c.add.new.self.count ≡ suc c.args.timeline.now.count =
    ap (λ (t : Told). t.count) c.add.ensures.exact ∙ one_counted c.args.timeline.now c.at-seated.result.seat c.came_of-came.result _ c.args.said in
    omega (arith, one)
