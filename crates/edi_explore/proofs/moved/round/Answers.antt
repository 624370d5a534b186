-- The stint ends the run, or the next process is taken.
use Rattle.std.proofs.Common.{◌-◌, sym, ap, subst, ◌∙◌, arith}
use Rattle.edi_kernel.specs.Runs.{IsAt}
use Rattle.edi_explore.specs.Underway.{Comes}
use Rattle.edi_explore.specs.Systems.{system_of}
use Rattle.edi_explore.proofs.Rounds.{not_over, round_on, round_over}
use Rattle.edi_explore.proofs.moved.round.Goals as goal

pub returns-in-Some-clause-exact : goal.returns-in-Some-clause-exact
returns-in-Some-clause-exact c = λ drawn s first source w.
    let k0 = c.args.kernel.now in
    let k = c.stint-end.new.self in
    round_over c.args.code.now s c.args.bound first.source k0 k (system_of c.args.calls.now) (system_of c.stint-end.new.calls) c.args.choices.now
    c.args.moves.now w c.stint-end.result c.in-Some.ending (c.args.bound - c.turns_used.result) (sym c.in-Some.ensures.exact)
    (omega (arith, c.stint-end.ensures.turns, c.stint-end.ensures.used, c.requires.used, c.turns_used.ensures, c.ranges.bound.fits))
    (c.stint-end.ensures.exact w.machine w.name w.others
    (subst (λ n. IsAt c.args.code.now k0 (system_of c.args.calls.now) n w.machine w.name w.others) (sym (ap (λ n. c.args.bound - n) c.turns_used.ensures)) w.at))

pub returns-clause-exact : goal.returns-clause-exact
returns-clause-exact c = λ drawn s first source w.
    let k0 = c.args.kernel.now in
    let k = c.stint-end.new.self in
    let is = sym c.ended_by.ensures.exact ∙ c.in_default.is in
    let over = not_over c.stint-end.result is in
    let spent = c.stint-end.ensures.spent over in
    subst (λ n. Comes c.args.code.now s c.args.bound first.source c.proceed.result c.proceed.new.kernel (system_of c.stint-end.new.calls)
    c.proceed.new.choices n) (sym c.counted.ensures.exact)
    (round_on c.args.code.now s c.args.bound first.source k0 k (system_of c.args.calls.now) (system_of c.stint-end.new.calls) c.args.choices.now
    c.args.moves.now w source c.stint-end.ensures.kernel (c.stint-end.ensures.free over) c.proceed.new.kernel c.proceed.new.choices c.proceed.ensures.turns
    (c.proceed.ensures.entering ∙ c.stint-end.ensures.entering over) c.stint-end.result c.proceed.result (c.args.bound - c.turns_used.result) is
    (omega (arith, c.stint-end.ensures.turns, c.stint-end.ensures.used, c.requires.used, c.turns_used.ensures, c.ranges.bound.fits))
    (λ m ready holds.
    c.proceed.ensures.exact (omega (arith, drawn, spent, c.stint-end.ensures.used, c.turns_used.ensures, c.requires.used)) m ready holds)
    (c.stint-end.ensures.exact w.machine w.name w.others
    (subst (λ n. IsAt c.args.code.now k0 (system_of c.args.calls.now) n w.machine w.name w.others) (sym (ap (λ n. c.args.bound - n) c.turns_used.ensures)) w.at)))
