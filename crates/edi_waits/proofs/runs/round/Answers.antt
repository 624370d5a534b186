-- The stint ends the run, or the next process is taken.
use Rattle.std.proofs.Common.{◌≡◌, ℕ, ◌-◌, Option, Some, None, refl, sym, ap, subst, ◌∙◌, arith}
use Rattle.edi_kernel.specs.declared.ends.Ending.TheVariants as ending
use Rattle.edi_kernel.specs.Kernel.{fault_of}
use Rattle.edi_kernel.proofs.Placing.{stands_at_end, stands_unready}
use Rattle.edi_waits.specs.Names.{FollowsNames}
use Rattle.edi_waits.proofs.Asked.{asks_on, asks_over}
use Rattle.edi_waits.proofs.Rounds.{not_over, told_on, told_over}
use Rattle.edi_waits.proofs.runs.round.Goals as goal

pub returns-in-Some-clause-exact : goal.returns-in-Some-clause-exact
returns-in-Some-clause-exact g c = λ drawn.
    told_over c.args.code.now c.args.bound c.stint-end.result c.args.kernel.now c.stint-end.new.self c.args.choices.now c.args.names.now
    c.follow_names.new.names (c.args.bound - c.turns_used.result) _ _ (ap (λ n. c.args.bound - n) c.turns_used.ensures) c.requires.kernel
    c.stint-end.ensures.kernel
    (omega (arith, c.stint-end.ensures.turns, c.stint-end.ensures.used, c.requires.used, c.turns_used.ensures))
    (omega (arith, c.stint-end.ensures.turns, c.stint-end.ensures.used, c.requires.used, c.turns_used.ensures, c.ranges.bound.fits))
    (subst (λ n. FollowsNames c.stint-end.result c.args.kernel.now.taken n c.stint-end.new.self c.args.names.now c.follow_names.new.names)
    c.ready-before.ensures.exact
    (subst (λ (o : Option ℕ). FollowsNames c.stint-end.result o c.ready-before.result c.stint-end.new.self c.args.names.now c.follow_names.new.names)
    c.taken-slot.ensures.exact c.follow_names.ensures.follows)) c.in-Some.ending (sym c.in-Some.ensures.exact)
    (omega (arith, c.stint-end.ensures.turns, c.stint-end.ensures.used, c.requires.used, c.turns_used.ensures, c.ranges.bound.fits))
    c.stint-end.ensures.names c.stint-end.ensures.ends

pub returns-clause-exact : goal.returns-clause-exact
returns-clause-exact g c = λ drawn.
    let is = sym c.ended_by.ensures.exact ∙ c.in_default.is in
    let spent = c.stint-end.ensures.spent (not_over c.stint-end.result is) in
    told_on c.args.code.now c.args.bound c.stint-end.result c.args.kernel.now c.stint-end.new.self c.args.choices.now c.args.names.now
    c.follow_names.new.names (c.args.bound - c.turns_used.result) _ _ (ap (λ n. c.args.bound - n) c.turns_used.ensures) c.requires.kernel
    c.stint-end.ensures.kernel
    (omega (arith, c.stint-end.ensures.turns, c.stint-end.ensures.used, c.requires.used, c.turns_used.ensures))
    (omega (arith, c.stint-end.ensures.turns, c.stint-end.ensures.used, c.requires.used, c.turns_used.ensures, c.ranges.bound.fits))
    (subst (λ n. FollowsNames c.stint-end.result c.args.kernel.now.taken n c.stint-end.new.self c.args.names.now c.follow_names.new.names)
    c.ready-before.ensures.exact
    (subst (λ (o : Option ℕ). FollowsNames c.stint-end.result o c.ready-before.result c.stint-end.new.self c.args.names.now c.follow_names.new.names)
    c.taken-slot.ensures.exact c.follow_names.ensures.follows)) c.proceed.new.kernel c.proceed.new.choices c.proceed.result is
    c.proceed.ensures.turns (c.proceed.ensures.entering ∙ c.stint-end.ensures.entering (not_over c.stint-end.result is)) c.proceed.ensures.lives
    (omega (arith, spent, c.stint-end.ensures.turns, c.stint-end.ensures.used, c.requires.used, c.turns_used.ensures, c.ranges.bound.fits))
    (omega (arith, c.stint-end.ensures.turns, c.stint-end.ensures.used, c.requires.used, c.requires.small, c.turns_used.ensures))
    (λ n m ready holds.
    c.proceed.ensures.exact (omega (arith, drawn, spent, c.stint-end.ensures.used, c.turns_used.ensures, c.requires.used)) n m ready holds)
    c.stint-end.ensures.names

pub returns-in-Some-clause-standing : goal.returns-in-Some-clause-standing
returns-in-Some-clause-standing g c =
    stands_at_end c.stint-end.result c.in-Some.ending _ _ _ _ (sym c.in-Some.ensures.exact) c.stint-end.ensures.standing

pub returns-clause-standing : goal.returns-clause-standing
returns-clause-standing g c =
    stands_unready c.stint-end.result _ _ c.proceed.result c.stint-end.new.self c.stint-end.new.self c.proceed.new.kernel
    (sym c.ended_by.ensures.exact ∙ c.in_default.is) c.proceed.ensures.nobody refl (λ not. refl) c.stint-end.ensures.standing

pub returns-in-Some-clause-asked : goal.returns-in-Some-clause-asked
returns-in-Some-clause-asked g c =
    asks_over c.args.code.now c.args.bound c.args.kernel.now c.args.choices.now c.args.names.now (g.C.Calls.failed c.stint-end.new.calls)
    (g.C.Calls.state c.args.calls.now) (g.C.Calls.state c.stint-end.new.calls) c.stint-end.new.self c.stint-end.result c.in-Some.ending
    (c.args.bound - c.turns_used.result) c.stint-end.ensures.kernel (ap (λ n. c.args.bound - n) c.turns_used.ensures)
    (omega (arith, c.stint-end.ensures.turns, c.stint-end.ensures.used, c.requires.used, c.turns_used.ensures, c.ranges.bound.fits))
    (omega (arith, c.stint-end.ensures.turns, c.stint-end.ensures.used, c.requires.used, c.turns_used.ensures))
    (sym c.in-Some.ensures.exact) c.stint-end.ensures.asked

pub returns-clause-asked : goal.returns-clause-asked
returns-clause-asked g c =
    asks_on c.args.code.now c.args.bound c.args.kernel.now c.args.choices.now c.args.names.now (g.C.Calls.failed c.stint-end.new.calls)
    (g.C.Calls.state c.args.calls.now) (g.C.Calls.state c.stint-end.new.calls) c.proceed.result c.proceed.new.kernel c.proceed.new.choices _
    (λ e. let wrong : fault_of (Some ending.Fault) ≡ None = sym (ap fault_of e) ∙ c.proceed.ensures.fault in absurd (cc)) c.stint-end.ensures.asked
