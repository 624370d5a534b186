-- One plain instruction of the code is one of the definition.
use Rattle.std.proofs.Common.{◌≡◌, ◌∙◌, ap, refl, subst, sym, true}
use Rattle.edi_machine.specs.Plain.{is_looped}
use Rattle.edi_machine.specs.declared.ends.StepEnd.{StepEnd}
use Rattle.edi_machine.specs.declared.ends.StepEnd.TheVariants as end
use Rattle.edi_machine.specs.declared.ends.TurnKind.TheVariants as kind
use Rattle.edi_kernel.proofs.Plain.{arrival_by, failed_same, given_as, on_falls, on_in_phase, one_arrival, one_on, one_round, refused_same}
use Rattle.edi_kernel.proofs.stretch.instruct_plainly.Goals as goal

pub returns-in-Some-On-clause-exact : goal.returns-in-Some-On-clause-exact
returns-in-Some-On-clause-exact c =
    one_on c.args.words.now c.args.store.now c.step_plainly.new.store c.args.activity.now c.step_plainly.new.activity c.args.progress.now c.requires.phase
    (given_as c.args.words.now c.args.store.now c.step_plainly.new.store c.args.activity.now c.step_plainly.new.activity
    c.args.progress.now c.in-Some-On.field-0
    end.On c.in-Some-On.field-0-is c.in-Some-On.ensures.exact)

pub returns-in-Some-On-clause-phase : goal.returns-in-Some-On-clause-phase
returns-in-Some-On-clause-phase c = λ is one.
    on_in_phase c.args.words.now c.args.store.now c.step_plainly.new.store c.args.activity.now c.step_plainly.new.activity c.args.progress.now c.requires.phase
    (given_as c.args.words.now c.args.store.now c.step_plainly.new.store c.args.activity.now c.step_plainly.new.activity
    c.args.progress.now c.in-Some-On.field-0
    end.On c.in-Some-On.field-0-is c.in-Some-On.ensures.exact) one

pub returns-in-Some-On-clause-falls : goal.returns-in-Some-On-clause-falls
returns-in-Some-On-clause-falls c = λ is.
    on_falls c.args.words.now c.args.store.now c.step_plainly.new.store c.args.activity.now c.step_plainly.new.activity c.args.progress.now
    (given_as c.args.words.now c.args.store.now c.step_plainly.new.store c.args.activity.now c.step_plainly.new.activity
    c.args.progress.now c.in-Some-On.field-0
    end.On c.in-Some-On.field-0-is c.in-Some-On.ensures.exact)

pub returns-then-goes_on-clause-exact : goal.returns-then-goes_on-clause-exact
returns-then-goes_on-clause-exact c =
    let n = c.in-Some-Turn in
    let turned : n.field-0 ≡ end.Turn n.kind = n.field-0-is in
    one_round c.args.words.now c.args.store.now c.step_plainly.new.store c.args.activity.now c.step_plainly.new.activity c.args.progress.now c.requires.phase
    n.kind (sym c.goes_on.ensures ∙ c.if-goes_on.true)
    (subst (λ (e : StepEnd). is_looped c.args.progress.now.left e ≡ true) turned n.ensures.looped.looped)
    (given_as c.args.words.now c.args.store.now c.step_plainly.new.store c.args.activity.now c.step_plainly.new.activity c.args.progress.now
    n.field-0 (end.Turn n.kind) turned n.ensures.exact) c.go_round.new.progress c.go_round.ensures.left c.go_round.ensures.cleared

pub returns-else-goes_on-clause-exact : goal.returns-else-goes_on-clause-exact
returns-else-goes_on-clause-exact c =
    let n = c.in-Some-Turn in
    let may = subst (λ (e : StepEnd). is_looped c.args.progress.now.left e ≡ true) n.field-0-is n.ensures.looped.looped in
    let stops = arrival_by c.args.progress.now.left n.kind may (sym c.goes_on.ensures ∙ c.if-goes_on.false) in
    let arrival : n.field-0 ≡ end.Turn kind.Arrive = n.field-0-is ∙ ap end.Turn stops in
    one_arrival c.args.words.now c.args.store.now c.step_plainly.new.store c.args.activity.now c.step_plainly.new.activity c.args.progress.now c.requires.phase
    (subst (λ (e : StepEnd). is_looped c.args.progress.now.left e ≡ true) arrival n.ensures.looped.looped)
    (given_as c.args.words.now c.args.store.now c.step_plainly.new.store c.args.activity.now c.step_plainly.new.activity c.args.progress.now
    n.field-0 (end.Turn kind.Arrive) arrival n.ensures.exact) c.args.progress.now.cleared

pub returns-in-Some-Fail-clause-exact : goal.returns-in-Some-Fail-clause-exact
returns-in-Some-Fail-clause-exact c =
    let n = c.in-Some-Fail in
    let same = failed_same c.args.words.now c.args.store.now c.step_plainly.new.store c.args.activity.now c.step_plainly.new.activity n.field-0-0 n.field-0-1
    (given_as c.args.words.now c.args.store.now c.step_plainly.new.store c.args.activity.now c.step_plainly.new.activity c.args.progress.now
    n.field-0 (end.Fail n.field-0-0 n.field-0-1) n.field-0-is n.ensures.exact) in
    (same.0, same.1, refl)

pub returns-in-Some-Bad-clause-exact : goal.returns-in-Some-Bad-clause-exact
returns-in-Some-Bad-clause-exact c =
    let n = c.in-Some-Bad in
    let same = refused_same c.args.words.now c.args.store.now c.step_plainly.new.store c.args.activity.now c.step_plainly.new.activity n.field-0-0
    (given_as c.args.words.now c.args.store.now c.step_plainly.new.store c.args.activity.now c.step_plainly.new.activity c.args.progress.now
    n.field-0 (end.Bad n.field-0-0) n.field-0-is n.ensures.exact) in
    (same.0, same.1, refl)
