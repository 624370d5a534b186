-- One instruction of the code is one of the definition.
use Rattle.std.proofs.Common.{ap, refl, sym, ◌∙◌, ◌||◌}
use Rattle.edi_machine.specs.Activities.{local_of}
use Rattle.edi_machine.proofs.Telling.{held_of_step}
use Rattle.edi_kernel.specs.Stretch.{cleared_in, cleared_of, pause_of}
use Rattle.edi_kernel.proofs.Phases.{notes, stays_in}
use Rattle.edi_kernel.proofs.Steps.{steps_are, allowed_are, asked_are, falls_are}
use Rattle.edi_kernel.proofs.Stretches.{spends_are}
use Rattle.edi_kernel.proofs.stretch.instruct.Goals as goal

pub returns-clause-exact : goal.returns-clause-exact
returns-clause-exact g c =
    let e = c.step-end.ensures in
    let p = c.args.progress.now in
    steps_are c.args.code.now.words c.args.live c.args.first (local_of c.args.store.now c.args.progress.now.activity)
    (local_of c.step-end.new.store c.step-end.new.activity)
    c.args.progress.now.left g.C.Calls.state c.args.calls.now c.step-end.new.calls c.step-end.result (cleared_in c.args.progress.now) _ _ _ e.exact e.keeps
    e.phase e.fork c.follow-pause.ensures.pause c.follow-pause.ensures.left
    (ap (λ r. cleared_of r c.follow-pause.result.2 p.phase c.step-end.new.activity.held) c.follow-pause.ensures.pause
    ∙ ap (λ b. cleared_of (pause_of c.step-end.result p.left) b p.phase c.step-end.new.activity.held) c.follow-pause.ensures.cleared
    ∙ notes p.cleared p.phase p.activity.held c.step-end.new.activity.held c.requires.phase c.step-end.result p.left (held_of_step c.args.code.now.words c.args.code.now.words c.args.live
    c.args.first (local_of c.args.store.now p.activity) refl c.step-end.result (local_of c.step-end.new.store c.step-end.new.activity) _ _ e.exact))

pub returns-clause-allowed : goal.returns-clause-allowed
returns-clause-allowed g c =
    let e = c.step-end.ensures in
    allowed_are c.args.code.now.words c.args.live c.args.first (local_of c.args.store.now c.args.progress.now.activity)
    (local_of c.step-end.new.store c.step-end.new.activity)
    c.args.progress.now.left _ _ c.step-end.result _ e.exact e.fork c.follow-pause.ensures.pause

pub returns-clause-falls : goal.returns-clause-falls
returns-clause-falls g c =
    let e = c.step-end.ensures in
    falls_are c.args.code.now.words c.args.live c.args.first (local_of c.args.store.now c.args.progress.now.activity)
    (local_of c.step-end.new.store c.step-end.new.activity)
    c.args.progress.now.left _ _ c.step-end.result _ _ e.exact c.follow-pause.ensures.pause c.follow-pause.ensures.left

pub returns-clause-spends : goal.returns-clause-spends
returns-clause-spends g c = spends_are c.step-end.result c.args.progress.now.left _ _ c.follow-pause.ensures.pause c.follow-pause.ensures.left

pub returns-clause-phase : goal.returns-clause-phase
returns-clause-phase g c = λ none one.
    let p = c.args.progress.now in
    ap (λ b. b || p.phase) c.follow-pause.ensures.cleared
    ∙ stays_in p.cleared p.phase p.activity.held c.step-end.new.activity.held c.requires.phase c.step-end.result p.left
    (held_of_step c.args.code.now.words c.args.code.now.words c.args.live c.args.first (local_of c.args.store.now p.activity) refl c.step-end.result
    (local_of c.step-end.new.store c.step-end.new.activity) _ _ c.step-end.ensures.exact) (sym c.follow-pause.ensures.pause ∙ none) one

pub returns-clause-asked : goal.returns-clause-asked
returns-clause-asked g c =
    let e = c.step-end.ensures in
    asked_are c.args.code.now.words c.args.live c.args.first (local_of c.args.store.now c.args.progress.now.activity)
    (local_of c.step-end.new.store c.step-end.new.activity)
    c.args.progress.now.left _ _ c.step-end.result _ (g.C.Calls.failed c.step-end.new.calls) e.exact e.used c.follow-pause.ensures.pause
