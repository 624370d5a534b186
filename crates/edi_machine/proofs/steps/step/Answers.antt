use Rattle.edi_machine.specs.Activities.{local_of}
use Rattle.edi_machine.proofs.Telling.{phase_of_step, fork_of_step, branches_of_step}
use Rattle.edi_machine.proofs.steps.step.Goals as goal

pub returns-clause-phase : goal.returns-clause-phase
returns-clause-phase g c =
    phase_of_step c.args.code.now.words c.words-words.result.now c.args.live c.args.first (local_of c.args.store.now c.args.activity.now)
    c.words-words.ensures.value _ _ _ _ c.execute_here-end.ensures.all.exact

pub returns-clause-fork : goal.returns-clause-fork
returns-clause-fork g c =
    fork_of_step c.args.code.now.words c.words-words.result.now c.args.live c.args.first (local_of c.args.store.now c.args.activity.now)
    c.words-words.ensures.value

pub returns-clause-branches : goal.returns-clause-branches
returns-clause-branches g c =
    branches_of_step c.args.code.now.words c.words-words.result.now c.args.live c.args.first (local_of c.args.store.now c.args.activity.now)
    c.words-words.ensures.value _ _ _ _ c.execute_here-end.ensures.all.exact
