use Rattle.std.proofs.Common.{◌∷◌, [], ◌∙◌, arith}
use Rattle.edi_machine.specs.Activities.{local_of}
use Rattle.edi_machine.proofs.Frames.{put_one, pushed}
use Rattle.edi_machine.proofs.frame.push_below.Goals as goal

pub returns-clause-exact : goal.returns-clause-exact
returns-clause-exact c =
    let memory = c.put.ensures.exact ∙ put_one c.args.store.now c.args.top c.args.word c.put.ensures.was_whole (omega arith) in
    pushed (c.args.word ∷ []) (record (local_of c.args.store.now c.args.activity.now) { top = c.args.top }) c.args.next _ _ (omega arith) (cc memory)
