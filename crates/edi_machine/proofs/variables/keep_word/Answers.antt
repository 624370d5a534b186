use Rattle.std.proofs.Common.{arith, rules}
use Rattle.edi_machine.specs.Activities.{local_of}
use Rattle.edi_machine.proofs.Frames.{kept_one}
use Rattle.edi_machine.proofs.variables.keep_word.Goals as goal

pub returns-clause-exact : goal.returns-clause-exact
returns-clause-exact c =
    kept_one (local_of c.args.store.now c.args.activity.now) c.in-Some.x c.in-Some.word c.args.next c.put.new.self c.put.ensures.was_whole (search rules)
    (omega arith) (search rules) (search rules) (search rules) c.put.ensures.exact
