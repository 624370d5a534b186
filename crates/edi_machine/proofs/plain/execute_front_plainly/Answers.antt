use Rattle.edi_machine.specs.Activities.{local_of}
use Rattle.edi_machine.proofs.Plainly.{given_by}
use Rattle.edi_machine.proofs.plain.execute_front_plainly.Goals as goal

pub returns-in-len1-up-clause-all : goal.returns-in-len1-up-clause-all
returns-in-len1-up-clause-all c =
    given_by c.args.words.now (local_of c.args.store.now c.args.activity.now) (local_of c.execute_looped.new.store c.execute_looped.new.activity) _
    c.execute_looped.result c.args.front.now c.in-len1-up.len_at_least c.execute_looped.ensures.all
