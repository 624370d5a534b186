use Rattle.std.proofs.Common.{sym}
use Rattle.edi_target.proofs.Reading.{part_from}
use Rattle.edi_machine.specs.Activities.{local_of}
use Rattle.edi_machine.proofs.Plainly.{given_here, none_plain, plain_there}
use Rattle.edi_machine.proofs.plain.step_plainly.Goals as goal

pub returns-clause-exact : goal.returns-clause-exact
returns-clause-exact c =
    given_here c.args.words.now (local_of c.args.store.now c.args.activity.now)
    (local_of c.execute_front_plainly-end.new.store c.execute_front_plainly-end.new.activity) _
    c.execute_front_plainly-end.result c.in-Some.front.now (sym (part_from _ _ _ c.in-Some.ensures.lookup.0.0 c.in-Some.ensures.lookup.0.2))
    c.execute_front_plainly-end.ensures.all

pub returns-clause-other : goal.returns-clause-other
returns-clause-other c = λ none left room.
    none_plain c.args.words.now c.in-Some.front.now c.args.activity.now.pc
    (sym (part_from _ _ _ c.in-Some.ensures.lookup.0.0 c.in-Some.ensures.lookup.0.2)) room (c.execute_front_plainly-end.ensures.other none left)

pub returns-clause-plain : goal.returns-clause-plain
returns-clause-plain c =
    plain_there c.args.words.now c.in-Some.front.now c.args.activity.now.pc _
    (sym (part_from _ _ _ c.in-Some.ensures.lookup.0.0 c.in-Some.ensures.lookup.0.2)) c.execute_front_plainly-end.ensures.plain
