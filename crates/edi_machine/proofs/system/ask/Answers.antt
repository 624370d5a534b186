use Rattle.std.proofs.Common.{refl, arith}
use Rattle.edi_machine.specs.Activities.{local_of}
use Rattle.edi_machine.proofs.SystemCalls.{asked, asking_used, no_file_there, file_is_full, torn}
use Rattle.edi_machine.proofs.system.ask.Goals as goal

pub returns-in-Ok-clause-exact : goal.returns-in-Ok-clause-exact
returns-in-Ok-clause-exact g c =
    asked c.args.number c.args.line c.args.next c.args.address (record (local_of c.args.store.now c.args.activity.now) { top = c.args.top }) _ _
    c.words_of-count.result.0 c.make_call-made.result.word _ _ _ c.words_of-count.ensures.arguments (omega arith) c.arguments_at-arguments.ensures _
    c.in-Ok.is c.make_call-made.ensures.exact c.make_call-made.ensures.may c.requires.answer (cc c.put_answer.ensures.exact)

pub returns-in-NoFile-clause-exact : goal.returns-in-NoFile-clause-exact
returns-in-NoFile-clause-exact g c =
    no_file_there c.args.number c.args.line c.args.next c.args.address (record (local_of c.args.store.now c.args.activity.now) { top = c.args.top }) _ _
    c.words_of-count.result.0 c.make_call-made.result.word _ _ _ c.words_of-count.ensures.arguments (omega arith) c.arguments_at-arguments.ensures _
    c.in-NoFile.is c.make_call-made.ensures.exact c.make_call-made.ensures.may refl

pub returns-in-FileLimit-clause-exact : goal.returns-in-FileLimit-clause-exact
returns-in-FileLimit-clause-exact g c =
    file_is_full c.args.number c.args.line c.args.next c.args.address (record (local_of c.args.store.now c.args.activity.now) { top = c.args.top }) _ _
    c.words_of-count.result.0 c.make_call-made.result.word _ _ _ c.words_of-count.ensures.arguments (omega arith) c.arguments_at-arguments.ensures _
    c.in-FileLimit.is c.make_call-made.ensures.exact c.make_call-made.ensures.may refl

pub returns-in-OutsideFault-clause-exact : goal.returns-in-OutsideFault-clause-exact
returns-in-OutsideFault-clause-exact g c =
    torn c.args.number c.args.line c.args.next c.args.address (record (local_of c.args.store.now c.args.activity.now) { top = c.args.top }) _ _
    c.words_of-count.result.0 c.make_call-made.result.word _ _ _ c.words_of-count.ensures.arguments (omega arith) c.arguments_at-arguments.ensures _
    c.in-OutsideFault.is c.make_call-made.ensures.exact refl

pub returns-in-Ok-clause-used : goal.returns-in-Ok-clause-used
returns-in-Ok-clause-used g c =
    asking_used _ c.args.number c.args.address c.args.line c.args.next
    (record (local_of c.args.store.now c.args.activity.now) { top = c.args.top }) (g.C.Calls.failed c.make_call-made.new.calls) c.make_call-made.ensures.used

pub returns-in-NoFile-clause-used : goal.returns-in-NoFile-clause-used
returns-in-NoFile-clause-used g c =
    asking_used _ c.args.number c.args.address c.args.line c.args.next
    (record (local_of c.args.store.now c.args.activity.now) { top = c.args.top }) (g.C.Calls.failed c.make_call-made.new.calls) c.make_call-made.ensures.used

pub returns-in-FileLimit-clause-used : goal.returns-in-FileLimit-clause-used
returns-in-FileLimit-clause-used g c =
    asking_used _ c.args.number c.args.address c.args.line c.args.next
    (record (local_of c.args.store.now c.args.activity.now) { top = c.args.top }) (g.C.Calls.failed c.make_call-made.new.calls) c.make_call-made.ensures.used

pub returns-in-OutsideFault-clause-used : goal.returns-in-OutsideFault-clause-used
returns-in-OutsideFault-clause-used g c =
    asking_used _ c.args.number c.args.address c.args.line c.args.next
    (record (local_of c.args.store.now c.args.activity.now) { top = c.args.top }) (g.C.Calls.failed c.make_call-made.new.calls) c.make_call-made.ensures.used
