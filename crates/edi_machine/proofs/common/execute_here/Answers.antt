use Rattle.std.proofs.Common.{sym}
use Rattle.edi_target.proofs.Reading.{part_from}
use Rattle.edi_machine.specs.Activities.{local_of}
use Rattle.edi_machine.proofs.Commonly.{stepped_here, stepped_past}
use Rattle.edi_machine.proofs.common.execute_here.Goals as goal

pub returns-clause-all : goal.returns-clause-all
returns-clause-all g c =
    stepped_here g.C.Calls.state g.C.Calls.failed g.C.Calls.faults g.C.Calls.references g.C.Calls.leads c.args.words.now c.args.live c.args.first
    (local_of c.args.store.now c.args.activity.now) c.in-Some.front.now
    (sym (part_from _ _ _ c.in-Some.ensures.lookup.0.0 c.in-Some.ensures.lookup.0.2)) _ _ _ _ c.execute_front.ensures.all

pub returns-in_default-clause-all : goal.returns-in_default-clause-all
returns-in_default-clause-all g c =
    stepped_past g.C.Calls.state g.C.Calls.failed g.C.Calls.faults g.C.Calls.references g.C.Calls.leads c.args.words.now c.args.live c.args.first
    (local_of c.args.store.now c.args.activity.now) c.args.calls.now c.in_default.ensures.lookup.0 c.requires.working

pub execute_front-requires-clause-here : goal.execute_front-requires-clause-here
execute_front-requires-clause-here g c = part_from _ _ _ c.in-Some.ensures.lookup.0.0 c.in-Some.ensures.lookup.0.2
