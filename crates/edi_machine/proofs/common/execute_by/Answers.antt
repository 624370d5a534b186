use Rattle.std.proofs.Common.{◌∷◌, arith, rules}
use Rattle.edi_machine.specs.Activities.{local_of}
use Rattle.edi_machine.specs.Numbers.{effect_by}
use Rattle.edi_machine.proofs.Commonly.{asks_nothing, nowhere_refused, stepped_as}
use Rattle.edi_machine.proofs.common.execute_by.Goals as goal

pub returns-in-Some-clause-all : goal.returns-in-Some-clause-all
returns-in-Some-clause-all g c =
    asks_nothing g.C.Calls.state g.C.Calls.failed g.C.Calls.faults g.C.Calls.references g.C.Calls.leads
    (effect_by c.args.words.now c.args.live c.args.first (c.args.number ∷ c.args.operands.now) (local_of c.args.store.now c.args.activity.now))
    c.in-Some.end _ _ c.args.calls.now (c.in-Some.ensures.all c.args.live c.args.first) c.requires.working

pub returns-then-function-le1-clause-all : goal.returns-then-function-le1-clause-all
returns-then-function-le1-clause-all g c =
    asks_nothing g.C.Calls.state g.C.Calls.failed g.C.Calls.faults g.C.Calls.references g.C.Calls.leads
    (effect_by c.args.words.now c.args.live c.args.first (c.args.number ∷ c.args.operands.now) (local_of c.args.store.now c.args.activity.now))
    c.leave_block.result _ _ c.args.calls.now (search rules) c.requires.working

pub returns-in_default-number-clause-all : goal.returns-in_default-number-clause-all
returns-in_default-number-clause-all g c =
    let l = local_of c.args.store.now c.args.activity.now in
    stepped_as g.C.Calls.state g.C.Calls.failed g.C.Calls.faults g.C.Calls.references g.C.Calls.leads c.args.words.now c.args.live c.args.first
    (c.args.number ∷ c.args.operands.now) l _ (nowhere_refused c.args.words.now c.args.live c.args.first l c.args.number c.args.operands.now (omega arith)) _ _
    c.args.calls.now (search rules) c.requires.working
