-- Who waits where, if the run stands still.
use Rattle.edi_waits.proofs.Whole.{none_told, waits_told}
use Rattle.edi_waits.proofs.runs.stand_still.Goals as goal

pub returns-clause-exact : goal.returns-clause-exact
returns-clause-exact g c = λ small.
    waits_told c.args.code.now c.args.bound c.args.choices.now (g.C.Calls.state c.args.calls.now) (g.C.Calls.state c.run_named-ending.new.calls)
    c.run_named-ending.result.0 c.run_named-ending.new.kernel c.run_named-ending.new.choices c.run_named-ending.result.1 c.waits_by.result
    c.waits_by.ensures.exact (c.run_named-ending.ensures.named small)

pub returns-clause-otherwise : goal.returns-clause-otherwise
returns-clause-otherwise g c = λ small.
    none_told c.args.code.now c.args.bound c.args.choices.now (g.C.Calls.state c.args.calls.now) (g.C.Calls.state c.run_named-ending.new.calls)
    c.run_named-ending.result.0 c.run_named-ending.new.kernel c.run_named-ending.new.choices c.run_named-ending.result.1 c.waits_by.result
    c.waits_by.ensures.other (c.run_named-ending.ensures.exact small)
