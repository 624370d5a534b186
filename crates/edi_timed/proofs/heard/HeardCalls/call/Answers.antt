use Rattle.edi_timed.proofs.Hearing.{hears_more}
use Rattle.edi_timed.proofs.heard.HeardCalls.call.Goals as goal

pub returns-clause-leads : goal.returns-clause-leads
returns-clause-leads g c = λ start h.
    hears_more g.C.Calls.state g.C.Calls.failed g.C.Calls.leads g.met.C.Calls.one_failed start c.args.self.now
    _ c.args.number c.args.args.now c.call-end.new.answer c.call-end.result
    (g.C.Calls.faults c.args.self.now.calls.now) (g.C.Calls.faults c.call-end.new.self) c.requires.from c.requires.to c.requires.working c.call-end.ensures.exact
    c.call-end.ensures.blame c.call-end.ensures.leads c.said_after-self.ensures.exact c.said_after-self.ensures.few h
