use Rattle.edi_timed.proofs.unheard.UnheardCalls.call.Goals as goal

pub returns-clause-leads : goal.returns-clause-leads
returns-clause-leads g c = λ start led first l. c.call.ensures.leads first (led first l)
