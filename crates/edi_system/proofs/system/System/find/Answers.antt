use Rattle.edi_system.proofs.system.System.find.Goals as goal

pub returns-clause-in_slots : goal.returns-clause-in_slots
returns-clause-in_slots g c = λ ready. c.find.ensures.in_slots ready.mounted
