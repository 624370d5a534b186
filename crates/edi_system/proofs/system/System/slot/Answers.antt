use Rattle.edi_system.proofs.system.System.slot.Goals as goal

pub returns-clause-in_slots : goal.returns-clause-in_slots
returns-clause-in_slots g c = λ ready. c.slot.ensures.in_slots ready.mounted
