use Rattle.edi_catalog.proofs.InSlots.{slot_in_slots}
use Rattle.edi_catalog.proofs.catalog.Catalog.slot.Goals as goal

pub returns-clause-in_slots : goal.returns-clause-in_slots
returns-clause-in_slots g c = λ mounted. slot_in_slots _ _ g.D.Drive.faults g.met.D.Drive.counted g.met.D.Drive.sized c.args.self.now c.args.i
    c.slot_kept.result c.slot_kept.ensures.exact mounted
