use Rattle.edi_catalog.proofs.InSlots.{free_in_slots}
use Rattle.edi_catalog.proofs.catalog.Catalog.free.Goals as goal

pub returns-clause-in_slots : goal.returns-clause-in_slots
returns-clause-in_slots g c = free_in_slots _ _ g.D.Drive.faults g.met.D.Drive.counted g.met.D.Drive.sized c.args.self.now c.free_kept.result
    c.free_kept.ensures.exact c.requires
