use Rattle.edi_catalog.proofs.InSlots.{find_in_slots}
use Rattle.edi_catalog.proofs.catalog.Catalog.find.Goals as goal

pub returns-clause-in_slots : goal.returns-clause-in_slots
returns-clause-in_slots g c = λ mounted. find_in_slots _ _ g.D.Drive.faults g.met.D.Drive.counted g.met.D.Drive.sized c.args.self.now c.args.title.now
    c.find_kept.result c.find_kept.ensures.exact mounted
