use Rattle.edi_catalog.proofs.InSlots.{store_in_slots}
use Rattle.edi_catalog.proofs.catalog.Catalog.store.Goals as goal

pub returns-clause-exact : goal.returns-clause-exact
returns-clause-exact g c =
    store_in_slots _ _ _ g.met.D.Drive.counted g.met.D.Drive.sized c.store_kept.result c.args.title.now c.args.kind c.args.bytes.now c.args.self.now
    c.store_kept.new.self
    c.requires.mounted c.store_kept.ensures.changes
