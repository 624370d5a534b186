use Rattle.edi_calls.specs.State.{find_file}
use Rattle.edi_catalog.specs.Refusing.{no_such}
use Rattle.edi_catalog.specs.Mounted.{files_of}
use Rattle.edi_catalog.proofs.InSlots.{changes_in_slots, such_told}
use Rattle.edi_catalog.proofs.catalog.Catalog.set_protected.Goals as goal

pub returns-clause-exact : goal.returns-clause-exact
returns-clause-exact g c =
    changes_in_slots _ _ _ g.met.D.Drive.counted g.met.D.Drive.sized _ _ (λ slots. no_such (find_file slots c.args.title.now)) _ _ _ _ c.requires.mounted
    (λ blocks sized many kept. such_told blocks _ (files_of c.args.self.now) sized many c.requires.mounted.stored kept c.args.title.now)
    c.protect_kept.ensures.changes
