use Rattle.edi_image.proofs.Told.{told_then}
use Rattle.edi_image.proofs.Empty.{formatted_from}
use Rattle.edi_catalog.proofs.formatting.format.Goals as goal

pub returns-in-Ok-write_catalogue-clause-leaves : goal.returns-in-Ok-write_catalogue-clause-leaves
returns-in-Ok-write_catalogue-clause-leaves g c =
    told_then _ _ _ _ _ _
    (λ old between new resized written. formatted_from old between new c.args.blocks c.requires.least c.requires.most resized written)
    c.in-Ok.ensures.leaves c.in-Ok-write_catalogue.ensures.leaves
