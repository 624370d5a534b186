use Rattle.std.proofs.Common.{◌≡◌, true, Some, subst}
use Rattle.edi_disk.specs.Shown.{drive_of}
use Rattle.edi_catalog.specs.Mounted.{disk_of}
use Rattle.edi_catalog.specs.Plan.{AreFree, used_in}
use Rattle.edi_image.specs.Stored.{is_stored}
use Rattle.edi_catalog.proofs.catalog.Catalog.lay_kept.Goals as goal

pub returns-clause-kept : goal.returns-clause-kept
returns-clause-kept g c =
    subst (λ n. is_stored n (Some c.lay_file.result) ≡ true) c.blocks-count.ensures.count c.lay_file.ensures.kept

pub returns-clause-free : goal.returns-clause-free
returns-clause-free g c =
    subst (λ fs. AreFree (g.D.Drive.count (drive_of (disk_of c.args.self.now))) fs (used_in (Some c.lay_file.result))) c.deref.ensures.value
    (subst (λ n. AreFree n c.deref.result.now (used_in (Some c.lay_file.result))) c.blocks-count.ensures.count c.lay_file.ensures.free)
