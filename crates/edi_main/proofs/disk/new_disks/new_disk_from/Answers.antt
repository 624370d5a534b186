-- The exits of `newdisk --from`.
use Rattle.std.proofs.Common.{Vec, ℕ, Global}
use Rattle.edi_image.specs.declared.migrate.migrating.MigrateEnd.TheVariants as end
use Rattle.edi_statuses.specs.Outside.{still_told}
use Rattle.edi_main.specs.steps.OnFiles.{files_only}
use Rattle.edi_main.proofs.disk.NewMeans.{counts_kept}
use Rattle.edi_main.proofs.disk.OldMeans.{migrated_means, not_taken}
use Rattle.edi_main.proofs.disk.PutMeans.{unfetched}
use Rattle.edi_main.proofs.disk.new_disks.new_disk_from.Goals as goal

pub returns-in-Err-clause-means : goal.returns-in-Err-clause-means
returns-in-Err-clause-means g c =
    not_taken c.in-Err.status c.args.blocks c.args.file.now _ _ _ _
    (unfetched c.in-Err.status c.args.file.now 2097664 (g.F.Files.contents c.args.files.now) (g.F.Files.contents c.fetch.new.files)
    (g.D.Drive.contents c.args.drive.now) c.in-Err.ensures.fetched c.in-Err.ensures.only.unchanged)

pub returns-in-Err-clause-size : goal.returns-in-Err-clause-size
returns-in-Err-clause-size g c =
    counts_kept (λ (v : Vec ℕ Global). v.items) (files_only (still_told (g.F.Files.contents c.args.files.now) (g.F.Files.contents c.fetch.new.files)))
    c.args.file.now 2097664 c.in-Err.status c.in-Err.ensures.fetched c.args.blocks _ _ _

pub returns-in-Ok-migrate-clause-means : goal.returns-in-Ok-migrate-clause-means
returns-in-Ok-migrate-clause-means g c =
    migrated_means end.Ok c.args.blocks c.requires.least c.args.file.now _ _ _ _ _ _ c.in-Ok.ensures.fetched c.deref.ensures.value
    c.in-Ok.ensures.only.unchanged c.in-Ok-migrate.ensures.answers c.in-Ok-migrate.ensures.leaves

pub returns-in-Image-clause-means : goal.returns-in-Image-clause-means
returns-in-Image-clause-means g c =
    migrated_means (end.Image c.in-Image.broken) c.args.blocks c.requires.least c.args.file.now _ _ _ _ _ _ c.in-Ok.ensures.fetched
    c.deref.ensures.value c.in-Ok.ensures.only.unchanged c.in-Image.ensures.answers c.in-Image.ensures.leaves

pub returns-in-Full-clause-means : goal.returns-in-Full-clause-means
returns-in-Full-clause-means g c =
    migrated_means (end.Full c.in-Full.wanted c.in-Full.free) c.args.blocks c.requires.least c.args.file.now _ _ _ _ _ _ c.in-Ok.ensures.fetched
    c.deref.ensures.value c.in-Ok.ensures.only.unchanged c.in-Full.ensures.answers c.in-Full.ensures.leaves

pub returns-in-Fault-clause-means : goal.returns-in-Fault-clause-means
returns-in-Fault-clause-means g c =
    migrated_means end.Fault c.args.blocks c.requires.least c.args.file.now _ _ _ _ _ _ c.in-Ok.ensures.fetched c.deref.ensures.value
    c.in-Ok.ensures.only.unchanged c.in-Fault.ensures.answers c.in-Fault.ensures.leaves
