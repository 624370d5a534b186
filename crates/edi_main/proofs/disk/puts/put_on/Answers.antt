-- The number of blocks of a drive on which a file is put.
use Rattle.std.proofs.Common.{◌≡◌, rules, subst, sym}
use Rattle.edi_catalog.specs.Counted.{IsOfCount}
use Rattle.edi_disk.specs.Shown.{drive_of}
use Rattle.edi_statuses.specs.EachObject.{FitsCount}
use Rattle.edi_statuses.proofs.EachLeft.{mounted_image}
use Rattle.edi_main.proofs.steps.Unmounted.{unmounted_fits}
use Rattle.edi_main.proofs.disk.puts.put_on.Goals as goal

pub returns-in-Err-clause-fits : goal.returns-in-Err-clause-fits
returns-in-Err-clause-fits g c =
    let same : c.args.drive.now ≡ drive_of c.attach-disk.result = search rules in
    subst (λ s. FitsCount s (g.D.Drive.count c.args.drive.now)) (sym c.mount_status.ensures.exact)
    (unmounted_fits c.in-Err.fault _ (subst (λ d. IsOfCount (g.D.Drive.count d) c.in-Err.fault) (sym same) c.in-Err.ensures.faults))

pub returns-in-Ok-store_over-clause-fits : goal.returns-in-Ok-store_over-clause-fits
returns-in-Ok-store_over-clause-fits g c =
    mounted_image g.D.Drive.count c.args.drive.now (drive_of c.attach-disk.result) (drive_of c.check.new.disk) (search rules)
    (λ some few. let never = c.in-Ok.ensures.short some few in absurd (cc)) c.check.ensures.count c.in-Ok.ensures.checked.most
