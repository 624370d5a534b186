-- The number of blocks of a drive from which a file is got.
use Rattle.std.proofs.Common.{◌≡◌, ◌≤◌, length, Some, rules, subst, sym, arith}
use Rattle.std.specs.Option.{option_map}
use Rattle.edi_calls.specs.State.{most_bytes}
use Rattle.edi_image.specs.Stored.{StoredFile}
use Rattle.edi_catalog.specs.Files.{file_titled}
use Rattle.edi_catalog.specs.Counted.{IsOfCount}
use Rattle.edi_disk.specs.Shown.{drive_of}
use Rattle.edi_statuses.specs.EachObject.{FitsGet}
use Rattle.edi_main.proofs.disk.Short.{titled_short}
use Rattle.edi_main.proofs.steps.Unmounted.{unread_fits}
use Rattle.edi_main.proofs.disk.reads.read_on.Goals as goal

pub returns-in-Err-clause-fits : goal.returns-in-Err-clause-fits
returns-in-Err-clause-fits g c =
    let same : c.args.drive.now ≡ drive_of c.attach-disk.result = search rules in
    subst (λ s. FitsGet s (g.D.Drive.count c.args.drive.now)) (sym c.mount_status.ensures.exact)
    (unread_fits c.in-Err.fault _ (subst (λ d. IsOfCount (g.D.Drive.count d) c.in-Err.fault) (sym same) c.in-Err.ensures.faults))

pub returns-in-Ok-read_into-clause-within : goal.returns-in-Ok-read_into-clause-within
returns-in-Ok-read_into-clause-within g c =
    let short : c.in-Ok-read_into.count ≤ most_bytes =
    titled_short _ c.args.title.now c.in-Ok.room.files.items c.in-Ok-read_into.count c.in-Ok.ensures.checked.stored
    (subst (λ room. option_map (λ (file : StoredFile). file.record_.length) (file_titled c.args.title.now room.files.items) ≡ Some c.in-Ok-read_into.count)
    c.mount-catalog.ensures.room c.in-Ok-read_into.ensures.length) in
    let room : most_bytes ≤ length c.read_into.new.into = search rules in
    omega (arith, short, room)
