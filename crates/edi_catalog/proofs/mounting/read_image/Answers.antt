use Rattle.std.proofs.Common.{◌<◌, ◌∙◌, sym, subst, length}
use Rattle.edi_image.specs.Finds.{IsFirst}
use Rattle.edi_image.specs.Image.{mount_fault_of}
use Rattle.edi_image.proofs.ImageRules.{image_goes_on, image_fails}
use Rattle.edi_catalog.specs.Mounted.{AreEntries}
use Rattle.edi_catalog.proofs.EntryBlocks.{no_image_fault}
use Rattle.edi_catalog.proofs.StillCached.{still_cached}
use Rattle.edi_catalog.proofs.Sequence.{checks_both, checks_counted, checks_map, checks_then}
use Rattle.edi_catalog.proofs.mounting.read_image.Goals as goal

pub returns-in-Err-clause-checks : goal.returns-in-Err-clause-checks
returns-in-Err-clause-checks g c =
    checks_map _ _ _ _ _ _ _ _
    (λ blocks p. image_fails c.in-Err.fault blocks (subst (λ n. 0 < n) (sym p.1) c.requires.some) p.0)
    (checks_counted _ _ _ g.met.D.Drive.counted _ _ _ _ c.in-Err.ensures.checks)

pub returns-in-Err-entry_blocks-clause-checks : goal.returns-in-Err-entry_blocks-clause-checks
returns-in-Err-entry_blocks-clause-checks g c =
    checks_then _ _ _ _ _ _ _ _ _ _
    (λ blocks p q. no_image_fault c.in-Err-entry_blocks.fault (mount_fault_of blocks) c.in-Err-entry_blocks.ensures.fault)
    c.in-Ok.ensures.checks c.in-Err-entry_blocks.ensures.checks

pub returns-in-Ok-read_slots-clause-checks : goal.returns-in-Ok-read_slots-clause-checks
returns-in-Ok-read_slots-clause-checks g c =
    checks_then _ _ _ _ _ _ _ _ _ _
    (λ blocks p q.
    let some : 0 < length blocks = subst (λ n. 0 < n) (sym p.0.1) c.requires.some in
    let found = q (subst (λ es. AreEntries es blocks) (sym c.deref.ensures.value) p.1) in
    (sym (image_goes_on blocks some p.0.0.0) ∙ found.0, (found.1, p.1)))
    (checks_both _ _ _ _ _ _ _ _ (checks_counted _ _ _ g.met.D.Drive.counted _ _ _ _ c.in-Ok.ensures.checks) c.in-Ok-entry_blocks.ensures.checks)
    c.in-Ok-read_slots.ensures.checks

pub returns-in-Err-read_slots-clause-checks : goal.returns-in-Err-read_slots-clause-checks
returns-in-Err-read_slots-clause-checks g c =
    checks_then _ _ _ _ _ _ _ _ _ _
    (λ blocks p q.
    let some : 0 < length blocks = subst (λ n. 0 < n) (sym p.0.1) c.requires.some in
    subst (IsFirst c.in-Err-read_slots.fault) (image_goes_on blocks some p.0.0.0)
    (q (subst (λ es. AreEntries es blocks) (sym c.deref.ensures.value) p.1)))
    (checks_both _ _ _ _ _ _ _ _ (checks_counted _ _ _ g.met.D.Drive.counted _ _ _ _ c.in-Ok.ensures.checks) c.in-Ok-entry_blocks.ensures.checks)
    c.in-Err-read_slots.ensures.checks

pub returns-in-Ok-read_slots-clause-cached : goal.returns-in-Ok-read_slots-clause-cached
returns-in-Ok-read_slots-clause-cached g c =
    still_cached c.in-Ok-entry_blocks.entries.items c.entry_blocks.new.disk c.read_slots.new.disk c.in-Ok-read_slots.ensures.entries
    c.in-Ok-entry_blocks.ensures.cached
