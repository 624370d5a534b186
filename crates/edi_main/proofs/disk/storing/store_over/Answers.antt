use Rattle.std.proofs.Common.{◌≡◌, ◌∙◌, ◌≤◌, length, Some, sym, subst, arith, rules}
use Rattle.edi_told.specs.Told.{WhereTold}
use Rattle.edi_calls.specs.State.{blocks_of}
use Rattle.edi_disk.specs.Shown.{drive_of}
use Rattle.edi_image.specs.Image.{slots_of}
use Rattle.edi_catalog.specs.Mounted.{disk_of}
use Rattle.edi_catalog.specs.Changes.{Untouched}
use Rattle.edi_catalog.specs.InSlots.{SlotsAnswer, free_in}
use Rattle.edi_catalog.specs.Refusing.{no_room}
use Rattle.edi_catalog.specs.SlotsStored.{slots_stored}
use Rattle.edi_catalog.specs.declared.ends.CatEnd.TheVariants as cat
use Rattle.edi_main.specs.disk.OnDrive.{StoresOver}
use Rattle.edi_statuses.proofs.Told.{told_so}
use Rattle.edi_main.proofs.disk.Over.{Stores, counts_stay, if_so, other_answer, protection, released_then, stored_over, told_both}
use Rattle.edi_main.proofs.disk.storing.store_over.Goals as goal

pub returns-then-stands-clause-leaves : goal.returns-then-stands-clause-leaves
returns-then-stands-clause-leaves g c =
    let kind = c.kind_of_bytes-kind.result in
    let title = c.args.title.now in
    let bytes = c.args.bytes.now in
    let r = c.store-answer.result in
    let stores = told_both _ _ _ _ (Stores r title kind bytes) (λ x y a l. record { answers = a; leaves = l })
    c.store-answer.ensures.exact c.store-answer.ensures.changes.leaves in
    let many = counts_stay _ _ _ _ (g.met.D.Drive.counted (drive_of (disk_of c.args.catalog.now)))
    (g.met.D.Drive.counted (drive_of (disk_of c.store-answer.new.self)))
    c.store-answer.ensures.changes.count_stays _ stores in
    told_both _ _ _ _ (StoresOver r title bytes)
    (λ x y n s. stored_over title kind bytes c.requires.most c.kind_of_bytes-kind.ensures.exact r x y n
    (other_answer r (sym c.stands.ensures.exact ∙ c.if-stands.true)) s)
    many stores

pub returns-in-Ok-clause-leaves : goal.returns-in-Ok-clause-leaves
returns-in-Ok-clause-leaves g c =
    let first = c.store-answer.new.self in
    let title = c.args.title.now in
    let bytes = c.args.bytes.now in
    let is = protection c.store-answer.result (sym c.stands.ensures.exact ∙ c.if-stands.false) in
    let same : first ≡ c.args.catalog.now = subst (λ r. Untouched r c.args.catalog.now first) is c.store-answer.ensures.changes.untouched in
    let refused = subst (λ r. WhereTold (g.D.Drive.contents (drive_of (disk_of c.args.catalog.now))) (g.D.Drive.contents (drive_of (disk_of first)))
    (λ old new. SlotsAnswer r (no_room title (length bytes) (free_in old) (slots_of old)) (slots_of old)
    (slots_stored title c.kind_of_bytes-kind.result bytes (slots_of old)) (slots_of new)))
    is c.store-answer.ensures.exact in
    let here = subst (λ k. WhereTold (g.D.Drive.contents (drive_of (disk_of k))) (g.D.Drive.contents (drive_of (disk_of first)))
    (λ old new. (no_room title (length bytes) (free_in old) (slots_of old) ≡ Some cat.Protected) × (slots_of new ≡ slots_of old))) (sym same) refused in
    subst (λ k. WhereTold (g.D.Drive.contents (drive_of (disk_of k))) (g.D.Drive.contents (drive_of (disk_of c.store.new.self)))
    (StoresOver c.store.result title bytes)) same
    (released_then title c.kind_of_bytes-kind.result bytes c.requires.most c.kind_of_bytes-kind.ensures.exact c.store.result
    (g.D.Drive.contents (drive_of (disk_of first))) (g.D.Drive.contents (drive_of (disk_of c.release.new.self)))
    (g.D.Drive.contents (drive_of (disk_of c.store.new.self))) _ _ _
    (g.met.D.Drive.counted (drive_of (disk_of first))) (g.met.D.Drive.counted (drive_of (disk_of c.release.new.self)))
    (g.met.D.Drive.counted (drive_of (disk_of c.store.new.self))) c.release.ensures.changes.count_stays c.store.ensures.changes.count_stays
    (told_so _ (λ old new. no_room title (length bytes) (free_in old) (slots_of old) ≡ Some cat.Protected) _ _ (λ x y h. h.0) here)
    (if_so _ _ (λ blocks. blocks_of (length bytes) ≤ free_in blocks)
    (λ x h. omega (arith, h, c.if-free-wanted.false, c.blocks_of-wanted.ensures.exact)) c.free-free.ensures.in_slots)
    c.in-Ok.ensures.changes.leaves
    (told_both _ _ _ _ (Stores c.store.result title c.kind_of_bytes-kind.result bytes) (λ x y a l. record { answers = a; leaves = l })
    c.store.ensures.exact c.store.ensures.changes.leaves))

pub returns-in-Ok-clause-keeps : goal.returns-in-Ok-clause-keeps
returns-in-Ok-clause-keeps g c = record {
  same_reference = search rules;
  same_room = search rules;
  counts = record {
    size = c.store.ensures.changes.count_stays ∙ (c.release.ensures.changes.count_stays ∙ c.store-answer.ensures.changes.count_stays);
    later = search rules;
    cause = search rules;
  };
}
