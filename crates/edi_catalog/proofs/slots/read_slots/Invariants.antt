use Rattle.std.proofs.Common.{◌≡◌, false, true, length}
use Rattle.std.specs.List.{list_all}
use Rattle.edi_disk.specs.Shown.{drive_of}
use Rattle.edi_image.specs.Stored.{is_stored}
use Rattle.edi_catalog.specs.Mounted.{AreEntries}
use Rattle.edi_catalog.specs.Reads.{Checks, EntriesStay}
use Rattle.edi_catalog.specs.Taken.{IsUseOf}
use Rattle.edi_image.proofs.SlotRules.{Progress}
use Rattle.edi_catalog.proofs.KeptEntries.{SaySoFar}
use Rattle.edi_catalog.proofs.slots.read_slots.Given as goal

abbrev pub invariant-loop-slot : goal.invariant-loop-slot
invariant-loop-slot g l = record {
  checks : Checks g.D.Drive.contents g.D.Drive.count g.D.Drive.faults false l.initial.disk l.disk
      (λ blocks. length blocks ≡ l.count → AreEntries l.entries blocks → Progress blocks l.slot l.used.items l.files.items);
  entries : EntriesStay l.initial.disk l.disk;
  many : length l.files.items ≡ l.slot;
  says : SaySoFar l.count l.entries l.files.items l.slot;
  taken : IsUseOf l.used.items l.files.items;
  stored : list_all (is_stored (g.D.Drive.count (drive_of l.initial.disk))) l.files.items ≡ true;
}
