use Rattle.std.proofs.Common.{◌≡◌, ◌∙◌, true, length, refl, sym, ap, subst, arith}
use Rattle.std.specs.List.{list_all}
use Rattle.edi_disk.specs.Shown.{drive_of}
use Rattle.edi_image.specs.Stored.{is_fit, is_stored}
use Rattle.edi_image.proofs.SlotRules.{entry_fits, progress_from, progress_on, progress_fails, progress_ends}
use Rattle.edi_catalog.specs.Mounted.{entry_kept}
use Rattle.edi_catalog.specs.Counted.{IsInRange}
use Rattle.edi_catalog.proofs.KeptEntries.{said_is, says_more}
use Rattle.edi_catalog.proofs.Sequence.{checks_none, checks_then, checks_map, checks_with}
use Rattle.edi_catalog.proofs.StillCached.{entries_then}
use Rattle.edi_catalog.proofs.Taken.{use_begins}
use Rattle.edi_catalog.proofs.slots.read_slots.Goals as goal

pub loop-slot-init : goal.loop-slot-init
loop-slot-init g c = record {
  checks = checks_none _ _ _ _ _ c.requires.works (λ blocks size are. progress_from blocks _ _ c.new-used.ensures.items c.new-files.ensures.items);
  entries = λ m h bytes e. e;
  many = omega (arith, ap length c.new-files.ensures.items);
  says = λ slot h. absurd (omega arith);
  taken = use_begins _ _ c.new-used.ensures.items c.new-files.ensures.items;
  stored = ap (list_all (is_stored (g.D.Drive.count (drive_of c.args.disk.now)))) c.new-files.ensures.items;
}

pub read_slot-requires-clause-fits : goal.read_slot-requires-clause-fits
read_slot-requires-clause-fits g c =
    subst (λ n. is_fit n c.read_entry-said.result ≡ true) (c.blocks-count.ensures.count ∙ sym c.loop-slot.invariant.checks.count_stays)
    (ap (is_fit c.blocks-count.result) c.read_entry-said.ensures ∙ entry_fits c.blocks-count.result (entry_kept c.args.entries.now c.loop-slot.slot))

pub loop-slot-preserved : goal.loop-slot-preserved
loop-slot-preserved g c = record {
  checks =
      checks_then _ _ _ _ _ _ _ _ _ _
      (λ blocks p q size are. progress_on blocks c.loop-slot.slot c.loop-slot.slot c.loop-slot.used.items c.read_slot.new.used.items
      c.loop-slot.files.items c.read_slot.new.files.items c.loop-slot-test.true refl (p size are)
      (q (said_is c.args.entries.now blocks c.blocks-count.result c.loop-slot.slot c.loop-slot-test.true size are ∙ sym c.read_entry-said.ensures)))
      c.loop-slot.invariant.checks c.in-Ok.ensures.checks;
  entries = entries_then c.args.disk.now c.loop-slot.disk c.read_slot.new.disk c.loop-slot.invariant.entries c.in-Ok.ensures.entries;
  many = omega (arith, c.loop-slot.invariant.many, c.in-Ok.ensures.many);
  says =
      (let file = c.in-Ok.ensures.says in
      says_more c.blocks-count.result c.args.entries.now c.loop-slot.files.items c.read_slot.new.files.items file.0 c.loop-slot.slot c.loop-slot.slot
      c.read_entry-said.result file.1 c.loop-slot.invariant.many refl c.read_entry-said.ensures file.2 c.loop-slot.invariant.says);
  taken = c.in-Ok.ensures.taken c.loop-slot.invariant.taken;
  stored =
      subst (λ n. list_all (is_stored n) c.read_slot.new.files.items ≡ true) c.loop-slot.invariant.checks.count_stays
      (c.in-Ok.ensures.stored
      (subst (λ n. list_all (is_stored n) c.loop-slot.files.items ≡ true) (sym c.loop-slot.invariant.checks.count_stays)
      c.loop-slot.invariant.stored));
}

pub returns-in-Err-clause-checks : goal.returns-in-Err-clause-checks
returns-in-Err-clause-checks g c =
    checks_then _ _ _ _ _ _ _ _ _ _
    (λ blocks p q are. progress_fails blocks c.loop-slot.slot c.loop-slot.slot c.loop-slot.used.items c.loop-slot.files.items c.in-Err.fault
    c.loop-slot-test.true refl (p.0 p.1 are)
    (q (said_is c.args.entries.now blocks c.blocks-count.result c.loop-slot.slot c.loop-slot-test.true p.1 are ∙ sym c.read_entry-said.ensures)))
    (checks_with _ _ _ _ _ _ _ (λ blocks. length blocks ≡ c.blocks-count.result) c.blocks-count.ensures.counts c.loop-slot.invariant.checks)
    c.in-Err.ensures.checks

pub returns-clause-checks : goal.returns-clause-checks
returns-clause-checks g c =
    checks_map _ _ _ _ _ _ _ _
    (λ blocks p are. progress_ends blocks c.loop-slot.slot c.loop-slot.used.items c.loop-slot.files.items (omega arith) (p.0 p.1 are))
    (checks_with _ _ _ _ _ _ _ (λ blocks. length blocks ≡ c.blocks-count.result) c.blocks-count.ensures.counts c.loop-slot.invariant.checks)

pub returns-clause-apart : goal.returns-clause-apart
returns-clause-apart g c = c.loop-slot.invariant.taken.different

pub returns-in-Err-clause-faults : goal.returns-in-Err-clause-faults
returns-in-Err-clause-faults g c = subst (λ n. IsInRange n c.in-Err.fault) c.loop-slot.invariant.checks.count_stays c.in-Err.ensures.faults
