use Rattle.std.proofs.Common.{◌∙◌, Some, ap, sym, subst}
use Rattle.edi_image.specs.Finds.{IsFirst}
use Rattle.edi_image.specs.Image.{entry_rules}
use Rattle.edi_image.specs.Rules.{first_broken}
use Rattle.edi_image.specs.Stored.{titles_of}
use Rattle.edi_image.proofs.MapRules.{on_ok}
use Rattle.edi_image.proofs.SlotRules.{put_fine, put_finds, file_taken, file_broken}
use Rattle.edi_catalog.proofs.Taken.{memory_in_range, use_goes_on, use_stays}
use Rattle.edi_catalog.proofs.Sequence.{checks_as, checks_map, checks_none}
use Rattle.edi_catalog.proofs.KeptEntries.{free_found}
use Rattle.edi_catalog.proofs.slots.read_slot.Goals as goal

pub returns-in-Free-clause-checks : goal.returns-in-Free-clause-checks
returns-in-Free-clause-checks g c =
    checks_as _ _ _ _ _ _ _ (put_fine c.put_file.result _ c.put_file.ensures)
    (checks_none _ _ _ _ _ c.requires.works
    (λ blocks says. free_found c.put_file.result c.args.used.now.items c.args.files.now.items c.put_file.new.files.items blocks c.args.slot c.args.said
    c.in-Free.is says c.put_file.ensures))

pub returns-in-Free-clause-taken : goal.returns-in-Free-clause-taken
returns-in-Free-clause-taken g c = use_stays c.put_file.result _ c.args.used.now.items c.args.files.now.items c.put_file.new.files.items c.put_file.ensures

pub returns-in-Wrong-clause-checks : goal.returns-in-Wrong-clause-checks
returns-in-Wrong-clause-checks g c =
    checks_none _ _ _ _ _ c.requires.works
    (λ blocks says. ap (λ s. first_broken c.args.used.now.items (entry_rules 33 blocks c.args.slot (titles_of c.args.files.now.items) s)) (says ∙ c.in-Wrong.is))

pub returns-in-Ok-clause-checks : goal.returns-in-Ok-clause-checks
returns-in-Ok-clause-checks g c =
    checks_as _ _ _ _ _ _ _ (put_fine c.put_file-in-Ok.result _ c.put_file-in-Ok.ensures)
    (checks_map _ _ _ _ _ _ _ _
    (λ blocks q says. put_finds c.put_file-in-Ok.result _ _ _ c.put_file-in-Ok.ensures
    (sym (file_broken c.args.used.now.items c.args.files.now.items c.deref.result.now blocks c.args.slot c.args.said
    c.in-File.file c.deref.ensures.value says c.in-File.is) ∙ q.0)
    (λ f. file_taken c.args.used.now.items c.read_file.new.used.items c.args.files.now.items c.put_file-in-Ok.new.files.items
    c.deref.result.now blocks c.args.slot c.args.said c.in-File.file c.in-Ok.file c.deref.ensures.value says
    c.in-File.is q.1.0 q.1.1 f))
    c.in-Ok.ensures.checks)

pub returns-in-Ok-clause-taken : goal.returns-in-Ok-clause-taken
returns-in-Ok-clause-taken g c =
    use_goes_on c.put_file-in-Ok.result _ c.args.used.now.items c.read_file.new.used.items c.args.files.now.items c.put_file-in-Ok.new.files.items
    (Some c.in-Ok.file) c.put_file-in-Ok.ensures c.in-Ok.ensures.taken

pub returns-in-Ok-clause-faults : goal.returns-in-Ok-clause-faults
returns-in-Ok-clause-faults g c = memory_in_range c.put_file-in-Ok.result _ _ c.put_file-in-Ok.ensures

pub returns-in-Err-clause-checks : goal.returns-in-Err-clause-checks
returns-in-Err-clause-checks g c =
    checks_map _ _ _ _ _ _ _ _
    (λ blocks q says. subst (IsFirst c.in-Err.fault)
    (file_broken c.args.used.now.items c.args.files.now.items c.deref.result.now blocks c.args.slot c.args.said
    c.in-File.file c.deref.ensures.value says c.in-File.is)
    q)
    c.in-Err.ensures.checks

pub returns-in-Free-clause-entries : goal.returns-in-Free-clause-entries
returns-in-Free-clause-entries g c = on_ok c.put_file.result _ (λ m h bytes e. e)

pub returns-in-Ok-clause-entries : goal.returns-in-Ok-clause-entries
returns-in-Ok-clause-entries g c = on_ok c.put_file-in-Ok.result _ c.in-Ok.ensures.entries
