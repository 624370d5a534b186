use Rattle.std.proofs.Common.{◌∙◌, ap, subst, sym}
use Rattle.edi_catalog.specs.Counted.{IsInRange}
use Rattle.edi_catalog.proofs.Taken.{one_taken, two_taken}
use Rattle.edi_calls.specs.State.{pages_of}
use Rattle.edi_image.specs.Records.{FileRecord}
use Rattle.edi_catalog.proofs.Sequence.{checks_map, checks_then}
use Rattle.edi_catalog.proofs.StillCached.{entries_then}
use Rattle.edi_image.proofs.FileRules.{first_map_fails, second_map_fails, both_maps}
use Rattle.edi_catalog.proofs.maps.read_maps.Goals as goal

pub returns-in-Err-clause-checks : goal.returns-in-Err-clause-checks
returns-in-Err-clause-checks g c =
    checks_map _ _ _ _ _ _ _ _
    (λ blocks h. first_map_fails c.in-Err.fault c.args.used.now.items blocks c.args.slot c.args.file.now c.file.inside.first_map
    c.file.inside.second_map c.pages_of-count.result c.min-first.result
    (ap (λ (r : FileRecord). r.maps) c.file.view_is)
    (c.pages_of-count.ensures.exact ∙ ap (λ (r : FileRecord). pages_of r.length) c.file.view_is) c.min-first.ensures h)
    c.in-Err.ensures.checks

pub returns-in-Err-check_map-clause-checks : goal.returns-in-Err-check_map-clause-checks
returns-in-Err-check_map-clause-checks g c =
    checks_then _ _ _ _ _ _ _ _ _ _
    (λ blocks a h. second_map_fails c.in-Err-check_map.fault c.args.used.now.items c.check_map.new.used.items blocks c.args.slot c.args.file.now
    c.file.inside.first_map c.in-Some.map c.file.inside.second_map c.pages_of-count.result c.min-first.result
    (ap (λ (r : FileRecord). r.maps) c.file.view_is) c.in-Some.is
    (c.pages_of-count.ensures.exact ∙ ap (λ (r : FileRecord). pages_of r.length) c.file.view_is) c.pages_of-count.ensures.most c.min-first.ensures a.0
    a.1.used h)
    c.in-Ok.ensures.checks c.in-Err-check_map.ensures.checks

pub returns-in-Ok-check_map-clause-checks : goal.returns-in-Ok-check_map-clause-checks
returns-in-Ok-check_map-clause-checks g c =
    checks_then _ _ _ _ _ _ _ _ _ _
    (λ blocks a b. both_maps c.args.used.now.items c.check_map.new.used.items c.check_map-in-Some.new.used.items c.new-into.result.items
    c.check_map.new.into.items c.check_map-in-Some.new.into.items blocks c.args.slot c.args.file.now
    c.file.inside.first_map c.in-Some.map c.file.inside.second_map c.pages_of-count.result c.min-first.result
    (ap (λ (r : FileRecord). r.maps) c.file.view_is) c.in-Some.is
    (c.pages_of-count.ensures.exact ∙ ap (λ (r : FileRecord). pages_of r.length) c.file.view_is) c.pages_of-count.ensures.most c.min-first.ensures
    c.new-into.ensures a b)
    c.in-Ok.ensures.checks c.in-Ok-check_map.ensures.checks

pub returns-in-None-clause-taken : goal.returns-in-None-clause-taken
returns-in-None-clause-taken g c =
    one_taken c.file.inside.first_map c.file.inside.second_map c.args.file.now.maps c.args.used.now.items c.check_map.new.used.items c.new-into.result.items
    c.check_map.new.into.items (sym (ap (λ (r : FileRecord). r.maps) c.file.view_is)) c.in-None.is c.new-into.ensures c.in-Ok.ensures.taken

pub returns-in-Ok-check_map-clause-taken : goal.returns-in-Ok-check_map-clause-taken
returns-in-Ok-check_map-clause-taken g c =
    two_taken c.file.inside.first_map c.in-Some.map c.file.inside.second_map c.args.file.now.maps c.args.used.now.items c.check_map.new.used.items
    c.check_map-in-Some.new.used.items c.new-into.result.items c.check_map.new.into.items c.check_map-in-Some.new.into.items
    (sym (ap (λ (r : FileRecord). r.maps) c.file.view_is)) c.in-Some.is c.new-into.ensures c.in-Ok.ensures.taken c.in-Ok-check_map.ensures.taken

pub returns-in-Err-check_map-clause-faults : goal.returns-in-Err-check_map-clause-faults
returns-in-Err-check_map-clause-faults g c = subst (λ n. IsInRange n c.in-Err-check_map.fault) c.in-Ok.ensures.checks.count_stays c.in-Err-check_map.ensures.faults

pub returns-in-Ok-check_map-clause-entries : goal.returns-in-Ok-check_map-clause-entries
returns-in-Ok-check_map-clause-entries g c =
    entries_then c.args.disk.now c.check_map.new.disk c.check_map-in-Some.new.disk c.in-Ok.ensures.entries c.in-Ok-check_map.ensures.entries
