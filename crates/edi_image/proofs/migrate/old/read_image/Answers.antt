use Rattle.std.proofs.Common.{◌≡◌, ◌<◌, ◌∙◌, arith}
use Rattle.std.specs.Prelude.{length}
use Rattle.edi_image.proofs.First.{finds_map}
use Rattle.edi_image.proofs.ImageRules.{made_finds}
use Rattle.edi_image.proofs.Versions.{rules_go_on, rules_fail}
use Rattle.edi_image.specs.migrate.OldImage.{old_entries_of, old_fault_of}
use Rattle.edi_image.proofs.migrate.OldMounts.{is_none, is_some, no_old_disk, old_rules_of}
use Rattle.edi_image.proofs.migrate.old.read_image.Goals as goal

pub returns-then-is_empty-clause-finds : goal.returns-then-is_empty-clause-finds
returns-then-is_empty-clause-finds c =
    let empty : length c.args.blocks.now ≡ 0 = is_none _ _ c.is_empty.ensures c.if-is_empty.true in
    made_finds c.free_slots.result _ _ _ c.free_slots.ensures (no_old_disk c.args.blocks.now empty).0
    (λ files made. made ∙ (no_old_disk c.args.blocks.now empty).1)

pub returns-in-Ok-clause-finds : goal.returns-in-Ok-clause-finds
returns-in-Ok-clause-finds c =
    let some : 0 < length c.args.blocks.now = omega (arith, c.in-Ok.ensures.least) in
    finds_map c.read_slots.result _ _ _ _
    (rules_go_on 1 5 c.args.blocks.now (old_entries_of c.args.blocks.now) (old_fault_of c.args.blocks.now) (old_rules_of c.args.blocks.now some)
    c.in-Ok.ensures.finds.0) (λ files made. made) c.read_slots.ensures.finds

pub returns-in-Err-clause-finds : goal.returns-in-Err-clause-finds
returns-in-Err-clause-finds c =
    let some : 0 < length c.args.blocks.now = is_some _ _ c.is_empty.ensures c.if-is_empty.false in
    rules_fail 1 5 c.args.blocks.now (old_entries_of c.args.blocks.now) (old_fault_of c.args.blocks.now) (old_rules_of c.args.blocks.now some)
    c.in-Err.fault c.in-Err.ensures.finds
