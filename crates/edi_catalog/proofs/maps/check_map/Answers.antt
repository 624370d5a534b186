use Rattle.std.proofs.Common.{◌≡◌, ◌∙◌, ◌++◌, rules, ap, sym, subst, eq-eqb, ne_eqb, length, arith}
use Rattle.edi_image.specs.Rules.{is_in}
use Rattle.edi_image.specs.Entries.{block_at}
use Rattle.edi_catalog.proofs.Sequence.{checks_none, checks_map, checks_with, checks_as}
use Rattle.edi_image.proofs.MapRules.{map_again, map_wrong, map_found, numbers_behind, length-numbers_in, length_behind, on_ok}
use Rattle.std.specs.Prelude.{IfErr, nat_le}
use Rattle.edi_catalog.specs.Counted.{IsInRange}
use Rattle.edi_catalog.proofs.Taken.{drive_in_range, map_takes, pages_in_range}
use Rattle.edi_catalog.proofs.StillCached.{entries_stay}
use Rattle.std.proofs.lemmas.Bool.{and_parts, leb-true}
use Rattle.edi_catalog.proofs.maps.check_map.Goals as goal

pub returns-then-contains-clause-checks : goal.returns-then-contains-clause-checks
returns-then-contains-clause-checks g c =
    checks_none _ _ _ _ _ c.requires.works
    (λ blocks. map_again c.args.used.now.items blocks c.args.slot c.args.count c.args.map
    (ap (is_in c.args.map) (sym c.deref.ensures.value) ∙ sym c.contains.ensures.value ∙ c.if-contains.true))

pub returns-then-from-count-clause-checks : goal.returns-then-from-count-clause-checks
returns-then-from-count-clause-checks g c =
    checks_map _ _ _ _ _ _ _ _
    (λ blocks is. map_wrong c.args.used.now.items blocks c.args.slot c.args.count c.args.map c.in-Ok.bytes
    (ap (is_in c.args.map) (sym c.deref.ensures.value) ∙ sym c.contains.ensures.value ∙ c.if-contains.false)
    (subst (λ m. block_at blocks m ≡ c.in-Ok.bytes) c.from.ensures is)
    (ne_eqb _ _ (λ e. c.if-from-count.true (c.from-2.ensures ∙ c.short_at.ensures ∙ e))))
    c.in-Ok.ensures.checks

pub returns-clause-checks : goal.returns-clause-checks
returns-clause-checks g c =
    checks_as _ _ _ _ _ _ _ c.check_pages.ensures.alone
    (checks_map _ _ _ _ _ _ _ _
    (λ blocks p. map_found c.check_pages.result c.args.used.now.items c.push.new.self.items c.check_pages.new.used.items
    c.args.into.now.items c.read_numbers.new.into.items blocks c.args.slot c.args.count c.args.map c.in-Ok.bytes
    c.split_at.result.1.now c.blocks-blocks.result
    (ap (is_in c.args.map) (sym c.deref.ensures.value) ∙ sym c.contains.ensures.value ∙ c.if-contains.false)
    (search rules)
    (eq-eqb _ _ (sym c.short_at.ensures ∙ sym c.from-2.ensures ∙ c.if-from-count.false))
    (numbers_behind _ _ _ _ _ _ c.len-before.ensures.value c.as_slice.ensures.value c.read_numbers.ensures.numbers c.split_at.ensures.back)
    (c.read_numbers.ensures.numbers ∙ ap (λ ns. c.args.into.now.items ++ ns)
    (sym (numbers_behind _ _ _ _ _ _ c.len-before.ensures.value c.as_slice.ensures.value c.read_numbers.ensures.numbers c.split_at.ensures.back)))
    c.check_pages.ensures.finds
    (subst (λ m. block_at blocks m ≡ c.in-Ok.bytes) c.from.ensures p.0)
    p.1)
    (checks_with _ _ _ _ _ _ _ (λ blocks. length blocks ≡ c.blocks-blocks.result) c.blocks-blocks.ensures.counts c.in-Ok.ensures.checks))

pub returns-clause-pages : goal.returns-clause-pages
returns-clause-pages g c = on_ok c.check_pages.result _
    (length_behind c.args.into.now.items c.read_numbers.new.into.items _ c.args.count c.read_numbers.ensures.numbers
    (length-numbers_in c.in-Ok.bytes c.args.count (omega arith)))

pub returns-clause-taken : goal.returns-clause-taken
returns-clause-taken g c =
    map_takes c.check_pages.result c.args.map c.blocks-blocks.result c.args.slot c.args.used.now.items c.push.new.self.items c.check_pages.new.used.items
    c.args.into.now.items c.read_numbers.new.into.items c.split_at.result.1.now
    (ap (is_in c.args.map) (sym c.deref.ensures.value) ∙ sym c.contains.ensures.value ∙ c.if-contains.false)
    (search rules)
    (c.read_numbers.ensures.numbers ∙ ap (λ ns. c.args.into.now.items ++ ns)
    (sym (numbers_behind _ _ _ _ _ _ c.len-before.ensures.value c.as_slice.ensures.value c.read_numbers.ensures.numbers c.split_at.ensures.back)))
    c.check_pages.ensures.finds

pub returns-clause-faults : goal.returns-clause-faults
returns-clause-faults g c =
    subst (λ n. IfErr c.check_pages.result (IsInRange n)) c.blocks-blocks.ensures.count
    (pages_in_range c.check_pages.result c.push.new.self.items c.blocks-blocks.result c.args.slot c.split_at.result.1.now
    (λ _. c.check_pages.new.used.items ≡ c.push.new.self.items ++ c.split_at.result.1.now) c.check_pages.ensures.finds)

pub returns-in-Err-clause-faults : goal.returns-in-Err-clause-faults
returns-in-Err-clause-faults g c = drive_in_range _ c.in-Err.fault c.in-Err.ensures.fault

pub returns-clause-entries : goal.returns-clause-entries
returns-clause-entries g c = on_ok c.check_pages.result _
    (entries_stay c.from.result c.args.map c.args.disk.now c.block.new.disk c.from.ensures
    (leb-true 33 c.args.map (and_parts (nat_le 33 c.args.map) _ c.requires.on_drive).0) c.in-Ok.ensures.others)
