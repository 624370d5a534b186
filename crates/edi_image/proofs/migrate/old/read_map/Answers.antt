use Rattle.std.proofs.Common.{◌≡◌, ◌∙◌, ◌++◌, ◌∷◌, [], rules, ap, sym, eq-eqb, length, arith}
use Rattle.edi_image.specs.Image.{numbers_in}
use Rattle.edi_image.specs.Rules.{is_in}
use Rattle.edi_image.proofs.MapRules.{length-numbers_in}
use Rattle.edi_image.proofs.migrate.OldRules.{map_goes_on_from, old_map_takes}
use Rattle.edi_image.proofs.migrate.old.read_map.Goals as goal

pub returns-in-Ok-clause-pages : goal.returns-in-Ok-clause-pages
returns-in-Ok-clause-pages c =
    ap length (c.read_numbers.ensures.numbers ∙ ap (λ xs. xs ++ numbers_in c.block_in-block.result.now c.args.count) c.new-pages.ensures)
    ∙ length-numbers_in c.block_in-block.result.now c.args.count (omega arith)

pub returns-in-Ok-clause-finds : goal.returns-in-Ok-clause-finds
returns-in-Ok-clause-finds c =
    let numbers : c.read_numbers.new.into.items ≡ numbers_in c.block_in-block.result.now c.args.count =
    c.read_numbers.ensures.numbers ∙ ap (λ xs. xs ++ numbers_in c.block_in-block.result.now c.args.count) c.new-pages.ensures in
    let used : c.push.new.self.items ≡ c.args.used.now.items ++ c.args.map ∷ [] = search rules in (
      map_goes_on_from 5 c.args.used.now.items c.push.new.self.items c.args.blocks.now c.args.slot c.args.count c.args.map _
          c.block_in-block.result.now c.as_slice.result.now
          (ap (is_in c.args.map) (sym c.deref.ensures.value) ∙ sym c.contains.ensures.value ∙ c.if-contains.false)
          used (sym c.block_in-block.ensures)
          (eq-eqb _ _ (sym c.short_at.ensures ∙ sym c.from.ensures ∙ c.if-from-count.false))
          (c.as_slice.ensures.value ∙ numbers) (search rules)
          ∙ c.in-Ok.ensures.finds.0,
      old_map_takes c.args.used.now.items c.push.new.self.items c.check_pages.new.used.items c.args.blocks.now c.args.slot c.args.count c.args.map
          c.block_in-block.result.now c.as_slice.result.now c.read_numbers.new.into.items used (sym c.block_in-block.ensures)
          (c.as_slice.ensures.value ∙ numbers) c.as_slice.ensures.value c.in-Ok.ensures.finds.1,
    )
