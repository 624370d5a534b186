use Rattle.std.proofs.Common.{rules, ◌≡◌, ◌<◌, ◌+◌, length, sym, subst, ◌∙◌}
use Rattle.std.specs.Prelude.{slice_index}
use Rattle.std.specs.Int.{w16}
use Rattle.std.proofs.lemmas.Int.{to_z-of_z}
use Rattle.edi_unit.specs.Need.{block_at, outer, slots}
use Rattle.edi_debug.proofs.Looks.{home_is_there, looked_through, looked_at}
use Rattle.edi_debug.proofs.running.ordinal.Goals as goal

pub returns-then-is_place : goal.returns-then-is_place
returns-then-is_place c = record {
  exact = λ unit bound mapped fits.
      let home : c.outer-home.result ≡ outer unit.blocks c.args.block c.args.slot.levels = c.outer-home.ensures.exact unit mapped in
      let there = home_is_there unit c.args.block c.args.slot fits in
      let inside : c.outer-home.result < length unit.blocks = subst (λ n. n < length unit.blocks) (sym home) there.0 in
      let within : c.args.slot.variable < length (slots (block_at unit.blocks c.outer-home.result)) =
      subst (λ n. c.args.slot.variable < length (slots (block_at unit.blocks n))) (sym home) there.1 in
      to_z-of_z w16 c.cast_signed.result (search rules) ∙ c.cast_signed.ensures
      ∙ looked_through unit bound c.args.kernel.now.store c.args.base c.args.block c.args.slot c.outer-home.result c.level-frame.result
      c.offset-offset.result c.word_at-word.result home c.level-frame.ensures.exact (c.offset-offset.ensures.exact unit mapped inside within)
      (c.word_at-word.ensures.exact ∙ (λ i. slice_index c.args.kernel.now.store (c.from.ensures i + c.from-2.ensures i))) c.word.result c.word.ensures.exact
      (sym c.if-is_place.true ∙ c.is_place.ensures.exact unit mapped inside);
}

pub returns-else-is_place : goal.returns-else-is_place
returns-else-is_place c = record {
  exact = λ unit bound mapped fits.
      let home : c.outer-home.result ≡ outer unit.blocks c.args.block c.args.slot.levels = c.outer-home.ensures.exact unit mapped in
      let there = home_is_there unit c.args.block c.args.slot fits in
      let inside : c.outer-home.result < length unit.blocks = subst (λ n. n < length unit.blocks) (sym home) there.0 in
      let within : c.args.slot.variable < length (slots (block_at unit.blocks c.outer-home.result)) =
      subst (λ n. c.args.slot.variable < length (slots (block_at unit.blocks n))) (sym home) there.1 in
      to_z-of_z w16 c.cast_signed-else-is_place.result (search rules) ∙ c.cast_signed-else-is_place.ensures
      ∙ looked_at unit bound c.args.kernel.now.store c.args.base c.args.block c.args.slot c.outer-home.result c.level-frame.result
      c.offset-offset.result c.word_at-word.result home c.level-frame.ensures.exact (c.offset-offset.ensures.exact unit mapped inside within)
      (c.word_at-word.ensures.exact ∙ (λ i. slice_index c.args.kernel.now.store (c.from.ensures i + c.from-2.ensures i)))
      (sym c.if-is_place.false ∙ c.is_place.ensures.exact unit mapped inside);
}
