use Rattle.std.proofs.Common.{arith, ◌<◌, ℕ, List, [], length, rules, ◌≡◌, sym, subst, ap, ◌∙◌}
use Rattle.std.specs.Prelude.{map}
use Rattle.std.proofs.lemmas.List.{length-map}
use Rattle.edi_unit.specs.View.{block_of}
use Rattle.edi_disjoint.specs.Found.{IsReach, variable_of}
use Rattle.edi_disjoint.specs.Apart.{nothing_in, blocks_in, targets_in}
use Rattle.edi_disjoint.specs.Open.{OpenUse, open_block, open_unit}
use Rattle.edi_disjoint.specs.Openly.{Adds, use_of, with_blocks, with_variables}
use Rattle.edi_disjoint.proofs.Using.{branch_adds, opened_calls}
use Rattle.edi_disjoint.proofs.Reaching.{as_many}
use Rattle.edi_disjoint.proofs.openly.branch_uses.Goals as goal

pub returns : goal.returns
returns c =
    let ns : List ℕ = c.deref.result.now in
    let first : c.in_ok-reached.reached.items ≡ ns = search rules in
    let seen : c.take_targets.new.self.seen.items ≡ c.deref-2.result.now = search rules in
    let again : c.deref-3.result.now ≡ ns = search rules in
    let none : map use_of c.new-list.result.items ≡ [] = search rules in
    record {
      exact = λ unit ok w t without is.
          let low : c.args.block < length c.args.texts.now = omega (arith, is.0, as_many (open_unit unit) c.args.texts.now t, length-map unit.blocks open_block) in
          subst (Adds unit c.args.block [])
          (sym (c.in_ok-put_blocks.ensures.exact
          ∙ ap (with_blocks (map block_of c.args.whole.now.blocks.now) c.args.block c.args.texts.now (map use_of c.put_variables.new.list.items)) again
          ∙ ap (λ xs. with_blocks (map block_of c.args.whole.now.blocks.now) c.args.block c.args.texts.now xs ns)
          (c.in_ok-put_variables.ensures.exact
          ∙ ap (λ xs. with_variables c.args.block xs (map variable_of c.deref-2.result.now)) none
          ∙ ap (λ vs. with_variables c.args.block [] (map variable_of vs)) (sym seen))
          ∙ ap (λ bs. with_blocks bs c.args.block c.args.texts.now (with_variables c.args.block [] (map variable_of c.take_targets.new.self.seen.items)) ns) w.blocks))
          (branch_adds unit ok c.args.block is c.args.texts.now t c.args.values.now without ns
          (subst (IsReach (open_unit unit) c.args.block) first (c.in_ok-reached.ensures.exact (open_unit unit) (opened_calls unit ok) t low))
          (map variable_of c.args.whole.now.targets.now) w.targets c.take_targets.new.self
          (c.in_ok-take_targets.ensures.exact
          ∙ ap (targets_in (map variable_of c.args.whole.now.targets.now))
          (c.in_ok-take_blocks.ensures.exact
          ∙ ap (blocks_in _ _ c.args.block c.args.values.now ns) c.new-found.ensures.exact
          ∙ ap (λ bs. blocks_in bs c.args.whole.now.program c.args.block c.args.values.now ns nothing_in) w.blocks
          ∙ ap (λ n. blocks_in unit.blocks n c.args.block c.args.values.now ns nothing_in) w.program))
          []);
    }
