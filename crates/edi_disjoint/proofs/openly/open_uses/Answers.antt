use Rattle.std.proofs.Common.{rules, ◌≡◌, ◌<◌, [], length, map, ℕ, List, sym, subst, ap, ◌∙◌, arith}
use Rattle.std.proofs.lemmas.List.{length-map}
use Rattle.edi_unit.specs.Tree.{ProgramUnit}
use Rattle.edi_unit.specs.Need.{block_at}
use Rattle.edi_unit.specs.View.{block_of, unit_of}
use Rattle.edi_unit.specs.Lists.{list_items}
use Rattle.edi_disjoint.specs.Apart.{all_lent}
use Rattle.edi_disjoint.specs.Found.{AreTexts, Lists, variable_of}
use Rattle.edi_disjoint.specs.Footprints.{IsTarget}
use Rattle.edi_disjoint.specs.Open.{OpenUse, open_unit}
use Rattle.edi_disjoint.specs.Openly.{Adds, AreBefore, AreValues, use_of}
use Rattle.edi_disjoint.proofs.Gathered.{read_block}
use Rattle.edi_disjoint.proofs.Lent.{lent_targets}
use Rattle.edi_disjoint.proofs.Reaching.{as_many}
use Rattle.edi_disjoint.proofs.Using.{SoFar, begins, one_more, ends}
use Rattle.edi_disjoint.proofs.openly.open_uses.Goals as goal

pub loop-block-init : goal.loop-block-init
loop-block-init c =
    let none : map use_of c.new-list.result.items ≡ [] = search rules in
    record { number = search rules; list = λ ok few. subst (SoFar (unit_of c.args.unit.now) 0) (sym none) (begins (unit_of c.args.unit.now)) }

pub loop-block-preserved : goal.loop-block-preserved
loop-block-preserved c =
    let unit : ProgramUnit = unit_of c.args.unit.now in
    let i : ℕ = c.loop-block.block-index in
    let old : List OpenUse = map use_of c.loop-block.list.items in
    let new : List OpenUse = map use_of c.put_block.new.list.items in
    let all : AreTexts unit c.in_ok-all.all.items = c.in_ok-all.ensures.exact in
    let here : AreTexts (open_unit unit) c.in_ok-texts.texts.items = c.in_ok-texts.ensures.exact in
    let stands : c.in_ok-texts.texts.items ≡ c.deref-in-loop-block.result.now = search rules in
    let first : c.deref-3.result.now ≡ c.deref-in-loop-block.result.now = search rules in
    let rest : c.in_ok-values.values.items ≡ c.deref-in-loop-block-2.result.now = search rules in
    let without : AreValues c.deref-in-loop-block.result.now c.deref-in-loop-block-2.result.now =
    subst (λ xs. AreValues xs c.deref-in-loop-block-2.result.now) first (subst (AreValues c.deref-3.result.now) rest c.in_ok-values.ensures.exact) in
    let lent : map variable_of c.in_ok-lent.lent.items ≡ all_lent unit.blocks 0 [] c.in_ok-all.all.items = search rules in
    let kept : map variable_of c.deref-2.result.now ≡ all_lent unit.blocks 0 [] c.in_ok-all.all.items = search rules in
    let block : block_of c.block-item.result ≡ block_at unit.blocks i = read_block c.items-block-items.result.now i c.block-item.result c.loop-block-test.true c.block-item.is ∙ ap (λ bs. block_at (map block_of bs) i) c.items-block-items.ensures.exact in
    let many : length c.in_ok-all.all.items ≡ length unit.blocks = as_many unit c.in_ok-all.all.items all in
    let blocks : length unit.blocks ≡ length c.items-block-items.result.now = length-map (list_items c.args.unit.now.blocks) block_of ∙ sym (ap length c.items-block-items.ensures.exact) in
    record {
      number = search rules;
      list = λ ok few.
          let number : c.loop-block.number ≡ i = c.loop-block.invariant.number (omega (arith, c.loop-block-test.true, few, blocks)) in
          let so : SoFar unit i old = c.loop-block.invariant.list ok few in
          one_more unit i old new so
          (subst (λ k. Adds unit k old new) number
          (c.in_ok-put_block.ensures.exact unit ok
          (record {
            blocks = ap (map block_of) c.items-2.ensures.exact;
            program = search rules;
            targets = subst (λ xs. Lists xs (IsTarget unit)) (sym kept) (lent_targets unit c.in_ok-all.all.items all (omega (arith, many, few)));
          })
          (subst (AreTexts (open_unit unit)) stands here) without (block ∙ ap (block_at unit.blocks) (sym number))
          (subst (λ k. k < length unit.blocks) (sym number) (omega (arith, c.loop-block-test.true, blocks)))
          (subst (λ k. AreBefore k old) (sym number) so.low)));
    }

pub returns : goal.returns
returns c =
    let unit : ProgramUnit = unit_of c.args.unit.now in
    let blocks : length unit.blocks ≡ length c.items-block-items.result.now = length-map (list_items c.args.unit.now.blocks) block_of ∙ sym (ap length c.items-block-items.ensures.exact) in
    record {
      exact = λ ok few.
          ends unit c.loop-block.block-index (map use_of c.loop-block.list.items) (omega (arith, c.loop-block-test.false, c.loop-block.auto.block-index-end, blocks))
          (c.loop-block.invariant.list ok few);
    }
