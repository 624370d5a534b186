use Rattle.std.proofs.Common.{rules, ◌≡◌, [], ◌∷◌, ◌++◌, length, map, ℕ, suc, ◌+◌, List, sym, subst, ap, ◌∙◌, arith}
use Rattle.std.proofs.lemmas.List.{length-map}
use Rattle.std.specs.Global.{Vec}
use Rattle.std.specs.Bool.{Decides}
use Rattle.edi_unit.specs.Tree.{ProgramUnit}
use Rattle.edi_unit.specs.Need.{block_at}
use Rattle.edi_unit.specs.View.{block_of, unit_of}
use Rattle.edi_unit.specs.Lists.{list_items}
use Rattle.edi_disjoint.specs.declared.mentions.Mention.{Mention}
use Rattle.edi_disjoint.specs.Mentions.{in_acts}
use Rattle.edi_disjoint.specs.Apart.{all_lent, any_names}
use Rattle.edi_disjoint.specs.Found.{AreTexts, IsFootprint, Lists, variable_of}
use Rattle.edi_disjoint.specs.Footprints.{IsBranch}
use Rattle.edi_disjoint.specs.Footprints.{IsTarget, NamesProgram}
use Rattle.edi_disjoint.proofs.Enclosing.{naming_decides}
use Rattle.edi_disjoint.proofs.Lent.{lent_targets}
use Rattle.edi_disjoint.proofs.Gathered.{Gathered, one_more, read_block}
use Rattle.edi_disjoint.proofs.searching.footprints.Goals as goal

-- as many texts as blocks
as_many : (unit : ProgramUnit) (texts : List (Vec Mention)) → AreTexts unit texts → length texts ≡ length unit.blocks
as_many unit texts h = sym (length-map texts (λ t. t.items)) ∙ ap length h ∙ length-map unit.blocks (λ b. in_acts b.body)

one : (n : ℕ) → suc n ≡ n + 1
one n = omega arith

pub loop-block-preserved : goal.loop-block-preserved
loop-block-preserved c =
    let unit : ProgramUnit = unit_of c.args.unit.now in
    let i : ℕ = c.loop-block.block-index in
    let here : AreTexts unit c.in_ok-texts.texts.items = c.in_ok-texts.ensures.exact in
    let items : c.push.new.self.items ≡ c.loop-block.branches.items ++ c.in_ok-branch_footprint.field-0 ∷ [] = search rules in
    let lent : map variable_of c.in_ok-lent.lent.items ≡ all_lent unit.blocks 0 [] c.in_ok-texts.texts.items = search rules in
    let block : block_of c.block-item.result ≡ block_at unit.blocks i = read_block c.items-block-items.result.now i c.block-item.result c.loop-block-test.true c.block-item.is ∙ ap (λ bs. block_at (map block_of bs) i) c.items-block-items.ensures.exact in
    let many : length c.in_ok-texts.texts.items ≡ length unit.blocks = as_many unit c.in_ok-texts.texts.items here in
    let stands : c.in_ok-texts.texts.items ≡ c.deref-in-loop-block.result.now = search rules in
    let kept : map variable_of c.deref-2.result.now ≡ all_lent unit.blocks 0 [] c.in_ok-texts.texts.items = search rules in
    let count : length c.loop-block.branches.items ≡ i = c.loop-block.invariant.count in
    record {
      count = search rules;
      number = search rules;
      each = λ ok few.
          subst (Gathered unit (i + 1)) (sym items)
          (subst (λ n. Gathered unit n (c.loop-block.branches.items ++ c.in_ok-branch_footprint.field-0 ∷ [])) (one i)
          (one_more unit i c.loop-block.branches.items c.in_ok-branch_footprint.field-0 count (c.loop-block.invariant.each ok few)
          (λ is. let number : c.loop-block.number ≡ i = c.loop-block.invariant.number (omega (arith, is.0, few)) in
          subst (λ k. IsFootprint unit k c.in_ok-branch_footprint.field-0) number
          (c.in_ok-branch_footprint.ensures.exact unit ok
          (record {
            blocks = ap (map block_of) c.items-2.ensures.exact;
            program = search rules;
            targets = subst (λ xs. Lists xs (IsTarget unit)) (sym kept) (lent_targets unit c.in_ok-texts.texts.items here (omega (arith, many, few)));
          })
          (subst (AreTexts unit) stands here) (subst (IsBranch unit) (sym number) is) (block ∙ ap (block_at unit.blocks) (sym number))))));
    }

pub returns : goal.returns
returns c =
    let unit : ProgramUnit = unit_of c.args.unit.now in
    let here : AreTexts unit c.in_ok-texts.texts.items = c.in_ok-texts.ensures.exact in
    let named : c.names_program-named.result ≡ any_names unit.program c.in_ok-texts.texts.items = search rules in
    let many : length unit.blocks ≡ length c.items-block-items.result.now = length-map (list_items c.args.unit.now.blocks) block_of ∙ sym (ap length c.items-block-items.ensures.exact) in
    record {
      exact = λ ok few. record {
        named = subst (λ b. Decides b (NamesProgram unit)) (sym named) (naming_decides unit c.in_ok-texts.texts.items here);
        branches = λ b is. c.loop-block.invariant.each ok few b (omega (arith, is.0, c.loop-block-test.false, many)) is;
      };
    }
