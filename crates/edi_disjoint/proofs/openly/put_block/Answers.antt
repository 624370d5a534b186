use Rattle.std.proofs.Common.{sym, ◌∙◌}
use Rattle.std.specs.Prelude.{map}
use Rattle.edi_unit.specs.View.{block_of}
use Rattle.edi_disjoint.specs.Openly.{use_of}
use Rattle.edi_disjoint.proofs.Using.{a_branch, no_branch_adds}
use Rattle.edi_disjoint.proofs.openly.put_block.Goals as goal

pub returns-then-not-is_branch : goal.returns-then-not-is_branch
returns-then-not-is_branch c = record {
  exact = λ unit ok w t v e l low. no_branch_adds unit c.args.number _ (sym c.is_branch.ensures.exact ∙ c.if-not-is_branch.true) e (map use_of c.args.list.now.items);
}

pub returns : goal.returns
returns c = record {
  exact = λ unit ok w t v e l low.
      c.in_ok-put_branch.ensures.exact unit ok w t v
      (a_branch unit c.args.number (block_of c.args.block.now) (sym c.is_branch.ensures.exact ∙ c.if-not-is_branch.false) e l) low;
}
