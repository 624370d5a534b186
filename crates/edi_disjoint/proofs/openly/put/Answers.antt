-- At its index.
use Rattle.std.proofs.Common.{ap, ◌∙◌, map, sym, slice_get}
use Rattle.edi_disjoint.specs.Openly.{index_among, is_there, use_of}
use Rattle.edi_disjoint.proofs.Placing.{told_put, told_there}
use Rattle.edi_disjoint.proofs.openly.put.Goals as goal

pub returns-then-is_there : goal.returns-then-is_there
returns-then-is_there c = record {
  exact =
      told_there c.args.list.now.items c.args.one c.index_among-index.result
      (c.index_among-index.ensures.exact ∙ (λ t. index_among (use_of c.args.one) (map use_of (c.as_slice.ensures.value t))))
      (sym (λ t. is_there (use_of c.args.one) (slice_get (c.as_slice-2.ensures.value t) c.index_among-index.result)) ∙ sym c.is_there.ensures.exact ∙ c.if-is_there.true);
}

pub returns : goal.returns
returns c = record {
  exact =
      ap (map use_of) c.in_ok-insert.ensures.items
      ∙ told_put c.args.list.now.items c.args.one c.index_among-index.result
      (c.index_among-index.ensures.exact ∙ (λ t. index_among (use_of c.args.one) (map use_of (c.as_slice.ensures.value t))))
      (sym (λ t. is_there (use_of c.args.one) (slice_get (c.as_slice-2.ensures.value t) c.index_among-index.result)) ∙ sym c.is_there.ensures.exact ∙ c.if-is_there.false);
}
