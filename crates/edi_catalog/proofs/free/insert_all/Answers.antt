use Rattle.std.proofs.Common.{false, sym, ap, ◌∙◌, arith}
use Rattle.std.specs.Prelude.{◌||◌, slice_index_or}
use Rattle.std.proofs.lemmas.List.{drop_all}
use Rattle.edi_image.specs.Rules.{is_in}
use Rattle.edi_catalog.proofs.BlockSets.{block_inserted}
use Rattle.edi_catalog.proofs.free.insert_all.Goals as goal

pub loop-block-preserved : goal.loop-block-preserved
loop-block-preserved c =
    record {
      as_many = c.insert.ensures.exact.as_many ∙ c.loop-block.invariant.as_many;
      left = λ n l. block_inserted c.args.blocks.now c.loop-block.block-index c.args.used.now c.loop-block.used c.insert.new.used c.loop-block-test.true
          c.loop-block.invariant.as_many c.insert.ensures.exact n _ l (c.loop-block.invariant.left n l);
    }

pub returns : goal.returns
returns c =
    record {
      exact =
          record {
            as_many = c.loop-block.invariant.as_many;
            inserted =
                λ n l. sym (ap (λ xs. is_in n xs || slice_index_or c.loop-block.used n false)
                (drop_all c.loop-block.block-index c.args.blocks.now (omega (arith, c.loop-block-test.false))))
                ∙ c.loop-block.invariant.left n l;
          };
    }
