use Rattle.std.proofs.Common.{false, replicate, None, refl, sym, ap, subst, ◌∙◌, arith}
use Rattle.std.specs.Prelude.{◌||◌, slice_index_or}
use Rattle.std.proofs.lemmas.List.{drop_all, get_or_default}
use Rattle.edi_image.specs.Rules.{is_in}
use Rattle.edi_catalog.specs.Plan.{blocks_used, used_in, Inserts}
use Rattle.edi_catalog.proofs.BlockSets.{file_inserted, nothing_inserted}
use Rattle.edi_catalog.proofs.free.used_blocks.Goals as goal

pub loop-file-init : goal.loop-file-init
loop-file-init c = record {
  as_many = refl;
  left = λ n l. nothing_inserted (replicate 4096 false) 4096 n (is_in n (blocks_used c.args.files.now)) refl;
}

pub loop-file-preserved : goal.loop-file-preserved
loop-file-preserved c =
    let item = c.file-item.is ∙ get_or_default c.args.files.now c.loop-file.file-index c.file-item.result None c.loop-file-test.true in
    let inserts = subst (λ x. Inserts (used_in x) c.loop-file.used c.insert_file.new.used) item c.insert_file.ensures.exact in
    record {
      as_many = c.insert_file.ensures.exact.as_many ∙ c.loop-file.invariant.as_many;
      left = λ n l. file_inserted c.args.files.now c.loop-file.file-index c.loop-file.used c.insert_file.new.used c.loop-file-test.true
          c.loop-file.invariant.as_many inserts n (is_in n (blocks_used c.args.files.now)) l (c.loop-file.invariant.left n l);
    }

pub returns : goal.returns
returns c =
    record {
      exact =
          λ n l. sym (ap (λ xs. is_in n (blocks_used xs) || slice_index_or c.loop-file.used n false)
          (drop_all c.loop-file.file-index c.args.files.now (omega (arith, c.loop-file-test.false))))
          ∙ c.loop-file.invariant.left n l;
    }
