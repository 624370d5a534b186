use Rattle.std.proofs.Common.{◌≡◌, ◌≤◌, ◌+◌, ◌-◌, ◌++◌, [], ◌∷◌, false, length, arith, ap, sym, ◌∙◌, rules}
use Rattle.std.specs.Prelude.{slice_index_or}
use Rattle.std.proofs.lemmas.List.{length_push}
use Rattle.edi_catalog.specs.Plan.{blocks_used}
use Rattle.edi_catalog.proofs.FreeBlocks.{free_found, free_more, free_skips, free_enough}
use Rattle.edi_catalog.proofs.free.free_blocks.Goals as goal
use Rattle.edi_catalog.proofs.free.free_blocks.Goals.{then-not-used-from, else-not-used-from}

pub returns-then-len-wanted-clause-free : goal.returns-then-len-wanted-clause-free
returns-then-len-wanted-clause-free c =
    free_found c.args.count c.args.files.now _ (c.loop-block.block - 33) (omega arith) c.loop-block.invariant.so_far

pub loop-block-preserved : goal.loop-block-preserved
loop-block-preserved c =
    elim c.if-not-used-from.branch [
      | then-not-used-from w ↦
          let after : c.if-not-used-from.blocks.items ≡ c.loop-block.blocks.items ++ c.loop-block.block ∷ [] = search rules in
          let size : length c.if-not-used-from.blocks.items ≡ length c.loop-block.blocks.items + 1 =
          ap length after ∙ length_push c.loop-block.blocks.items c.loop-block.block in
          record {
            so_far =
                free_more (blocks_used c.args.files.now) c.loop-block.blocks.items _ c.loop-block.block (omega arith)
                c.loop-block.invariant.so_far (sym (c.used_blocks-used.ensures.exact c.loop-block.block (omega arith)) ∙ ap (λ k. slice_index_or c.used_blocks-used.result k false) (sym c.from.ensures) ∙ w.if-not-used-from.true) after;
            most = omega (arith, size, c.len.ensures.value, c.if-len-wanted.false, c.loop-block.invariant.most);
          }
      | else-not-used-from w ↦
          let after : c.if-not-used-from.blocks.items ≡ c.loop-block.blocks.items = search rules in
          record {
            so_far =
                after
                ∙ free_skips (blocks_used c.args.files.now) c.loop-block.blocks.items c.loop-block.block (omega arith)
                c.loop-block.invariant.so_far (sym (c.used_blocks-used.ensures.exact c.loop-block.block (omega arith)) ∙ ap (λ k. slice_index_or c.used_blocks-used.result k false) (sym c.from.ensures) ∙ w.if-not-used-from.false);
            most = omega (arith, ap length after, c.loop-block.invariant.most);
          }
    ]

pub returns-clause-many : goal.returns-clause-many
returns-clause-many c =
    let enough : c.args.wanted ≤ length c.loop-block.blocks.items =
    free_enough c.args.count c.args.files.now c.loop-block.blocks.items c.args.wanted (c.loop-block.block - 33) c.requires.stored c.requires.room
    (omega arith) c.loop-block.invariant.so_far in
    omega arith

pub returns-clause-free : goal.returns-clause-free
returns-clause-free c =
    free_found c.args.count c.args.files.now _ (c.loop-block.block - 33) (omega arith) c.loop-block.invariant.so_far
