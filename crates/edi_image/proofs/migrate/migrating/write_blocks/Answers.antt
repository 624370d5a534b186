use Rattle.std.proofs.Common.{◌∙◌, refl, arith}
use Rattle.edi_image.proofs.Told.{told_then, told_map}
use Rattle.edi_image.proofs.migrate.MigratedSteps.{block_written, blocks_written}
use Rattle.edi_image.proofs.migrate.migrating.write_blocks.Goals as goal

pub loop-n-preserved : goal.loop-n-preserved
loop-n-preserved g c = record {
  told =
      told_then _ _ _ _ _ _
      (λ old between new so_far w. block_written c.args.blocks.now old between new c.loop-n.n _ _ c.loop-n-test.true refl so_far w)
      c.loop-n.invariant.told c.in-Ok.ensures.leaves;
  count = c.write.ensures.count ∙ c.loop-n.invariant.count;
  later = omega arith;
}

pub returns-clause-leaves : goal.returns-clause-leaves
returns-clause-leaves g c =
    told_map _ _ _ _ (λ old new so_far. blocks_written c.args.blocks.now old new c.loop-n.n (omega arith) so_far) c.loop-n.invariant.told
