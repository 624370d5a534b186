use Rattle.std.proofs.Common.{◌∙◌, arith}
use Rattle.edi_image.proofs.Told.{told_then, told_map}
use Rattle.edi_image.proofs.Empty.{written_next, written_all}
use Rattle.edi_catalog.proofs.formatting.write_catalogue.Goals as goal

pub loop-n-preserved : goal.loop-n-preserved
loop-n-preserved g c = record {
  told =
      told_then _ _ _ _ _ _
      (λ old between new so_far w. written_next old between new c.args.count c.loop-n.n _ c.loop-n-test.true c.new_block.ensures so_far w)
      c.loop-n.invariant.told c.in-Ok.ensures.leaves;
  count = c.write.ensures.count ∙ c.loop-n.invariant.count;
  later = omega arith;
}

pub returns-clause-leaves : goal.returns-clause-leaves
returns-clause-leaves g c =
    told_map _ _ _ _ (λ old new so_far. written_all old new c.args.count c.loop-n.n (omega arith) so_far) c.loop-n.invariant.told
