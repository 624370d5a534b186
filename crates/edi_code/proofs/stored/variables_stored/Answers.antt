use Rattle.edi_unit.specs.View.{block_of}
use Rattle.edi_code.proofs.StoredLoops.{slots_stored}
use Rattle.edi_code.proofs.stored.variables_stored.Goals as goal

pub returns : goal.returns
returns c = record {
  exact = slots_stored c.args.types.now (block_of c.args.block.now).result _ _ _ _ _ _ _ _ c.new-variables.ensures.items c.in_ok-offset.ensures.put
      c.in_ok-offset.ensures.behind c.in_ok-middle.ensures.put c.in_ok-middle.ensures.behind c.in_ok-declared_stored.ensures.put;
}
