use Rattle.std.proofs.Common.{◌++◌, subst}
use Rattle.edi_catalog.specs.Plan.{Inserts}
use Rattle.edi_catalog.proofs.BlockSets.{inserts_then, maps_are}
use Rattle.edi_catalog.proofs.free.insert_stored.Goals as goal

pub returns : goal.returns
returns c =
    record {
      exact =
          subst (λ l. Inserts (l ++ c.args.pages.now) c.args.used.now c.insert_all.new.used) (maps_are c.args.first c.args.second)
          (inserts_then _ _ _ _ _ (inserts_then _ _ _ _ _ c.insert.ensures.exact c.insert_any.ensures.exact) c.insert_all.ensures.exact);
    }
