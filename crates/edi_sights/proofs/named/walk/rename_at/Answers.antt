use Rattle.std.proofs.Common.{sym, arith}
use Rattle.edi_static.proofs.Proper.{set_seen}
use Rattle.edi_sights.specs.named.Naming.{nameless, renamed}
use Rattle.edi_sights.specs.named.Views.{named_of}
use Rattle.edi_sights.proofs.named.walk.rename_at.Goals as goal

pub returns : goal.returns
returns c = record {
  exact =
      sym (set_seen named_of (renamed c.args.names.items) c.args.blocks.now.items c.args.at c.index_mut.result.now _ nameless
      (omega (arith, c.requires, c.args.blocks.now.ok.0)) c.index_mut.ensures.value c.rename_block.ensures.exact);
}
