use Rattle.std.proofs.Common.{ap, sym, arith}
use Rattle.edi_tree.specs.View.{var_list_of}
use Rattle.edi_static.proofs.Proper.{set_seen}
use Rattle.edi_sights.specs.named.Names.{declared_names}
use Rattle.edi_sights.specs.named.Naming.{more_variables, nameless}
use Rattle.edi_sights.specs.named.Views.{named_of}
use Rattle.edi_sights.proofs.named.walk.declare_at.Goals as goal

pub returns : goal.returns
returns c = record {
  exact =
      sym (set_seen named_of (more_variables (declared_names (var_list_of c.args.list.now))) c.args.blocks.now.items c.args.at c.index_mut.result.now _ nameless
      (omega (arith, c.requires, c.args.blocks.now.ok.0)) c.index_mut.ensures.value
      (ap (λ vs. record (named_of c.index_mut.result.now) { variables = vs }) c.in_ok-put_declared.ensures.exact));
}
