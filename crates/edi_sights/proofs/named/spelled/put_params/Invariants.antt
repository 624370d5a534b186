use Rattle.std.proofs.Common.{◌≡◌, ◌++◌, drop}
use Rattle.std.specs.Prelude.{map}
use Rattle.edi_tree.specs.View.{more_params as listed, param_of}
use Rattle.edi_sights.specs.named.Names.{more_param_names}
use Rattle.edi_sights.proofs.named.spelled.put_params.Given as goal

abbrev pub invariant-loop-param : goal.invariant-loop-param
invariant-loop-param l = record {
  left :
      l.into.items ++ more_param_names (listed (map param_of (drop l.param-index l.params)))
      ≡ l.fn.into.items ++ more_param_names (listed (map param_of l.params));
}
