use Rattle.std.proofs.Common.{◌≡◌, drop}
use Rattle.std.specs.Prelude.{map}
use Rattle.edi_tree.specs.View.{more_params, param_of}
use Rattle.edi_unit.specs.Lists.{list_items}
use Rattle.edi_static.specs.Programs.{calls_of_more}
use Rattle.edi_static.specs.Views.{formals, formal_of}
use Rattle.edi_sema.specs.Calls.{behind_numbers}
use Rattle.edi_sema.proofs.calls.calls_of.Given as goal

abbrev pub invariant-loop-param : goal.invariant-loop-param
invariant-loop-param l = record {
  left :
      behind_numbers (list_items l.calls) (calls_of_more l.known.types (more_params (map param_of (drop l.param-index l.params)))
      (formals (map formal_of l.formals)))
      ≡ calls_of_more l.known.types (more_params (map param_of l.params)) (formals (map formal_of l.initial.formals));
}
