use Rattle.edi_tree.specs.View.{more_params, param_of}
use Rattle.edi_tree.specs.Depth.{more_params_depth}
use Rattle.edi_tree.proofs.Loops.{Deepens}
use Rattle.edi_tree.proofs.depths.+heading_depths.Given as goal

abbrev pub invariant-params_depth-loop-param : goal.invariant-params_depth-loop-param
invariant-params_depth-loop-param l = Deepens param_of more_params more_params_depth l.depth l.initial.depth l.param-index l.param-items
