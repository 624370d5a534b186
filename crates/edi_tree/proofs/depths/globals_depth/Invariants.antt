use Rattle.edi_tree.specs.View.{globals, global_of}
use Rattle.edi_tree.specs.Depth.{globals_depth}
use Rattle.edi_tree.proofs.Loops.{Deepens}
use Rattle.edi_tree.proofs.depths.globals_depth.Given as goal

abbrev pub invariant-loop-global : goal.invariant-loop-global
invariant-loop-global l = Deepens global_of globals globals_depth l.depth l.initial.depth l.global-index l.global-items
