use Rattle.edi_tree.specs.View.{declarations, declaration_of, members, member_of}
use Rattle.edi_tree.specs.Depth.{declarations_depth, members_depth}
use Rattle.edi_tree.proofs.Loops.{Deepens}
use Rattle.edi_tree.proofs.depths.+declaration_depths.Given as goal

abbrev pub invariant-procedure_depth-loop-declaration : goal.invariant-procedure_depth-loop-declaration
invariant-procedure_depth-loop-declaration l =
    Deepens declaration_of declarations declarations_depth l.depth l.initial.depth l.declaration-index l.declaration-items

abbrev pub invariant-module_depth-loop-member : goal.invariant-module_depth-loop-member
invariant-module_depth-loop-member l = Deepens member_of members members_depth l.depth l.initial.depth l.member-index l.member-items
