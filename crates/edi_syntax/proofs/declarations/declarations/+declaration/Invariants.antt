use Rattle.std.proofs.Common.{◌+◌, ◌-◌, ◌*◌, length, map}
use Rattle.edi_tree.specs.View as view
use Rattle.edi_tree.specs.Levels as elements
use Rattle.edi_grammar.specs.Rules as g
use Rattle.edi_phrases.proofs.Pushes.{Repeats}
use Rattle.edi_syntax.proofs.declarations.declarations.+declaration.Given as goal

abbrev pub decreases-parse_procedure : goal.decreases-parse_procedure
decreases-parse_procedure l = (64 - l.level) * 8 + 0

abbrev pub decreases-parse_module : goal.decreases-parse_module
decreases-parse_module l = (64 - l.level) * 8 + 0

abbrev pub decreases-parse_procedure_item : goal.decreases-parse_procedure_item
decreases-parse_procedure_item l = (64 - l.level) * 8 + 1

abbrev pub decreases-parse_post : goal.decreases-parse_post
decreases-parse_post l = (64 - l.level) * 8 + 1

abbrev pub decreases-parse_item : goal.decreases-parse_item
decreases-parse_item l = (64 - l.level) * 8 + 2

abbrev pub decreases-parse_member : goal.decreases-parse_member
decreases-parse_member l = (64 - l.level) * 8 + 3

abbrev pub decreases-parse_declaration : goal.decreases-parse_declaration
decreases-parse_declaration l = (64 - l.level) * 8 + 3

abbrev pub decreases-parse_members : goal.decreases-parse_members
decreases-parse_members l = (64 - l.level) * 8 + 4

abbrev pub decreases-parse_declarations : goal.decreases-parse_declarations
decreases-parse_declarations l = (64 - l.level) * 8 + 4

abbrev pub invariant-parse_members-loop-alloc : goal.invariant-parse_members-loop-alloc
invariant-parse_members-loop-alloc l = Repeats g.Members l.fn.level (elements.members_elements (view.members (map view.member_of l.members.items))) l.marks l.rest

abbrev pub decreases-parse_members-loop-alloc : goal.decreases-parse_members-loop-alloc
decreases-parse_members-loop-alloc l = length l.rest

abbrev pub invariant-parse_declarations-loop-alloc : goal.invariant-parse_declarations-loop-alloc
invariant-parse_declarations-loop-alloc l = Repeats g.Declarations l.fn.level (elements.declarations_elements (view.declarations (map view.declaration_of l.declarations.items))) l.marks l.rest

abbrev pub decreases-parse_declarations-loop-alloc : goal.decreases-parse_declarations-loop-alloc
decreases-parse_declarations-loop-alloc l = length l.rest
