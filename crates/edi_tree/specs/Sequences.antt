-- Words of contracts. The lists in a tree.
use Rattle.std.specs.Prelude.{List}
use Rattle.edi_tree.specs.declared.sequence.Sequence as code

-- the parts of a list
abbrev pub items_of : {X : Type 0} → code.Sequence X → List X
items_of list = list.items.items
