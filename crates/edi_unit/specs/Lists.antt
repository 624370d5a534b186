-- Words of contracts. The lists of which types, trees and units are made.
use Rattle.std.specs.Prelude.{List}
use Rattle.edi_unit.specs.declared.lists.List as code

-- the items of a list
abbrev pub list_items : {X : Type 0} → code.List X → List X
list_items list = list.items.items
