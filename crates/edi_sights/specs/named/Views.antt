-- Words of contracts. The plain data for which the code's values stand.
use Rattle.std.specs.Prelude.{map}
use Rattle.edi_sights.specs.declared.named.answer.NamedBlock as code_block
use Rattle.edi_sights.specs.declared.named.answer.Names as code_names
use Rattle.edi_sights.specs.declared.named.walk.Walk as code_walk
use Rattle.edi_sights.specs.named.Naming.{Named, Names, Naming}

abbrev pub named_of : code_block.NamedBlock → Named
named_of block = record { name = block.name; variables = block.variables.items }

abbrev pub naming_of : code_walk.Walk → Naming
naming_of walk = record { blocks = map named_of walk.blocks.items; constants = map (λ names. names.items) walk.constants.items; begun = walk.begun }

abbrev pub names_view : code_names.Names → Names
names_view names = record { blocks = map named_of names.blocks.items; constants = map (λ constants. constants.items) names.constants.items }
