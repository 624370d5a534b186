-- Words of contracts. The plain data for which the code's values stand.
use Rattle.std.specs.Prelude.{◌≡◌, ℕ, List, Option}
use Rattle.std.specs.Option.{option_map}
use Rattle.edi_unit.specs.Types.{Shape}
use Rattle.edi_unit.specs.View.{unit_of}
use Rattle.edi_sights.specs.named.Views.{names_view}
use Rattle.edi_dump.specs.declared.known.Known.{Known}
use Rattle.edi_dump.specs.declared.scene.Scene.{Scene}
use Rattle.edi_dump.specs.Frames.{Program, block_ends}

abbrev pub program_of : Known → Program
program_of known = record { unit = unit_of known.unit; names = names_view known.names }

abbrev pub types_in : Known → List Shape
types_in known = (program_of known).unit.types

abbrev pub constants_in : Known → List (List (List ℕ))
constants_in known = (program_of known).names.constants

-- ---- what a text is told from

abbrev pub known_in : Scene → Option Program
known_in scene = option_map (λ known. program_of known.now) scene.known

abbrev pub words_in : Scene → List ℕ
words_in scene = scene.code.now.words

abbrev pub memory_in : Scene → List ℕ
memory_in scene = scene.memory.now

-- the addresses where blocks end are those of the code
abbrev pub IsScene : Scene → Type 0
IsScene scene = scene.ends.now ≡ block_ends (words_in scene)
