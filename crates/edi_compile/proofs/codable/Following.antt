-- The laws, and what follows from them for the code of a sound program.
use Rattle.std.proofs.Common.{◌*◌, ◌<◌, ◌≤◌, ◌^◌, length, arith}
use Rattle.std.proofs.lemmas.List.Elements.{All-get_or}
use Rattle.edi_tree.specs.Tree.{Program}
use Rattle.edi_tree.specs.Spelled.{spelled}
use Rattle.edi_tree.specs.Spells.{IsBounded}
use Rattle.edi_tree.proofs.Marks.{parts_stand}
use Rattle.edi_unit.specs.Need.{no_block}
use Rattle.edi_unit.specs.Tree.{ProgramUnit}
use Rattle.edi_static.specs.Programs.{Resolved}
use Rattle.edi_scheme.specs.Code.{code_of}
use Rattle.edi_static.proofs.FitnessPrograms as fitness
use Rattle.edi_sema.proofs.Ranges.{bounded_in_range}
use Rattle.edi_scheme.proofs.Blocks.{code_is_long}
use Rattle.edi_scheme.proofs.Checked as scheme
use Rattle.edi_scheme.proofs.WordedBlocks as worded
use Rattle.edi_compile.specs.codable.Laws.{LinesAreSmall, CodeIsShortForText, CodeIsShort, SoundUnitsFit, SoundCode, CodeIsWords}
use Rattle.edi_compile.proofs.codable.Front.{weight, standing_weight, tree_weight}
use Rattle.edi_compile.proofs.codable.Most.{code_fits}
use Rattle.edi_compile.proofs.codable.Bodies.{BodyLines}
use Rattle.edi_compile.proofs.codable.Wholes.{unit_good}
use Rattle.edi_compile.proofs.codable.Fielded.{records_have_fields}

pub lines_are_small : LinesAreSmall
lines_are_small tree unit is_bounded e n less = All-get_or BodyLines unit.blocks n no_block less (unit_good tree unit is_bounded e).bodies

-- at most 8 words for each symbol that the tree spells
code_is_light : (tree : Program) (unit : ProgramUnit) → ∥ IsBounded tree ∥₁ → Resolved tree unit → length (code_of unit) ≤ 8 * weight (spelled tree)
code_is_light tree unit is_bounded e =
    let good = unit_good tree unit is_bounded e in
    omega (arith, code_is_long unit, code_fits unit.types unit.blocks, good.standard, good.within)

pub code_is_short_for_text : CodeIsShortForText
code_is_short_for_text tree unit marks is_bounded spells e = omega (arith, code_is_light tree unit is_bounded e, standing_weight (spelled tree) marks (parts_stand tree marks spells))

pub code_is_short : CodeIsShort
code_is_short tree unit is_bounded e = omega (arith, code_is_light tree unit is_bounded e, tree_weight tree is_bounded)

-- a type has a symbol, besides the three that are there at first
pub units_fit : SoundUnitsFit
units_fit tree unit sound e =
    let good = unit_good tree unit sound.is_bounded e in
    let few : length unit.types < 2 ^ 32 = omega (arith, good.within, tree_weight tree sound.is_bounded) in
    fitness.units_fit tree unit sound.shallow (bounded_in_range tree sound.is_bounded) few e

pub code_is_sound : SoundCode
code_is_sound tree unit sound e =
    scheme.code_is_sound unit (units_fit tree unit sound e) (records_have_fields tree unit e) (omega (arith, code_is_short tree unit sound.is_bounded e))

pub code_is_words : CodeIsWords
code_is_words tree unit sound e =
    worded.code_is_words unit (units_fit tree unit sound e) (records_have_fields tree unit e) (lines_are_small tree unit sound.is_bounded e)
    (omega (arith, code_is_short tree unit sound.is_bounded e))
