-- Computed rows. How near the bound is: a `var` parameter that is loaded by its name takes 7 words for that one symbol.
use Rattle.std.specs.Prelude.{◌≡◌, [], ◌∷◌, None, refl}
use Rattle.edi_unit.specs.declared.units.BlockKind.TheVariants as kind
use Rattle.edi_unit.specs.declared.units.Parameter.TheVariants as slot
use Rattle.edi_unit.specs.Types.{standard_types, int_type}
use Rattle.edi_unit.specs.Tree.{load, place, no_part, no_act, Block}
use Rattle.edi_scheme.specs.Lengths.{expression_length}

-- proc p(var x: int)
abbrev takes_variable : Block
takes_variable =
    record { kind = kind.Procedure; up = 0; result = None; parameters = slot.Var int_type ∷ []; variables = []; need = 0; body = no_act }

pub seven_words_for_one_symbol : expression_length standard_types (takes_variable ∷ []) 0 (load (place 0 0 no_part)) ≡ 7
seven_words_for_one_symbol = refl
