-- Computed rows. The greatest nesting that one level allows is reached.
use Rattle.std.specs.Prelude.{◌≡◌, pos, refl}
use Rattle.edi_unit.specs.declared.expressions.Operator.TheVariants as op
use Rattle.edi_unit.specs.Types.{int_type}
use Rattle.edi_unit.specs.Tree.{Expression, constant, sign_of, chain, link, no_link, link_then, place, no_part, Acts, assign, no_act, act_then}
use Rattle.edi_static.specs.nesting.Nesting.{acts_nesting}

abbrev one : Expression
one = constant int_type (pos 1)

-- b := - 1 * 1 + 1 > 1
abbrev compares : Acts
compares =
    act_then
    (assign (place 0 0 no_part)
    (chain (chain (sign_of (chain one (link_then (link op.Times one 1) no_link)) 1) (link_then (link op.Plus one 1) no_link))
    (link_then (link op.Greater one 1) no_link)))
    no_act

-- in a program without parameters one level is open at it: the assignment, the relation, the addition, the sign, the
-- multiplication and a constant
pub six_deep_in_one_level : acts_nesting compares ≡ 6
six_deep_in_one_level = refl
