-- Computed rows. What the definitions give on small inputs.
use Rattle.std.specs.Prelude.{◌≡◌, ℕ, false, ◌/◌, ◌-◌, pos, negsuc, List, [], ◌∷◌, ◌++◌, Some, None, replicate, refl}
use Rattle.edi_word.specs.Sets.{members_where}
use Rattle.edi_unit.specs.declared.expressions.Operator.TheVariants as op
use Rattle.edi_unit.specs.declared.expressions.Callee.TheVariants as callee
use Rattle.edi_unit.specs.declared.units.Parameter.TheVariants as slot
use Rattle.edi_unit.specs.declared.units.BlockKind.{BlockKind}
use Rattle.edi_unit.specs.declared.units.BlockKind.TheVariants as kind
use Rattle.edi_unit.specs.Types.{array_of, set_of, standard_types, int_type, size}
use Rattle.edi_unit.specs.Values.{ordinal, members, truth, apply, sign, with_ordinal}
use Rattle.edi_unit.specs.Tree.{constant, make, no_expression, expression_then, no_argument, call, cobegin, Acts, no_act, act_then, Block}
use Rattle.edi_unit.specs.Need.{need, expression_height}

-- ---- operators

-- the greatest value of `int` has no successor
pub row_sum : apply op.Plus (ordinal (pos 32767)) (ordinal (pos 1)) ≡ None
row_sum = refl

-- -7 div 2 is the sign of 7 div 2; -7 mod 2 is -1; the least value has no quotient by -1, and nothing one by 0
pub row_quotient : apply op.Div (ordinal (negsuc 6)) (ordinal (pos 2)) ≡ Some (ordinal (negsuc 2))
row_quotient = refl

pub row_remainder : apply op.Mod (ordinal (negsuc 6)) (ordinal (pos 2)) ≡ Some (ordinal (negsuc 0))
row_remainder = refl

pub row_least : apply op.Div (ordinal (negsuc 32767)) (ordinal (negsuc 0)) ≡ None
row_least = refl

pub row_by_zero : apply op.Mod (ordinal (pos 1)) (ordinal (pos 0)) ≡ None
row_by_zero = refl

pub row_sign : sign (ordinal (negsuc 32767)) ≡ None
row_sign = refl

-- `+`, `-` and `*` on sets
pub row_union : apply op.Plus (members (1 ∷ 5 ∷ [])) (members (0 ∷ 5 ∷ [])) ≡ Some (members (0 ∷ 1 ∷ 5 ∷ []))
unfolding members_where
row_union = refl

pub row_without : apply op.Minus (members (1 ∷ 5 ∷ [])) (members (0 ∷ 5 ∷ [])) ≡ Some (members (1 ∷ []))
unfolding members_where
row_without = refl

pub row_both : apply op.Times (members (1 ∷ 5 ∷ [])) (members (0 ∷ 5 ∷ [])) ≡ Some (members (5 ∷ []))
unfolding members_where
row_both = refl

-- 128 is in no set, and cannot be made a member
pub row_outside : apply op.In (ordinal (pos 128)) (members (127 ∷ [])) ≡ Some (truth false)
row_outside = refl

pub row_no_member : with_ordinal [] (pos 128) ≡ None
row_no_member = refl

-- ---- sizes and needs

-- `set s (int) array t [1:8192] (s)`: one word more than a type may have
pub row_sets : size (standard_types ++ set_of int_type ∷ array_of int_type (pos 1) (pos 8192) 3 ∷ []) 4 ≡ 65536
unfolding size
row_sets = refl

-- a block of a procedure or a branch of the program, without parameters
abbrev pub plain : BlockKind → List ℕ → Acts → Block
plain kind variables body =
    record { kind = kind; up = 0; result = None; parameters = []; variables = variables; need = 0; body = body }

-- the block of a program `proc main(proc display(c: char))` without variables
abbrev pub displaying : (need : ℕ) → Acts → Block
displaying need body =
    record { kind = kind.Program; up = 0; result = None; parameters = slot.Formal None ∷ []; variables = []; need = need; body = body }

-- the program `proc main(proc display(c: char)) proc p begin p end begin p end`
abbrev pub calling : List Block
calling =
    displaying 8 (act_then (call (callee.Block 0 1) no_argument 1) no_act)
    ∷ plain kind.Procedure [] (act_then (call (callee.Block 1 1) no_argument 1) no_act)
    ∷ []

pub row_main : need standard_types calling 0 ≡ 8
row_main = refl

pub row_p : need standard_types calling 1 ≡ 5
row_p = refl

-- `var a, b: t` where t is an array of 32,767 integers
pub row_two_arrays : need (standard_types ++ array_of int_type (pos 1) (pos 32767) int_type ∷ []) (plain kind.Program (3 ∷ 3 ∷ []) no_act ∷ []) 0 ≡ 65539
unfolding size
row_two_arrays = refl

-- 31 branches share what a program that needs 5 words leaves, and a procedure has what a branch that needs 5 leaves
abbrev pub branching : List Block
branching =
    plain kind.Program [] (act_then (cobegin (replicate 31 2) 1) no_act)
    ∷ plain kind.Procedure (3 ∷ []) no_act
    ∷ plain kind.Branch [] (act_then (call (callee.Block 1 1) no_argument 1) no_act)
    ∷ []

abbrev pub share : ℕ
share = (65536 - need standard_types branching 0) / 31

pub row_share : share ≡ 2113
row_share = refl

pub row_left : share - need standard_types branching 2 ≡ 2108
row_left = refl

pub row_fits : need (standard_types ++ array_of int_type (pos 1) (pos 2103) int_type ∷ []) branching 1 ≡ 2108
unfolding size
row_fits = refl

-- a set is made above its 8 words, and with no member takes these alone
pub row_member : expression_height (standard_types ++ set_of int_type ∷ []) calling 0 (make 3 (expression_then (constant int_type (pos 127)) no_expression) 1)
    ≡ 9
row_member = refl

pub row_no_members : expression_height (standard_types ++ set_of int_type ∷ []) calling 0 (make 3 no_expression 1) ≡ 8
row_no_members = refl
