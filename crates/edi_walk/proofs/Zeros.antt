-- The values with which variables start.
use Rattle.std.proofs.Common.{◌≡◌, ◌≤ℤ◌, ℕ, zero, suc, ◌+◌, ℤ, ◌<◌, ◌≤◌, List, [], ◌∷◌, ◌++◌, length, pos, ◌⊎◌, inl, inr, refl, sym, subst, ap, ◌∙◌, arith}
use Rattle.std.specs.Prelude.{slice_index_or}
use Rattle.std.proofs.lemmas.List.{length-append}
use Rattle.edi_unit.proofs.ZeroValues.{zero-is}
use Rattle.edi_unit.specs.declared.types.Shape as code
use Rattle.edi_unit.specs.declared.types.Shape.TheVariants as kind
use Rattle.edi_unit.specs.ShapeView.{shape_of}
use Rattle.edi_unit.specs.Types.{Shape, array_of, shape_at, entries}
use Rattle.edi_unit.specs.TypeTables.{IsTypeTable, HasOrderedBounds}
use Rattle.edi_unit.specs.Values.{Value, ordinal, shape_zero, zero_value}

-- as many entries as types, and those that were there
entries_counted : (known : List Value) (types : List Shape) → length (entries shape_zero (ordinal (pos 0)) known types) ≡ length known + length types
entries_counted known [] = omega arith
entries_counted known (s ∷ types) =
    entries_counted (known ++ shape_zero (λ t. slice_index_or known t (ordinal (pos 0))) s ∷ []) types
    ∙ omega (arith, length-append known (shape_zero (λ t. slice_index_or known t (ordinal (pos 0))) s ∷ []))

past : (vs : List Value) (t : ℕ) → length vs ≤ t → slice_index_or vs t (ordinal (pos 0)) ≡ ordinal (pos 0)
past [] t h = refl
past (v ∷ vs) zero h = absurd (omega (arith, h))
past (v ∷ vs) (suc t) h = past vs t (omega (arith, h))

-- a number that is not in the table
pub zero_of_none : (types : List Shape) (t : ℕ) → length types ≤ t → zero_value types t ≡ ordinal (pos 0)
unfolding zero_value
zero_of_none types t h = past (entries shape_zero (ordinal (pos 0)) [] types) t (omega (arith, h, entries_counted [] types))

pub zero_of : (types : List Shape) (t : ℕ) (s : Shape) → IsTypeTable types → t < length types → s ≡ shape_at types t →
    zero_value types t ≡ shape_zero (zero_value types) s
zero_of types t s table known is = zero-is types t table known ∙ ap (shape_zero (zero_value types)) (sym is)

-- the bounds of an array of the table
pub bounds_ordered : (types : List Shape) (t i : ℕ) (lo hi : ℤ) (e : ℕ) → IsTypeTable types → t < length types → array_of i lo hi e ≡ shape_at types t → lo ≤ℤ hi
bounds_ordered types t i lo hi e table known is = subst HasOrderedBounds (sym is) (table.declared t known).ordered

-- elementary types
pub zero_of_elementary : (of : ℕ → Value) (s : code.Shape) →
    (s ≡ kind.Int) ⊎ ((s ≡ kind.Char) ⊎ ((s ≡ kind.Bool) ⊎ ((n : ℕ) × (s ≡ kind.Enum n)))) → shape_zero of (shape_of s) ≡ ordinal (pos 0)
zero_of_elementary of s (inl e) = ap (λ x. shape_zero of (shape_of x)) e
zero_of_elementary of s (inr (inl e)) = ap (λ x. shape_zero of (shape_of x)) e
zero_of_elementary of s (inr (inr (inl e))) = ap (λ x. shape_zero of (shape_of x)) e
zero_of_elementary of s (inr (inr (inr e))) = ap (λ x. shape_zero of (shape_of x)) e.1
