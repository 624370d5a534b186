-- Parts of the code's values, against those of the definitions.
use Rattle.std.proofs.Common.{◌≡◌, ◌≤◌, ℕ, zero, suc, List, [], ◌∷◌, length, Some, refl, sym, ap, ◌∙◌, ◌-◌, take, drop, get_or, arith}
use Rattle.std.specs.Prelude.{map, slice_get, slice_set}
use Rattle.std.proofs.lemmas.List.{take_all}
use Rattle.std.specs.Global.{Vec}
use Rattle.edi_unit.specs.Values.{Value, compound, values}
use Rattle.edi_meaning.specs.Parts.{nth, parts_of, part_at, with_nth, with_part}
use Rattle.edi_walk.specs.declared.data.Datum as code
use Rattle.edi_walk.specs.Data.{value_of}
use Rattle.edi_walk.proofs.Layers.{compound_seen}

some_is : {A : Type 0} (a b : A) → Some a ≡ Some b → a ≡ b
some_is a b e = cc

pub nth_of : (xs : List code.Datum) (n : ℕ) (x : code.Datum) → slice_get xs n ≡ Some x → nth (values (map value_of xs)) n ≡ value_of x
nth_of [] n x e = absurd (cc)
nth_of (y ∷ xs) zero x e = ap value_of (some_is y x e)
nth_of (y ∷ xs) (suc n) x e = nth_of xs n x e

-- a part replaced twice
pub with_nth_of : (xs : List code.Datum) (n : ℕ) (x y : code.Datum) →
    values (map value_of (slice_set (slice_set xs n y) n x)) ≡ with_nth (values (map value_of xs)) n (value_of x)
with_nth_of [] n x y = refl
with_nth_of (z ∷ xs) zero x y = refl
with_nth_of (z ∷ xs) (suc n) x y = ap (Rattle.edi_unit.specs.Values.value_then (value_of z)) (with_nth_of xs n x y)

-- the path, its first number and the rest
abbrev pub below : List ℕ → List ℕ
below path = take (length path - 1) (drop 1 path)

pub path_cut : (path : List ℕ) → 1 ≤ length path → path ≡ get_or path 0 0 ∷ below path
path_cut [] h = absurd (omega (arith, h))
path_cut (n ∷ path) h = ap (λ rest. n ∷ rest) (sym (take_all (suc (length path) - 1) path (omega arith)))

module _ (self : code.Datum) (parts : Vec code.Datum) (path : List ℕ) (is : self ≡ code.Compound parts) (h : 1 ≤ length path) where
  -- the parts that are seen
  seen : parts_of (value_of self) ≡ values (map value_of parts.items)
  seen = ap parts_of (ap value_of is ∙ compound_seen parts)

  pub part_below : (x : code.Datum) → slice_get parts.items (get_or path 0 0) ≡ Some x → part_at (value_of self) path ≡ part_at (value_of x) (below path)
  part_below x e =
      ap (part_at (value_of self)) (path_cut path h)
      ∙ ap (λ vs. part_at (nth vs (get_or path 0 0)) (below path)) seen
      ∙ ap (λ v. part_at v (below path)) (nth_of parts.items (get_or path 0 0) x e)

  pub part_replaced : (part new filler : code.Datum) (value : Value) → slice_get parts.items (get_or path 0 0) ≡ Some part →
      value_of new ≡ with_part (value_of part) (below path) value →
      compound (values (map value_of (slice_set (slice_set parts.items (get_or path 0 0) filler) (get_or path 0 0) new))) ≡ with_part (value_of self) path value
  part_replaced part new filler value e n =
      ap compound (with_nth_of parts.items (get_or path 0 0) new filler)
      ∙ ap (λ v. compound (with_nth (values (map value_of parts.items)) (get_or path 0 0) v))
      (n ∙ ap (λ v. with_part v (below path) value) (sym (nth_of parts.items (get_or path 0 0) part e)))
      ∙ ap (λ vs. compound (with_nth vs (get_or path 0 0) (with_part (nth vs (get_or path 0 0)) (below path) value))) (sym seen)
      ∙ sym (ap (λ p. with_part (value_of self) p value) (path_cut path h))
