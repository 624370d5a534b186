-- Paths that go on at their end, and what a field and an element are as parts.
use Rattle.std.proofs.Common.{◌≡◌, ℕ, zero, suc, ◌+◌, ◌*◌, ◌<◌, ℤ, List, [], ◌∷◌, ◌++◌, length, take, sum_by, refl, sym, ap, subst, ◌∙◌, arith}
use Rattle.std.specs.Prelude.{slice_index_or, slice_get, unwrap_or, IsSome}
use Rattle.std.proofs.lemmas.Bool.{false≢true}
use Rattle.std.proofs.lemmas.List.{length-replicate, get_or-replicate, take-replicate}
use Rattle.std.proofs.lemmas.List.Folds.{sum_by-replicate}
use Rattle.edi_unit.specs.Types.{Shape, record_of, array_of, shape_at, int_type, element_count, fields_of, field_type, size}
use Rattle.edi_unit.specs.TypeTables.{part_types}
use Rattle.edi_scheme.specs.Pieces.{field_offset}
use Rattle.edi_follows.specs.values.Words.{nth_type, nth_offset, path_type, path_offset, IsPath, IsTable, PathsGoOn}
use Rattle.edi_follows.proofs.values.Lengths.{nth_known}

-- ---- one path behind another

module _ (types : List Shape) where
  pub path_type-append : (t : ℕ) (p q : List ℕ) → path_type types t (p ++ q) ≡ path_type types (path_type types t p) q
  path_type-append t [] q = refl
  path_type-append t (n ∷ p) q = path_type-append (nth_type types t n) p q

  pub path_offset-append : (t : ℕ) (p q : List ℕ) → path_offset types t (p ++ q) ≡ path_offset types t p + path_offset types (path_type types t p) q
  path_offset-append t [] q = omega arith
  path_offset-append t (n ∷ p) q = omega (arith, path_offset-append (nth_type types t n) p q)

  pub IsPath-append : (t : ℕ) (p q : List ℕ) → IsPath types t p → IsPath types (path_type types t p) q → IsPath types t (p ++ q)
  IsPath-append t [] q h k = k
  IsPath-append t (n ∷ p) q h k = (h.0, IsPath-append (nth_type types t n) p q h.1 k)

  -- one number more
  pub path_type-push : (t : ℕ) (p : List ℕ) (n : ℕ) → path_type types t (p ++ n ∷ []) ≡ nth_type types (path_type types t p) n
  path_type-push t p n = path_type-append t p (n ∷ [])

  pub path_offset-push : (t : ℕ) (p : List ℕ) (n : ℕ) → path_offset types t (p ++ n ∷ []) ≡ path_offset types t p + nth_offset types (path_type types t p) n
  path_offset-push t p n = omega (arith, path_offset-append t p (n ∷ []))

  pub IsPath-push : (t : ℕ) (p : List ℕ) (n : ℕ) → IsPath types t p → n < length (part_types (shape_at types (path_type types t p))) →
      IsPath types t (p ++ n ∷ [])
  IsPath-push t p n h within = IsPath-append t p (n ∷ []) h (within, tt)

  -- a path leads to a type of the table
  pub path_known : IsTable types → (t : ℕ) (p : List ℕ) → t < length types → IsPath types t p → path_type types t p < length types
  path_known h t [] known leads = known
  path_known h t (n ∷ p) known leads = path_known h (nth_type types t n) p (nth_known types h t n known leads.0) leads.1

-- ---- fields and elements

found_type : (fs : List ℕ) (n : ℕ) → slice_index_or fs n int_type ≡ unwrap_or (slice_get fs n) int_type
found_type [] n = refl
found_type (t ∷ fs) zero = refl
found_type (t ∷ fs) (suc n) = found_type fs n

found_within : (fs : List ℕ) (n : ℕ) → IsSome (slice_get fs n) → n < length fs
found_within [] n h = absurd (false≢true h)
found_within (t ∷ fs) zero h = omega arith
found_within (t ∷ fs) (suc n) h = let rest = found_within fs n h in omega (arith, rest)

-- a type with this field
record IsField (s : Shape) (n : ℕ) (types : List Shape) : Type 0 where
  within : n < length (part_types s)
  of : slice_index_or (part_types s) n int_type ≡ unwrap_or (slice_get (fields_of s) n) int_type
  offset : sum_by (size types) (take n (part_types s)) ≡ sum_by (size types) (take n (fields_of s))

is_field : (types : List Shape) (s : Shape) (n : ℕ) → IsSome (slice_get (fields_of s) n) → IsField s n types
is_field types (record_of fs) n h = record { within = found_within fs n h; of = found_type fs n; offset = refl }
is_field types _ n h = absurd (false≢true h)

module _ (types : List Shape) (t : ℕ) where
  -- a field is the part of its number: it is one, of the field's type, where the code has it
  pub field_within : (n : ℕ) → IsSome (field_type types t n) → n < length (part_types (shape_at types t))
  field_within n h = (is_field types (shape_at types t) n h).within

  pub field_nth_type : (n : ℕ) → IsSome (field_type types t n) → nth_type types t n ≡ unwrap_or (field_type types t n) int_type
  field_nth_type n h = (is_field types (shape_at types t) n h).of

  pub field_nth_offset : (n : ℕ) → IsSome (field_type types t n) → nth_offset types t n ≡ field_offset types t n
  field_nth_offset n h = (is_field types (shape_at types t) n h).offset

  -- so is an element, counted from 0
  module _ (i : ℕ) (lo hi : ℤ) (e : ℕ) (array : shape_at types t ≡ array_of i lo hi e) (n : ℕ) (inside : n < element_count lo hi) where
    pub element_within : n < length (part_types (shape_at types t))
    element_within =
        subst (λ s. n < length (part_types s)) (sym array) (let long = length-replicate {A = ℕ} (element_count lo hi) e in omega (arith, long, inside))

    pub element_nth_type : nth_type types t n ≡ e
    element_nth_type = ap (λ s. slice_index_or (part_types s) n int_type) array ∙ get_or-replicate (element_count lo hi) n e int_type inside

    pub element_nth_offset : nth_offset types t n ≡ n * size types e
    element_nth_offset =
        ap (λ s. sum_by (size types) (take n (part_types s))) array
        ∙ ap (λ l. sum_by (size types) l) (take-replicate n (element_count lo hi) e (omega (arith, inside)))
        ∙ sum_by-replicate (size types) n e

pub paths_go_on : PathsGoOn
paths_go_on types t p q = (path_type-append types t p q, path_offset-append types t p q, IsPath-append types t p q)
