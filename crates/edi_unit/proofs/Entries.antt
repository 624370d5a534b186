-- A list with one entry for each type of a table.
use Rattle.std.proofs.Common.{◌≡◌, ℕ, ◌+◌, ◌<◌, List, [], ◌∷◌, ◌++◌, length, get_or, refl, sym, ap, ◌∙◌, arith, length-append}
use Rattle.std.proofs.Math.ListN.{get_or-append}
use Rattle.std.proofs.Math.Seq.{get_or-append_seam}
use Rattle.edi_unit.specs.Types.{Shape, entries}

module _ {A : Type 0} (rule : (ℕ → A) → Shape → A) (d : A) where
  pub length-entries : (known : List A) (types : List Shape) → length (entries rule d known types) ≡ length known + length types
  length-entries known [] = omega arith
  length-entries known (s ∷ types) =
      length-entries (known ++ rule (λ t. get_or known t d) s ∷ []) types
      ∙ omega (arith, length-append known (rule (λ t. get_or known t d) s ∷ []))

  pub entries-append : (known : List A) (types more : List Shape) → entries rule d known (types ++ more) ≡ entries rule d (entries rule d known types) more
  entries-append known [] more = refl
  entries-append known (s ∷ types) more = entries-append (known ++ rule (λ t. get_or known t d) s ∷ []) types more

  -- what is known stays
  pub entries-known : (known : List A) (types : List Shape) (t : ℕ) → t < length known → get_or (entries rule d known types) t d ≡ get_or known t d
  entries-known known [] t before = refl
  entries-known known (s ∷ types) t before =
      entries-known (known ++ rule (λ t. get_or known t d) s ∷ []) types t (omega (arith, length-append known (rule (λ t. get_or known t d) s ∷ [])))
      ∙ get_or-append known (rule (λ t. get_or known t d) s ∷ []) d t before

  -- the entries of the types of a table stay where types follow
  pub entries-before : (types more : List Shape) (t : ℕ) → t < length types → get_or (entries rule d [] (types ++ more)) t d ≡ get_or
      (entries rule d [] types) t d
  entries-before types more t before =
      ap (λ l. get_or l t d) (entries-append [] types more)
      ∙ entries-known (entries rule d [] types) more t (omega (arith, length-entries [] types))

  -- the entry of a type is made by the rule from the entries of the types before it
  pub entries-at : (types : List Shape) (s : Shape) (more : List Shape) → get_or (entries rule d [] (types ++ s ∷ more)) (length types) d ≡ rule
      (λ t. get_or (entries rule d [] types) t d) s
  entries-at types s more =
      let known = entries rule d [] types in
      let long : length known ≡ length types = length-entries [] types ∙ omega arith in
      ap (λ l. get_or l (length types) d) (entries-append [] types (s ∷ more))
      ∙ entries-known (known ++ rule (λ t. get_or known t d) s ∷ []) more (length types)
      (omega (arith, length-append known (rule (λ t. get_or known t d) s ∷ [])))
      ∙ ap (λ n. get_or (known ++ rule (λ t. get_or known t d) s ∷ []) n d) (sym long)
      ∙ get_or-append_seam known (rule (λ t. get_or known t d) s) [] d
