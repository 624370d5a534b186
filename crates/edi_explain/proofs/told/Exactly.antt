-- The table of kinds that the code makes is exact at every number.
use Rattle.std.proofs.Common.{◌≡◌, ◌≤◌, ◌<◌, ℕ, zero, suc, Bool, true, false, List, [], ◌∷◌, length, refl, sym, subst, arith}
use Rattle.std.specs.Prelude.{nat_le, slice_index_or}
use Rattle.std.proofs.lemmas.Bool.{leb-true, leb-false}
use Rattle.edi_lex.specs.declared.symbol.Mark.{Mark}
use Rattle.edi_lex.specs.declared.symbol.Symbol.{Symbol}
use Rattle.edi_lex.specs.declared.symbol.Symbol.TheVariants as is
use Rattle.edi_grammar.specs.Kind.{kind_of}
use Rattle.edi_explain.specs.expected.MayStand.{MayStand}
use Rattle.edi_explain.specs.expected.Reaches.{May}

kind_small : (s : Symbol) → nat_le (kind_of s) 50 ≡ true
kind_small (is.Name letters) = refl
kind_small (is.Numeral value) = refl
kind_small (is.Chars []) = refl
kind_small (is.Chars (c ∷ [])) = refl
kind_small (is.Chars (c ∷ d ∷ more)) = refl
kind_small s = refl

no_kind : (before : List Mark) (k : ℕ) → 50 < k → MayStand before k → ⊥
no_kind before zero great h = omega (arith, great)
no_kind before (suc a) great h =
    let small : kind_of h.0.symbol ≤ 50 = leb-true (kind_of h.0.symbol) 50 (kind_small h.0.symbol) in
    let same : kind_of h.0.symbol ≡ suc a = h.1 in omega (arith, small, same, great)

beyond : (kinds : List Bool) (k : ℕ) → length kinds ≤ k → slice_index_or kinds k false ≡ false
beyond [] k past = refl
beyond (b ∷ kinds) zero past = absurd (omega (arith, past))
beyond (b ∷ kinds) (suc k) past = beyond kinds k (omega (arith, past))

pub exact_everywhere : (before : List Mark) (kinds : List Bool) → length kinds ≡ 51
    → ((k : ℕ) → k ≤ 50 → May before k (slice_index_or kinds k false)) → (k : ℕ) → May before k (slice_index_or kinds k false)
exact_everywhere before kinds size below k = by (nat_le k 50) refl where
  by : (c : Bool) → nat_le k 50 ≡ c → May before k (slice_index_or kinds k false)
  by true e = below k (leb-true k 50 e)
  by false e = let great : 50 < k = leb-false k 50 e in
      subst (λ b. May before k b) (sym (beyond kinds k (omega (arith, great, size)))) (no_kind before k great)
