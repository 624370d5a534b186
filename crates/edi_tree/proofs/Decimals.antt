-- A numeral that is printed in decimal digits is read again.
use Rattle.std.proofs.Common.{◌≡◌, ℕ, ◌<◌, ◌≤◌, true, List, [], ◌∷◌, length, Some, None, pos, cond, leb, refl, ap, ◌∙◌, arith, decimal}
use Rattle.std.proofs.lemmas.Bool.Decides.{nat_tests}
use Rattle.std.proofs.lemmas.Fmt.{decimal_is_IsNumeral}
use Rattle.std.proofs.lemmas.Str.Parse.{IsDigitsTest, FoldsDigits, IsNumeralModel, numerals_by_fold}
use Rattle.std.specs.List.{list_all}
use Rattle.edi_lex.specs.Bytes.{is_digit}
use Rattle.edi_lex.specs.Spelling.{number_from, number_of}
use Rattle.edi_lex.specs.Spelled.{is_numeral}
use Rattle.edi_lex.proofs.Runs.{both}

abbrev are_digits : List ℕ → Type 0
are_digits ds = list_all is_digit ds ≡ true

digits_test : IsDigitsTest are_digits
digits_test = record {
  empty = refl;
  parts = λ c cs h. let e = both (is_digit c) (list_all is_digit cs) h in (grind (arith, nat_tests, e.0), e.1);
  more = λ c cs h e. grind (arith, nat_tests, h, e);
}

folds : FoldsDigits number_from
folds = record { empty = λ n. refl; more = λ n c cs h. refl }

model : IsNumeralModel are_digits (number_from 0)
model = numerals_by_fold are_digits digits_test number_from folds

numeral_of_digits : (ds : List ℕ) → are_digits ds → 0 < length ds → is_numeral ds ≡ true
numeral_of_digits [] h some = absurd (omega (arith, some))
numeral_of_digits (d ∷ ds) h some = h

pub decimal_is_numeral : (n : ℕ) → n ≤ 32767 → is_numeral (decimal n) ≡ true
decimal_is_numeral n small =
    let h = decimal_is_IsNumeral n (omega (arith, small)) in
    numeral_of_digits (decimal n) (model.from (decimal n) h.0.1) h.0.0

pub decimal_number : (n : ℕ) → n ≤ 32767 → number_of (decimal n) ≡ Some (pos n)
decimal_number n small =
    let h = decimal_is_IsNumeral n (omega (arith, small)) in
    let is = model.same (decimal n) h.0.1 ∙ h.1 in
    let low : leb n 32767 ≡ true = grind (arith, nat_tests) in
    ap (λ m. cond (leb m 32767) (Some (pos m)) None) is ∙ ap (λ t. cond t (Some (pos n)) None) low
