-- What a numeral is cut into, by the number that its digits spell.
use Rattle.std.proofs.Common.{◌≡◌, ℕ, ◌≤◌, List, true, None, Some, pos, refl, sym, ap, subst}
use Rattle.std.specs.Prelude.{nat_le, if◌then◌else◌}
use Rattle.std.proofs.lemmas.Bool.{le-leb}
use Rattle.edi_lex.specs.Spelling.{number_from, number_of}
use Rattle.edi_lex.specs.Symbols.{with_value}
use Rattle.edi_explain.specs.places.Cuts.{Cuts}
use Rattle.edi_explain.specs.declared.places.cuts.Cut.TheVariants as cut

pub too_great_cut : (digits : List ℕ) (n : ℕ) → number_of digits ≡ None → Cuts (with_value (number_of digits) n) cut.Stray
too_great_cut digits n e = subst (λ v. Cuts (with_value v n) cut.Stray) (sym e) refl

-- a number that is small enough
pub fits_cut : (digits : List ℕ) (value n k : ℕ) → value ≡ number_from 0 digits → value ≤ 32767 → k ≡ n
    → Cuts (with_value (number_of digits) n) (cut.Symbol k)
fits_cut digits value n k e small same =
    let few : nat_le (number_from 0 digits) 32767 ≡ true = subst (λ v. nat_le v 32767 ≡ true) e (le-leb value 32767 small) in
    subst (λ b. Cuts (with_value (if b then Some (pos (number_from 0 digits)) else None) n) (cut.Symbol k)) (sym few) (ap (λ n. cut.Symbol n) same)
