-- The number that digits spell, as std's `parse` reads it.
use Rattle.std.proofs.Common.{◌≡◌, ◌<◌, ◌≤◌, ℕ, true, refl, rules, arith, List, length, Some, Result, Ok, ◌+◌, ◌-◌, ◌*◌, le-leb}
use Rattle.std.specs.Prelude.{nat_le}
use Rattle.std.specs.Str.Parse.{ParsesUnsigned}
use Rattle.std.proofs.lemmas.Str.Parse.{IsNumeralModel, numerals_by_fold, parse_gives, digits_value_short}
use Rattle.std.specs.List.{fold}
use Rattle.edi_trace.specs.Lines.{number_of}
use Rattle.edi_words.specs.Words.{are_digits, spelled}

abbrev number_after : ℕ → List ℕ → ℕ
number_after n digits = fold (λ n c. n * 10 + (c - 48)) n digits

own : IsNumeralModel (λ ds. are_digits ds ≡ true) number_of
own = numerals_by_fold _ (search rules) number_after (search rules)

pub spelled_is : {E : Type 0} (word : List ℕ) (r : Result ℕ E) → ParsesUnsigned 64 10 word r → 0 < length word → length word ≤ 10 → are_digits word ≡ true
    → r ≡ Ok (number_of word)
spelled_is word r parses least most digits =
    let short = digits_value_short own word 10 digits most in parse_gives own 64 word r parses digits least (omega arith)

pub spelled_some : (word : List ℕ) → 0 < length word → length word ≤ 10 → are_digits word ≡ true → spelled word ≡ Some (number_of word)
spelled_some word least most digits =
    let low : nat_le 1 (length word) ≡ true = le-leb 1 (length word) (omega arith) in
    let high : nat_le (length word) 10 ≡ true = le-leb (length word) 10 most in rw (low, high, digits) refl
