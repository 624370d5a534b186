-- Lists cut past their end, where a line begins, and a text out of a table.
use Rattle.std.proofs.Common.{◌≡◌, ℕ, zero, suc, ◌<◌, ◌≤◌, List, [], ◌∷◌, length, take, drop, Bor, refl, ap, arith}
use Rattle.std.specs.Prelude.{slice_index_or}
use Rattle.edi_explain.specs.told.Source.{line_start_from}
use Rattle.edi_explain.specs.told.Tables.{texts_of}

pub front_all : {A : Type 0} (xs : List A) (n : ℕ) → length xs ≤ n → xs ≡ take n xs
front_all [] zero few = refl
front_all [] (suc n) few = refl
front_all (x ∷ xs) zero few = absurd (omega (arith, few))
front_all (x ∷ xs) (suc n) few = ap (λ l. x ∷ l) (front_all xs n (omega (arith, few)))

pub back_none : {A : Type 0} (xs : List A) (n : ℕ) → length xs ≤ n → [] ≡ drop n xs
back_none [] zero few = refl
back_none [] (suc n) few = refl
back_none (x ∷ xs) zero few = absurd (omega (arith, few))
back_none (x ∷ xs) (suc n) few = back_none xs n (omega (arith, few))

pub text_at : (table : List (Bor (List ℕ))) (n : ℕ) (d : Bor (List ℕ)) → n < length table
    → (slice_index_or table n d).now ≡ slice_index_or (texts_of table) n []
text_at [] n d within = absurd (omega (arith, within))
text_at (b ∷ table) zero d within = refl
text_at (b ∷ table) (suc n) d within = text_at table n d (omega (arith, within))

pub none_at : (table : List (Bor (List ℕ))) (n : ℕ) → length table ≤ n → [] ≡ slice_index_or (texts_of table) n []
none_at [] n beyond = refl
none_at (b ∷ table) zero beyond = absurd (omega (arith, beyond))
none_at (b ∷ table) (suc n) beyond = none_at table n (omega (arith, beyond))

-- where no line feed is left, the line begins here
pub begins : (bytes : List ℕ) (feeds at n : ℕ) → feeds ≡ 0 → line_start_from bytes feeds at ≡ n → at ≡ n
begins [] zero at n none e = e
begins [] (suc feeds) at n none e = absurd (omega (arith, none))
begins (b ∷ bytes) zero at n none e = e
begins (b ∷ bytes) (suc feeds) at n none e = absurd (omega (arith, none))
