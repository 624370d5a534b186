-- The table of rules in numbers is that of the grammar.
use Rattle.std.proofs.Common.{◌≡◌, ℕ, zero, suc, List, [], ◌∷◌, drop, refl, ap, ◌∙◌}
use Rattle.std.specs.Prelude.{map, slice_index_or}
use Rattle.edi_grammar.specs.Rules.{Sort, Program}
use Rattle.edi_explain.specs.expected.Numbered.{first_taken, rule_rows, start_at, starts, taken_at}
use Rattle.edi_explain.specs.expected.Awaited.{number_in, rows_of, sort_no, sorts, taken_from}

abbrev start_of : Sort → ℕ
start_of k = start_at (number_in k)

starts_are : starts ≡ map start_of sorts
starts_are = refl

at_each : {A B : Type 0} (f : A → B) (xs : List A) (n : ℕ) (d : A) → slice_index_or (map f xs) n (f d) ≡ f (slice_index_or xs n d)
at_each f [] n d = refl
at_each f (x ∷ xs) zero d = refl
at_each f (x ∷ xs) (suc n) d = at_each f xs n d

start_is : (n : ℕ) → start_at n ≡ start_of (sort_no n)
start_is n = ap (λ l. slice_index_or l n 0) starts_are ∙ at_each start_of sorts n Program

of_sort : (k : Sort) (a : ℕ) → first_taken (drop (start_of k) rule_rows) a ≡ taken_from [] (rows_of k) a
of_sort Program a = refl
of_sort k a = refl

pub taken_is : (n a : ℕ) → taken_at n a ≡ taken_from [] (rows_of (sort_no n)) a
taken_is n a = ap (λ s. first_taken (drop s rule_rows) a) (start_is n) ∙ of_sort (sort_no n) a

pub drop_each : {A B : Type 0} (f : A → B) (n : ℕ) (xs : List A) → map f (drop n xs) ≡ drop n (map f xs)
drop_each f zero xs = refl
drop_each f (suc n) [] = refl
drop_each f (suc n) (x ∷ xs) = drop_each f n xs
