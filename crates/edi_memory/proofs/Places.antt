-- The first place of which a test is true, as the library tells it and as a state's slots do.
use Rattle.std.proofs.Common.{◌≡◌, ℕ, suc, ◌+◌, ◌<◌, Bool, true, false, not, cond, List, [], ◌∷◌, length, Option, Some, None, refl, sym, ap, ◌∙◌}
use Rattle.std.proofs.Common.{arith, inl, inr, lt-ltb, le-ltb}
use Rattle.std.proofs.lemmas.Bool.{cases_lt}
use Rattle.std.specs.Prelude.{if◌then◌else◌, nat_lt, position, IfSome}
use Rattle.std.specs.List.{position_or_len}
use Rattle.std.specs.Option.{option_map}
use Rattle.edi_calls.specs.State.{File, first_index}
use Rattle.edi_calls.proofs.Indices.{first_index-found}

one_later : (n count : ℕ) (r : Option ℕ) → cond (nat_lt n count) (Some n) None ≡ r → cond (nat_lt (1 + n) (suc count)) (Some (1 + n)) None ≡ option_map suc r
one_later n count r h =
    elim (cases_lt n count) [
      | inl less ↦
          ap (λ b. cond b (Some (1 + n)) None) (lt-ltb (1 + n) (suc count) (omega arith))
          ∙ ap (λ m. Some m) (let one : 1 + n ≡ suc n = omega arith in one)
          ∙ ap (option_map suc) (sym (ap (λ b. cond b (Some n) None) (lt-ltb n count less)) ∙ h)
      | inr past ↦
          ap (λ b. cond b (Some (1 + n)) None) (le-ltb (1 + n) (suc count) (omega arith))
          ∙ ap (option_map suc) (sym (ap (λ b. cond b (Some n) None) (le-ltb n count past)) ∙ h)
    ]

pub first_place : (test : Option File → Bool) (slots : List (Option File)) → position test slots ≡ first_index test slots
first_place test [] = refl
first_place test (slot ∷ slots) = go (test slot) (first_place test slots)
  where
    n : ℕ
    n = position_or_len test slots

    go : (b : Bool) → position test slots ≡ first_index test slots
        → cond (nat_lt (cond (not b) (1 + n) 0) (suc (length slots))) (Some (cond (not b) (1 + n) 0)) None
        ≡ (if b then Some 0 else option_map suc (first_index test slots))
    go true h = ap (λ b. cond b (Some 0) None) (lt-ltb 0 (suc (length slots)) (omega arith))
    go false h = one_later n (length slots) (first_index test slots) h

-- such a place is one of the slots
pub within_slots : (test : Option File → Bool) (slots : List (Option File)) (r : Option ℕ) → r ≡ first_index test slots → IfSome r (λ index. index < length slots)
within_slots test slots None h = tt
within_slots test slots (Some index) h = (first_index-found test slots index (sym h)).within
