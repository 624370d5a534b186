-- The names of a record's fields.
use Rattle.std.proofs.Common.{◌≡◌, ℕ, suc, ◌+◌, Bool, true, false, ◌||◌, nat_lt, Vec, List, [], ◌∷◌, ◌++◌, length, Some, None, refl, sym, ap, ◌∙◌, arith}
use Rattle.std.proofs.lemmas.Bool.Decides.{nat_tests}
use Rattle.std.proofs.lemmas.List.{map-append}
use Rattle.std.specs.Cmp.Lexicographic.{nat_list_eq_equiv}
use Rattle.std.specs.Global.{Global}
use Rattle.std.specs.List.{list_any, position, position_or_len}
use Rattle.std.specs.Prelude.{cond, if◌then◌else◌, map, not, option_map}
use Rattle.std.specs.Str.{bytes_eq}
use Rattle.indexmap.specs.IndexSet.{insert_key}
use Rattle.edi_static.specs.Fitting.{index_of_name}

-- whether one of these names is spelled so
any_spelled : (name : List ℕ) (names : List (Vec ℕ Global)) → list_any (λ k. bytes_eq name k.items) names ≡ list_any (bytes_eq name) (map (λ k. k.items) names)
any_spelled name [] = refl
any_spelled name (k ∷ names) = ap (λ b. bytes_eq name k.items || b) (any_spelled name names)

pub is_new : (names : List (Vec ℕ Global)) (copy : Vec ℕ Global) (name : List ℕ) (answer : Bool) → copy.items ≡ name →
    answer ≡ not (list_any (λ k. bytes_eq copy.items k.items) names) → answer ≡ not (list_any (bytes_eq name) (map (λ k. k.items) names))
is_new names copy name answer same e = e ∙ ap not (any_spelled copy.items names) ∙ ap (λ n. not (list_any (bytes_eq n) (map (λ k. k.items) names))) same

-- a new name goes behind the others
pub put_behind : (old new : List (Vec ℕ Global)) (copy : Vec ℕ Global) (name : List ℕ) (answer : Bool) → copy.items ≡ name →
    answer ≡ not (list_any (λ k. bytes_eq copy.items k.items) old) → new ≡ insert_key (λ x y. bytes_eq x.items y.items) old copy → answer ≡ true →
    map (λ k. k.items) new ≡ map (λ k. k.items) old ++ name ∷ []
put_behind old new copy name answer same e put added =
    ap (map (λ k. k.items)) put ∙ by (list_any (λ k. bytes_eq copy.items k.items) old) (sym e ∙ added)
  where
    by : (b : Bool) → not b ≡ true → map (λ (k : Vec ℕ Global). k.items) (if b then old else old ++ copy ∷ []) ≡ map (λ k. k.items) old ++ name ∷ []
    by true n = absurd (cc)
    by false n = map-append (λ (k : Vec ℕ Global). k.items) old (copy ∷ []) ∙ ap (λ n. map (λ (k : Vec ℕ Global). k.items) old ++ n ∷ []) same

-- the index of a name, by two definitions
module _ (name : List ℕ) where
  step : (here : Bool) (found many : ℕ) →
      cond (nat_lt (cond (not here) (1 + found) 0) (suc many)) (Some (cond (not here) (1 + found) 0)) None
      ≡ (if here then Some 0 else option_map (λ n. suc n) (cond (nat_lt found many) (Some found) None))
  step true found many = let t : nat_lt 0 (suc many) ≡ true = grind (arith, nat_tests) in ap (λ b. cond b (Some 0) None) t
  step false found many = later (nat_lt found many) refl
    where
      later : (less : Bool) → nat_lt found many ≡ less →
          cond (nat_lt (1 + found) (suc many)) (Some (1 + found)) None ≡ option_map (λ n. suc n) (cond less (Some found) None)
      later true e =
          let t : nat_lt (1 + found) (suc many) ≡ true = grind (arith, nat_tests, e) in
          let next : 1 + found ≡ suc found = omega arith in
          ap (λ b. cond b (Some (1 + found)) None) t ∙ ap Some next
      later false e =
          let t : nat_lt (1 + found) (suc many) ≡ false = grind (arith, nat_tests, e) in
          ap (λ b. cond b (Some (1 + found)) None) t

  pub index_is : (names : List (Vec ℕ Global)) → position (λ k. bytes_eq name k.items) names ≡ index_of_name (map (λ k. k.items) names) name
  index_is [] = refl
  index_is (k ∷ names) =
      step (bytes_eq name k.items) (position_or_len (λ k. bytes_eq name k.items) names) (length names)
      ∙ ap (λ b. if b then Some 0 else option_map (λ n. suc n) (position (λ k. bytes_eq name k.items) names)) (nat_list_eq_equiv.symm name k.items)
      ∙ ap (λ o. if bytes_eq k.items name then Some 0 else option_map (λ n. suc n) o) (index_is names)
