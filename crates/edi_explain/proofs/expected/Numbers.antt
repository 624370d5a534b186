-- The rules in numbers are the rules of the grammar.
use Rattle.std.proofs.Common.{◌≡◌, ◌≤◌, ℕ, suc, ◌-◌, ◌<◌, List, [], ◌∷◌, ◌++◌, Bool, true, false, Some, refl, sym, ap, ◌∙◌, subst, arith}
use Rattle.std.specs.Prelude.{if◌then◌else◌, ◌==◌, ◌&&◌, nat_eq, nat_le, nat_lt}
use Rattle.std.proofs.lemmas.Bool.{ltb-true, ltb-false, eqb-true, eqb-false, eq-eqb, ne_eqb}
use Rattle.edi_explain.specs.told.Groups.{is_among}
use Rattle.edi_grammar.specs.Grammar.{Part, token, level_end, part, rule_no, level}
use Rattle.edi_grammar.specs.Parser.{has, null_of, selects, pick, rule_at, Stops, closed, chosen}
use Rattle.edi_grammar.specs.Kinds as kind
use Rattle.edi_grammar.specs.Rules.{Sort, Program}
use Rattle.edi_grammar.specs.Edison.{edison, null}
use Rattle.edi_explain.specs.expected.Numbered.{taken_at}
use Rattle.edi_explain.specs.expected.Awaited.{sort_no, part_no, number_of, waits_on, waits, in_numbers, rows_from, rows_of, taken_from, gives_way}
use Rattle.edi_explain.specs.expected.Awaited.{first_part, level_with, levels_on}
use Rattle.edi_explain.specs.expected.Advances.{Leads}
use Rattle.edi_explain.proofs.expected.Rows.{taken_is}
use Rattle.edi_explain.proofs.expected.Costs.{cost, weight, falls}

pub both_left : (a b : Bool) → (a && b) ≡ true → a ≡ true
both_left true b h = refl
both_left false b h = h

pub both_right : (a b : Bool) → (a && b) ≡ true → b ≡ true
both_right true b h = h
both_right false b h = absurd (cc)

-- ---- numbers and parts

-- a symbol of a rule has a number of its own
abbrev plain : Part Sort → Bool
plain (token a) = nat_lt 0 a && nat_le a 50
plain p = true

abbrev all_plain : List (Part Sort) → Bool
all_plain [] = true
all_plain (p ∷ rule) = plain p && all_plain rule

pub symbol_back : (a : ℕ) → nat_lt 0 a ≡ true → nat_le a 50 ≡ true → part_no a ≡ token a
symbol_back a some known = by (a == 0) refl where
  by : (b : Bool) → (a == 0) ≡ b → part_no a ≡ token a
  by true e = absurd (grind (arith, e, some))
  by false e = ap (λ b. if b then level_end else if nat_le a 50 then token a else part (sort_no (a - first_part))) e
      ∙ ap (λ b. if b then token a else part (sort_no (a - first_part))) known

sort_back : (k : Sort) → part_no (number_of (part k)) ≡ part k
sort_back Program = refl
sort_back k = refl

back_one : (p : Part Sort) → plain p ≡ true → part_no (number_of p) ≡ p
back_one level_end h = refl
back_one (token a) h = symbol_back a (both_left _ _ h) (both_right _ _ h)
back_one (part k) h = sort_back k

pub waits_more : (u v : List ℕ) (x : List (Part Sort)) → waits_on (u ++ v) x ≡ waits_on v (waits_on u x)
waits_more [] v x = refl
waits_more (n ∷ u) v x = waits_more u v (part_no n ∷ x)

back : (rule x : List (Part Sort)) → all_plain rule ≡ true → waits_on (in_numbers rule) x ≡ rule ++ x
back [] x h = refl
back (p ∷ rule) x h =
    waits_more (in_numbers rule) (number_of p ∷ []) x ∙ ap (λ q. q ∷ waits_on (in_numbers rule) x) (back_one p (both_left _ _ h))
    ∙ ap (λ l. p ∷ l) (back rule x (both_right _ _ h))

-- ---- the rule that is taken

abbrev fine : Sort → List (Part Sort) → Bool
fine k rule = all_plain rule && (nat_lt (cost rule) (weight k) && (if null_of edison rule then null k else true))

-- some rules, and each of them is fine
abbrev all_fine : Sort → List (List (Part Sort)) → Bool
all_fine k [] = false
all_fine k (rule ∷ []) = fine k rule
all_fine k (rule ∷ other ∷ more) = fine k rule && all_fine k (other ∷ more)

each_fine : (k : Sort) → all_fine k (edison.rules k) ≡ true
each_fine Program = refl
each_fine k = refl

among_has : (a : ℕ) (kinds : List ℕ) → is_among a kinds ≡ has a kinds
among_has a [] = refl
among_has a (b ∷ kinds) = by (nat_eq a b) refl (among_has a kinds) where
  by : (t : Bool) → nat_eq a b ≡ t → is_among a kinds ≡ has a kinds → is_among a (b ∷ kinds) ≡ (if nat_eq a b then true else has a kinds)
  by true e more = rw (e, eq-eqb b a (sym (eqb-true a b e))) refl
  by false e more = rw (e, ne_eqb b a (λ s. eqb-false a b e (sym s))) more

record Picked (k : Sort) (a : ℕ) (rules : List (List (Part Sort))) (last : List ℕ) : Type 0 where
  rule : List (Part Sort)
  at : rule_no rules (pick edison k a rules) ≡ Some rule
  taken : taken_from last (rows_from k rules) a ≡ in_numbers rule
  is_fine : fine k rule ≡ true

pick_in : (k : Sort) (a : ℕ) (rules : List (List (Part Sort))) (last : List ℕ) → all_fine k rules ≡ true → Picked k a rules last
pick_in k a [] last h = absurd (cc)
pick_in k a (rule ∷ []) last h = record { rule = rule; at = refl; taken = refl; is_fine = h }
pick_in k a (rule ∷ other ∷ more) last h = by (has a (selects edison k rule)) refl (among_has a (selects edison k rule))
    (pick_in k a (other ∷ more) (in_numbers rule) (both_right _ _ h)) where
      by : (b : Bool) → has a (selects edison k rule) ≡ b → is_among a (selects edison k rule) ≡ has a (selects edison k rule)
          → Picked k a (other ∷ more) (in_numbers rule) → Picked k a (rule ∷ other ∷ more) last
      by true e i c = record {
        rule = rule;
        at = ap (λ b. rule_no (rule ∷ other ∷ more) (if b then 0 else suc (pick edison k a (other ∷ more)))) e;
        taken = ap (λ b. if b then in_numbers rule else taken_from (in_numbers rule) (rows_from k (other ∷ more)) a) (i ∙ e);
        is_fine = both_left _ _ h;
      }
      by false e i c = record {
        rule = c.rule;
        at = ap (λ b. rule_no (rule ∷ other ∷ more) (if b then 0 else suc (pick edison k a (other ∷ more)))) e ∙ c.at;
        taken = ap (λ b. if b then in_numbers rule else taken_from (in_numbers rule) (rows_from k (other ∷ more)) a) (i ∙ e) ∙ c.taken;
        is_fine = c.is_fine;
      }

-- ---- one step

pub same_leads : (x : List (Part Sort)) (kind : ℕ) → Leads x x kind
same_leads x kind = record { go = λ s e words y r h. h }

pub then_leads : (x y z : List (Part Sort)) (kind : ℕ) → Leads x y kind → Leads y z kind → Leads x z kind
then_leads x y z kind f g = record { go = λ s e words w r h. f.go s e words w r (g.go s e words w r h) }

-- what one number in front gives way to
pub record GivesWay (number : ℕ) (old new : List ℕ) (kind : ℕ) : Type 0 where
  pub leads : Leads (part_no number ∷ waits old) (waits new) kind
  pub falls : cost (waits new) < cost (part_no number ∷ waits old)

pub level_ends : (number : ℕ) (old : List ℕ) (kind : ℕ) → number ≡ 0 → GivesWay number old old kind
level_ends number old kind e =
    subst (λ n. GivesWay n old old kind) (sym e)
    (record { leads = record { go = λ s e words y r h. closed (waits old) (s ∷ words) r y h }; falls = omega arith })

part_at : (number : ℕ) → 50 < number → part_no number ≡ part (sort_no (number - first_part))
part_at number great =
    let none : (number == 0) ≡ false = grind (arith, great) in
    let more : nat_le number 50 ≡ false = grind (arith, great) in
    ap (λ b. if b then level_end else if nat_le number 50 then token number else part (sort_no (number - first_part))) none
    ∙ ap (λ b. if b then token number else part (sort_no (number - first_part))) more

rule_way : (k : Sort) (old : List ℕ) (a : ℕ) → (Leads (part k ∷ waits old) (waits (old ++ taken_from [] (rows_of k) a)) a)
    × (cost (waits (old ++ taken_from [] (rows_of k) a)) < cost (part k ∷ waits old))
rule_way k old a =
    let c = pick_in k a (edison.rules k) [] (each_fine k) in
    let fine_rest = both_right _ _ c.is_fine in
    let same : waits (old ++ taken_from [] (rows_of k) a) ≡ c.rule ++ waits old =
    waits_more old (taken_from [] (rows_of k) a) (token kind.End_of_text ∷ []) ∙ ap (λ t. waits_on t (waits old)) c.taken
    ∙ back c.rule (waits old) (both_left _ _ c.is_fine) in (
      record {
        go = λ s e words y r h. chosen k c.rule (waits old) s words r y (ap (rule_at edison k) e ∙ c.at) (subst (λ x. Stops edison 64 x (s ∷ words) y r) same h);
      },
      subst (λ x. cost x < cost (part k ∷ waits old)) (sym same)
          (falls k c.rule (waits old) (ltb-true (cost c.rule) (weight k) (both_left _ _ fine_rest)) (both_right _ _ fine_rest)),
    )

pub rule_taken : (number : ℕ) (old new : List ℕ) (a : ℕ) → 50 < number
    → new ≡ old ++ taken_from [] (rows_of (sort_no (number - first_part))) a → GivesWay number old new a
rule_taken number old new a great e =
    let way = rule_way (sort_no (number - first_part)) old a in
    let is = part_at number great in
    record {
      leads = subst (λ p. Leads (p ∷ waits old) (waits new) a) (sym is)
          (subst (λ n. Leads (part (sort_no (number - first_part)) ∷ waits old) (waits n) a) (sym e) way.0);
      falls = subst (λ p. cost (waits new) < cost (p ∷ waits old)) (sym is)
          (subst (λ n. cost (waits n) < cost (part (sort_no (number - first_part)) ∷ waits old)) (sym e) way.1);
    }

-- any number but that of a symbol gives way
pub gives : (number : ℕ) (old new : List ℕ) (a : ℕ) → (0 < number → number < 51 → ⊥) → new ≡ gives_way old number a → GivesWay number old new a
gives number old new a not_symbol e = by (number == 0) refl where
  by : (b : Bool) → (number == 0) ≡ b → GivesWay number old new a
  by true t =
      let same : new ≡ old = e ∙ ap (λ b. if b then old else old ++ taken_at (number - first_part) a) t in
      subst (λ n. GivesWay number old n a) (sym same) (level_ends number old a (eqb-true number 0 t))
  by false t = great (nat_lt 50 number) refl where
    great : (b : Bool) → nat_lt 50 number ≡ b → GivesWay number old new a
    great true g = rule_taken number old new a (ltb-true 50 number g)
        (e ∙ ap (λ b. if b then old else old ++ taken_at (number - first_part) a) t ∙ ap (λ l. old ++ l) (taken_is (number - first_part) a))
    great false g =
        let few : number ≤ 50 = ltb-false 50 number g in
        let some : number ≡ 0 → ⊥ = eqb-false number 0 t in
        absurd (not_symbol (omega (arith, some)) (omega (arith, few)))

-- ---- levels

level_one : (n : ℕ) (x : List (Part Sort)) → level edison (part_no n ∷ x) 0 ≡ level_with n (level edison x 0)
level_one n x = by (n == 0) refl (nat_le n 50) refl where
  by : (b : Bool) → (n == 0) ≡ b → (c : Bool) → nat_le n 50 ≡ c → level edison (part_no n ∷ x) 0 ≡ level_with n (level edison x 0)
  by true e c f = rw (e) refl
  by false e true f = rw (e, f) refl
  by false e false f = rw (e, f) refl

pub levels_same : (numbers : List ℕ) (x : List (Part Sort)) → level edison (waits_on numbers x) 0 ≡ levels_on numbers (level edison x 0)
levels_same [] x = refl
levels_same (n ∷ numbers) x = levels_same numbers (part_no n ∷ x) ∙ ap (λ k. levels_on numbers k) (level_one n x)
