-- What comes of one symbol where one is waited for, and where nothing is but the end of the text.
use Rattle.std.proofs.Common.{◌≡◌, ℕ, suc, ◌<◌, ◌≤◌, ◌+◌, ◌-◌, ◌^◌, List, [], ◌∷◌, ◌++◌, Bool, true, false, Option, Some, None, MatchOption, option_to_list, length, refl, sym, ap, ◌∙◌, subst, arith}
use Rattle.std.specs.Prelude.{if◌then◌else◌, ◌==◌, nat_le}
use Rattle.std.proofs.lemmas.Bool.{eqb-true, le-leb, lt-ltb}
use Rattle.edi_grammar.specs.Grammar.{Part, token, level}
use Rattle.edi_grammar.specs.Parser.{done, taken, other, over}
use Rattle.edi_grammar.specs.Kinds as kind
use Rattle.edi_grammar.specs.Rules.{Sort, opens}
use Rattle.edi_grammar.specs.Edison.{edison}
use Rattle.edi_explain.specs.expected.Awaited.{end_with, ends_on, first_part, gives_way, level_with, levels_on, part_no, waits}
use Rattle.edi_explain.specs.expected.Numbered.{taken_at}
use Rattle.edi_explain.specs.expected.Advances.{Advances, Front, Leads}
use Rattle.edi_explain.specs.declared.expected.parser.Step.{Step}
use Rattle.edi_explain.specs.declared.expected.parser.Step.TheVariants as step
use Rattle.edi_explain.proofs.expected.Costs.{cost}
use Rattle.edi_explain.proofs.expected.Numbers.{GivesWay, levels_same, symbol_back, then_leads, waits_more}

levels_are : (numbers : List ℕ) → level edison (waits numbers) 0 ≡ levels_on numbers 0
levels_are numbers = levels_same numbers (token kind.End_of_text ∷ [])

module _ (wanted a : ℕ) (numbers : List ℕ) (some : 1 ≤ wanted) (known : wanted ≤ 50) where
  is : part_no wanted ≡ token wanted
  is = symbol_back wanted (lt-ltb 0 wanted some) (le-leb wanted 50 known)

  as_symbol : (s : Step) → Advances (token wanted ∷ waits numbers) (waits numbers) a s → Advances (part_no wanted ∷ waits numbers) (waits numbers) a s
  as_symbol s h = subst (λ p. Advances (p ∷ waits numbers) (waits numbers) a s) (sym is) h

  pub wrong_symbol : (wanted ≡ a → ⊥) → Advances (part_no wanted ∷ waits numbers) (waits numbers) a step.Wrong
  wrong_symbol ne = as_symbol step.Wrong (λ s e words. other wanted s (waits numbers) words (λ same. ne (sym same ∙ e)))

  pub deep_symbol : wanted ≡ a → opens a ≡ true → 64 < levels_on numbers 0 → Advances (part_no wanted ∷ waits numbers) (waits numbers) a step.TooDeep
  deep_symbol same o deep = as_symbol step.TooDeep (
    o,
    λ s e words. over wanted s (waits numbers) words (e ∙ sym same) (subst (λ k. opens k ≡ true) (sym same) o)
        (subst (λ n. 64 < n) (sym (levels_are numbers)) deep),
  )

  pub taken_symbol : wanted ≡ a → (opens a ≡ true → levels_on numbers 0 ≤ 64) → Advances (part_no wanted ∷ waits numbers) (waits numbers) a step.Taken
  taken_symbol same few = as_symbol step.Taken (record {
    some = subst (λ k. 1 ≤ k) same some;
    go = λ s e words y r h. taken wanted s (waits numbers) words r y (e ∙ sym same)
        (λ o. subst (λ n. n ≤ 64) (sym (levels_are numbers)) (few (subst (λ k. opens k ≡ true) same o))) h;
  })

  pub plain_symbol : wanted ≡ a → opens a ≡ false → Advances (part_no wanted ∷ waits numbers) (waits numbers) a step.Taken
  plain_symbol same none = taken_symbol same (λ o. let no : false ≡ true = sym none ∙ o in absurd (cc))

  pub few_levels : wanted ≡ a → levels_on numbers 0 ≤ 64 → Advances (part_no wanted ∷ waits numbers) (waits numbers) a step.Taken
  few_levels same few = taken_symbol same (λ o. few)

-- ---- ends of levels

ends_more : (u v : List ℕ) (ends : ℕ) → ends_on (u ++ v) ends ≡ ends_on v (ends_on u ends)
ends_more [] v ends = refl
ends_more (n ∷ u) v ends = ends_more u v (end_with n ends)

no_more : (n levels ends : ℕ) → levels ≤ ends → level_with n levels ≤ end_with n ends
no_more n levels ends most = by (n == 0) refl (nat_le n 50) refl where
  by : (b : Bool) → (n == 0) ≡ b → (c : Bool) → nat_le n 50 ≡ c → level_with n levels ≤ end_with n ends
  by true e c f = rw (e) (omega (arith, most))
  by false e true f = rw (e, f) (omega (arith, most))
  by false e false f = rw (e, f) most

no_more_on : (numbers : List ℕ) (levels ends : ℕ) → levels ≤ ends → levels_on numbers levels ≤ ends_on numbers ends
no_more_on [] levels ends most = most
no_more_on (n ∷ numbers) levels ends most = no_more_on numbers (level_with n levels) (end_with n ends) (no_more n levels ends most)

pub few_ends : (numbers : List ℕ) (ends most : ℕ) → ends ≡ ends_on numbers 0 → ends ≤ most → levels_on numbers 0 ≤ most
few_ends numbers ends most e few = let no : levels_on numbers 0 ≤ ends_on numbers 0 = no_more_on numbers 0 0 (omega arith) in omega (arith, e, few, no)

-- there are no more of them than numbers
ends_fit : (numbers : List ℕ) (ends : ℕ) → ends_on numbers ends ≤ ends + length numbers
ends_fit [] ends = omega arith
ends_fit (n ∷ numbers) ends = by (n == 0) refl (ends_fit numbers (suc ends)) (ends_fit numbers ends) where
  by : (b : Bool) → (n == 0) ≡ b → ends_on numbers (suc ends) ≤ suc ends + length numbers → ends_on numbers ends ≤ ends + length numbers
      → ends_on numbers (end_with n ends) ≤ ends + length (n ∷ numbers)
  by true e more same = rw (e) (omega (arith, more))
  by false e more same = rw (e) (omega (arith, same))

-- so they can be counted
pub few_for : (numbers : List ℕ) (ends many cap : ℕ) → ends ≡ ends_on numbers 0 → many ≡ length numbers → many ≤ cap → cap < 2 ^ 63 → ends < 2 ^ 63
few_for numbers ends many cap e is most small = omega (arith, e, is, most, small, ends_fit numbers 0)

pub ends_front : (items front : List ℕ) (number ends : ℕ) → Front items front (Some number) → ends ≡ ends_on items 0
    → ends ≡ end_with number (ends_on front 0)
ends_front items front number ends e counted = counted ∙ ap (λ l. ends_on l 0) e ∙ ends_more front (number ∷ []) 0

pub symbol_ends : (number ends : ℕ) → 1 ≤ number → end_with number ends ≡ ends
symbol_ends number ends some = by (number == 0) refl where
  by : (b : Bool) → (number == 0) ≡ b → end_with number ends ≡ ends
  by true e = let none : number ≡ 0 = eqb-true number 0 e in absurd (omega (arith, none, some))
  by false e = ap (λ b. if b then suc ends else ends) e

pub none_ends : (items front : List ℕ) (ends : ℕ) → Front items front None → ends ≡ ends_on items 0 → ends ≡ ends_on front 0
none_ends items front ends e counted = counted ∙ ap (λ l. ends_on l 0) (e.0 ∙ sym e.1)

-- after one that ends, and after a rule in place of a part
pub one_less : (numbers new : List ℕ) (number ends left : ℕ) → number ≡ 0 → new ≡ numbers → ends ≡ end_with number (ends_on numbers 0) → left ≡ ends - 1
    → left ≡ ends_on new 0
one_less numbers new number ends left none same counted e =
    let many : ends ≡ suc (ends_on numbers 0) = counted ∙ ap (λ n. end_with n (ends_on numbers 0)) none in
    let less : suc (ends_on numbers 0) - 1 ≡ ends_on numbers 0 = omega arith in
    e ∙ ap (λ n. n - 1) many ∙ less ∙ ap (λ l. ends_on l 0) (sym same)

pub rule_ends : (numbers rule new : List ℕ) (number ends more : ℕ) → (number ≡ 0 → ⊥) → new ≡ numbers ++ rule → ends ≡ end_with number (ends_on numbers 0)
    → more ≡ ends_on rule ends → more ≡ ends_on new 0
rule_ends numbers rule new number ends more some same counted e =
    let one : 1 ≤ number = omega (arith, some) in
    e ∙ ap (λ n. ends_on rule n) (counted ∙ symbol_ends number (ends_on numbers 0) one) ∙ sym (ends_more numbers rule 0) ∙ ap (λ l. ends_on l 0) (sym same)

pub gives_rule : (numbers rule new : List ℕ) (number a : ℕ) → (number ≡ 0 → ⊥) → new ≡ numbers ++ rule → rule ≡ taken_at (number - first_part) a
    → new ≡ gives_way numbers number a
gives_rule numbers rule new number a some same is_rule = by (number == 0) refl where
  by : (b : Bool) → (number == 0) ≡ b → new ≡ gives_way numbers number a
  by true e = absurd (some (eqb-true number 0 e))
  by false e = same ∙ ap (λ l. numbers ++ l) is_rule ∙ sym (ap (λ b. if b then numbers else numbers ++ taken_at (number - first_part) a) e)

-- ---- the end of the text

pub whole_at_end : (a : ℕ) → a ≡ 0 → Advances (waits []) (waits []) a step.Whole
whole_at_end a none = record {
  none = none;
  go = λ s e words. taken kind.End_of_text s [] words words _ (e ∙ none) (λ o. let no : false ≡ true = o in absurd (cc)) (done words);
}

pub wrong_at_end : (a : ℕ) → (a ≡ 0 → ⊥) → Advances (waits []) (waits []) a step.Wrong
wrong_at_end a some = λ s e words. other kind.End_of_text s [] words (λ same. some (sym e ∙ same))

-- ---- from there to a symbol

pub last_off : (items front : List ℕ) (number : ℕ) → items ≡ front ++ number ∷ [] → waits items ≡ part_no number ∷ waits front
last_off items front number e = ap waits e ∙ waits_more front (number ∷ []) (token kind.End_of_text ∷ [])

pub advances_from : (from to new : List (Part Sort)) (a : ℕ) (s : Step) → Leads from to a → Advances to new a s → Advances from new a s
advances_from from to new a step.Taken l h = record { some = h.some; go = λ s e words y r st. l.go s e words y r (h.go s e words y r st) }
advances_from from to new a step.Wrong l h = λ s e words. l.go s e words _ _ (h s e words)
advances_from from to new a step.TooDeep l h = (h.0, λ s e words. l.go s e words _ _ (h.1 s e words))
advances_from from to new a step.Whole l h = record { none = h.none; go = λ s e words. l.go s e words _ _ (h.go s e words) }

pub none_in : (l : List ℕ) → length l ≡ 0 → l ≡ []
none_in [] h = refl
none_in (a ∷ l) h = absurd (omega (arith, h))

pub front_taken : (old new : List ℕ) (many left : ℕ) (r : Option ℕ) → many ≡ length old → left ≡ length new → old ≡ new ++ option_to_list r
    → MatchOption r ((many ≡ 0) × (left ≡ 0)) (λ n. left + 1 ≡ many) → Front old new r
front_taken old new many left (Some number) long rest e cases = e
front_taken old new many left None long rest e cases = (none_in old (sym long ∙ cases.0), none_in new (sym rest ∙ cases.1))

pub at_front : (from : List (Part Sort)) (items front : List ℕ) (number a : ℕ) (s : Step) → Leads from (waits items) a → Front items front (Some number)
    → Advances (part_no number ∷ waits front) (waits front) a s → Advances from (waits front) a s
at_front from items front number a s l e h =
    advances_from from (waits items) (waits front) a s l (subst (λ x. Advances x (waits front) a s) (sym (last_off items front number e)) h)

pub at_none : (from : List (Part Sort)) (items front : List ℕ) (a : ℕ) (s : Step) → Leads from (waits items) a → Front items front None
    → Advances (waits []) (waits []) a s → Advances from (waits front) a s
at_none from items front a s l e h =
    advances_from from (waits items) (waits front) a s l
    (subst (λ n. Advances (waits items) (waits n) a s) (sym e.1) (subst (λ n. Advances (waits n) (waits []) a s) (sym e.0) h))

-- what is in front has given way
pub record GoesOn (from : List (Part Sort)) (items new : List ℕ) (a : ℕ) : Type 0 where
  pub leads : Leads from (waits new) a
  pub falls : cost (waits new) < cost (waits items)

pub goes_on : (from : List (Part Sort)) (items front new : List ℕ) (number a : ℕ) → Leads from (waits items) a → Front items front (Some number)
    → GivesWay number front new a → GoesOn from items new a
goes_on from items front new number a l e g =
    let same = last_off items front number e in
    record {
      leads = then_leads from (waits items) (waits new) a l (subst (λ x. Leads x (waits new) a) (sym same) g.leads);
      falls = subst (λ x. cost (waits new) < cost x) (sym same) g.falls;
    }
