-- The predictive parser of Edison stops on all marks, in one of its three ways.
use Rattle.std.proofs.Common.{◌≡◌, ◌⊎◌, ℕ, zero, suc, ◌<◌, ◌≤◌, List, [], ◌∷◌, ◌++◌, Bool, true, false, Option, Some, None, refl, sym, ◌∙◌, arith, inl, inr}
use Rattle.std.proofs.Common.{if◌then◌else◌}
use Rattle.std.proofs.lemmas.Bool.{cases_eq, cases_lt, ltb-true}
use Rattle.edi_lex.specs.declared.symbol.Symbol.{Symbol}
use Rattle.edi_lex.specs.declared.symbol.Symbol.TheVariants as is
use Rattle.edi_lex.specs.declared.symbol.Mark.{Mark}
use Rattle.edi_tree.specs.Spells.{to_end}
use Rattle.edi_grammar.specs.Grammar.{Part, token, level_end, part, rule_no, level}
use Rattle.edi_grammar.specs.Parser.{Why, complete, wrong, too_deep, Stops, done, taken, closed, chosen, other, over, null_of, selects, has, pick}
use Rattle.edi_grammar.specs.Kind.{kind_of, kind_at}
use Rattle.edi_grammar.specs.Rules.{Sort, opens, rules}
use Rattle.edi_grammar.specs.Edison.{edison, null, start}
use Rattle.edi_grammar.proofs.EdisonIsFair.{fair}
use Rattle.edi_texts.proofs.Rules.{left, right, height, falls, is_inner, has_rule, every_part, rule_falls}

-- how the parser stops that waits for these parts before these symbols
pub data Stopped (x : List (Part Sort)) (words : List (Option Mark)) : Type 0 where
  reads : Stops edison 64 x words complete [] → Stopped x words
  errs : (here : Option Mark) (behind : List (Option Mark)) → Stops edison 64 x words wrong (here ∷ behind) → Stopped x words
  sinks : (m : Mark) (behind : List (Option Mark)) → Stops edison 64 x words too_deep (Some m ∷ behind) → Stopped x words

moved : (x z : List (Part Sort)) (words more : List (Option Mark))
    → ((y : Why) (r : List (Option Mark)) → Stops edison 64 x words y r → Stops edison 64 z more y r)
    → Stopped x words → Stopped z more
moved x z words more go (reads s) = reads (go complete [] s)
moved x z words more go (errs here behind s) = errs here behind (go wrong (here ∷ behind) s)
moved x z words more go (sinks m behind s) = sinks m behind (go too_deep (Some m ∷ behind) s)

-- the parts end with the end of the text, which stands nowhere else in them
abbrev pub is_whole : List (Part Sort) → Bool
is_whole [] = false
is_whole (token zero ∷ []) = true
is_whole (token zero ∷ p ∷ x) = false
is_whole (token (suc a) ∷ x) = is_whole x
is_whole (level_end ∷ x) = is_whole x
is_whole (part k ∷ x) = is_whole x

whole_behind : (z x : List (Part Sort)) → is_inner z ≡ true → is_whole x ≡ true → is_whole (z ++ x) ≡ true
whole_behind [] x i w = w
whole_behind (token zero ∷ z) x i w = cc
whole_behind (token (suc a) ∷ z) x i w = whole_behind z x i w
whole_behind (level_end ∷ z) x i w = whole_behind z x i w
whole_behind (part k ∷ z) x i w = whole_behind z x i w

-- a rule is taken in each part
picked : (k : Sort) (a : ℕ) (more : List (List (Part Sort))) → has_rule more ≡ true
    → (rule : List (Part Sort)) × (rule_no more (pick edison k a more) ≡ Some rule)
picked k a [] h = cc
picked k a (rule ∷ []) h = (rule, refl)
picked k a (rule ∷ next ∷ more) h = by (has a (selects edison k rule)) (picked k a (next ∷ more) refl) where
  by : (b : Bool) → (r : List (Part Sort)) × (rule_no (next ∷ more) (pick edison k a (next ∷ more)) ≡ Some r)
      → (r : List (Part Sort)) × (rule_no (rule ∷ next ∷ more) (if b then 0 else suc (pick edison k a (next ∷ more))) ≡ Some r)
  by true rest = (rule, refl)
  by false rest = rest

-- before this symbol, where it is known how the parser stops that waits for a symbol
module _ (s : Option Mark) (words : List (Option Mark)) (first : (a : ℕ) (x : List (Part Sort)) → is_whole (token a ∷ x) ≡ true → Stopped (token a ∷ x)
    (s ∷ words)) where
  -- it stops at this part, where it does behind the part if that may be empty
  Parts : Sort → Type 0
  Parts k = (x : List (Part Sort)) → is_whole x ≡ true → (null k ≡ true → Stopped x (s ∷ words)) → Stopped (part k ∷ x) (s ∷ words)

  -- and at the parts of a rule, which begin with lower ones
  through : (r : ℕ) → ((k : Sort) → height k < r → Parts k) → (z x : List (Part Sort)) → falls r z ≡ true → is_inner z ≡ true → is_whole x ≡ true
      → (null_of edison z ≡ true → Stopped x (s ∷ words)) → Stopped (z ++ x) (s ∷ words)
  unfolding Parts
  through r lower [] x f i w h = h refl
  through r lower (token a ∷ z) x f i w h = first a (z ++ x) (whole_behind (token a ∷ z) x i w)
  through r lower (level_end ∷ z) x f i w h = moved (z ++ x) (level_end ∷ (z ++ x)) (s ∷ words) (s ∷ words) (λ y r t. closed (z ++ x)
      (s ∷ words) r y t) (through r lower z x f i w h)
  through r lower (part k ∷ z) x f i w h =
      lower k (ltb-true _ _ (left _ _ f)) (z ++ x) (whole_behind z x i w) (by (λ g. through r lower z x g i w) (null k) refl (right _ _ f) h) where
        by : (falls r z ≡ true → (null_of edison z ≡ true → Stopped x (s ∷ words)) → Stopped (z ++ x) (s ∷ words)) → (b : Bool) → null k ≡ b
            → (if b then falls r z else true) ≡ true
            → ((if b then null_of edison z else false) ≡ true → Stopped x (s ∷ words)) → null k ≡ true → Stopped (z ++ x) (s ∷ words)
        by go true e f h n = go f h
        by go false e f h n = let no : false ≡ true = sym e ∙ n in absurd (cc)

  -- so at each part
  at_part : (n : ℕ) (k : Sort) → height k < n → Parts k
  unfolding Parts
  at_part zero k le = absurd (omega (arith, le))
  at_part (suc n) k le = λ x w h.
      let rule = picked k (kind_at s) (rules k) (left _ _ (every_part k)) in
      let tested = rule_falls (height k) (rules k) (pick edison k (kind_at s) (rules k)) rule.0 (right _ _ (every_part k)) rule.1 in
      moved (rule.0 ++ x) (part k ∷ x) (s ∷ words) (s ∷ words) (λ y r t. chosen k rule.0 x s words r y rule.1 t)
      (through (height k) (λ j low. at_part n j (omega (arith, low, le))) rule.0 x (left _ _ tested) (right _ _ tested) w
      (λ e. h (fair.null k (pick edison k (kind_at s) (rules k)) rule.0 rule.1 e)))

  -- and at all that it may wait for
  pub at_whole : (x : List (Part Sort)) → is_whole x ≡ true → Stopped x (s ∷ words)
  unfolding Parts
  at_whole [] w = cc
  at_whole (token a ∷ x) w = first a x w
  at_whole (level_end ∷ x) w = moved x (level_end ∷ x) (s ∷ words) (s ∷ words) (λ y r t. closed x (s ∷ words) r y t) (at_whole x w)
  at_whole (part k ∷ x) w = at_part (suc (height k)) k (omega arith) x w (λ e. at_whole x w)

no_end : (s : Symbol) → kind_of s ≡ 0 → ⊥
no_end (is.Chars []) e = cc
no_end (is.Chars (c ∷ [])) e = cc
no_end (is.Chars (c ∷ d ∷ more)) e = cc
no_end _ e = cc

-- a symbol that it waits for
at_symbol : (m : Mark) (marks : List Mark) → ((x : List (Part Sort)) → is_whole x ≡ true → Stopped x (to_end marks)) → (a : ℕ) (x : List (Part Sort))
    → is_whole (token a ∷ x) ≡ true
    → Stopped (token a ∷ x) (Some m ∷ to_end marks)
at_symbol m marks rest zero x w = errs (Some m) (to_end marks) (other 0 (Some m) x (to_end marks) (no_end m.symbol))
at_symbol m marks rest (suc a) x w = by_kind (cases_eq (kind_of m.symbol) (suc a)) where
  by_level : kind_of m.symbol ≡ suc a → (b : Bool) → opens (suc a) ≡ b → (64 < level edison x 0) ⊎ (level edison x 0 ≤ 64)
      → Stopped (token (suc a) ∷ x) (Some m ∷ to_end marks)
  by_level same true o (inl deep) = sinks m (to_end marks) (over (suc a) (Some m) x (to_end marks) same o deep)
  by_level same true o (inr fits) = moved x (token (suc a) ∷ x) (to_end marks) (Some m ∷ to_end marks) (λ y r t. taken (suc a) (Some m) x
      (to_end marks) r y same (λ opened. fits) t) (rest x w)
  by_level same false o levels = moved x (token (suc a) ∷ x) (to_end marks) (Some m ∷ to_end marks) (λ y r t. taken (suc a) (Some m) x
      (to_end marks) r y same (λ opened. let no : false ≡ true = sym o ∙ opened in absurd (cc)) t) (rest x w)

  by_kind : (kind_of m.symbol ≡ suc a) ⊎ (kind_of m.symbol ≡ suc a → ⊥) → Stopped (token (suc a) ∷ x) (Some m ∷ to_end marks)
  by_kind (inl same) = by_level same (opens (suc a)) refl (cases_lt 64 (level edison x 0))
  by_kind (inr differs) = errs (Some m) (to_end marks) (other (suc a) (Some m) x (to_end marks) differs)

-- the end of the text
at_end : (a : ℕ) (x : List (Part Sort)) → is_whole (token a ∷ x) ≡ true → Stopped (token a ∷ x) (None ∷ [])
at_end zero [] w = reads (taken 0 None [] [] [] complete refl (λ o. let no : false ≡ true = o in absurd (cc)) (done []))
at_end zero (p ∷ x) w = cc
at_end (suc a) x w = errs None [] (other (suc a) None x [] (λ e. let no : 0 ≡ suc a = e in cc))

stopped : (marks : List Mark) (x : List (Part Sort)) → is_whole x ≡ true → Stopped x (to_end marks)
stopped [] x w = at_whole None [] at_end x w
stopped (m ∷ marks) x w = at_whole (Some m) (to_end marks) (at_symbol m marks (stopped marks)) x w

-- so on every program's marks
pub stops : (marks : List Mark) → Stopped start (to_end marks)
stops marks = stopped marks start refl
