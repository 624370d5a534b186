-- What the conditions on the parts of a grammar give.
use Rattle.std.proofs.Common.{◌≡◌, ℕ, zero, suc, ◌+◌, ◌-◌, ◌<◌, List, [], ◌∷◌, ◌++◌, Bool, true, false, Option, Some, None, refl, sym, subst, arith}
use Rattle.std.proofs.Common.{if◌then◌else◌, ap, ◌≤◌}
use Rattle.std.proofs.lemmas.Bool.{eqb-true, ltb-true}
use Rattle.std.specs.Prelude.{nat_eq}
use Rattle.edi_grammar.specs.Grammar.{Part, token, level_end, part, Grammar, rule_no, level, opened}
use Rattle.edi_grammar.specs.Parser.{has, null_of, firsts, selects, pick}
use Rattle.edi_grammar.specs.Fair.{both, each, subset, links, below, lower, raise, balance, is_even, rule_is_fair, rules_are_fair, is_short, part_is_fair}

left : (a b : Bool) → both a b ≡ true → a ≡ true
left true b e = refl
left false b e = e

right : (a b : Bool) → both a b ≡ true → b ≡ true
right true b e = e
right false b e = cc

abbrev Five : (a b c d e : Bool) → Type 0
Five a b c d e = (a ≡ true) × (b ≡ true) × (c ≡ true) × (d ≡ true) × (e ≡ true)

five : (a b c d e : Bool) → both a (both b (both c (both d e))) ≡ true → Five a b c d e
five true true true true e h = (refl, refl, refl, refl, h)
five true true true false e h = cc
five true true false d e h = cc
five true false c d e h = cc
five false b c d e h = cc

when : (a b : Bool) → (if a then b else true) ≡ true → a ≡ true → b ≡ true
when true b e h = e
when false b e h = cc

each_at : (test : ℕ → Bool) (xs : List ℕ) → each test xs ≡ true → (a : ℕ) → has a xs ≡ true → test a ≡ true
each_at test [] e a h = cc
each_at test (x ∷ xs) e a h = by (each_at test xs (right _ _ e) a) (nat_eq a x) refl h where
  by : (has a xs ≡ true → test a ≡ true) → (b : Bool) → nat_eq a x ≡ b → (if b then true else has a xs) ≡ true → test a ≡ true
  by again true f h = subst (λ a. test a ≡ true) (sym (eqb-true a x f)) (left _ _ e)
  by again false f h = again h

pub has_left : (a : ℕ) (xs ys : List ℕ) → has a xs ≡ true → has a (xs ++ ys) ≡ true
has_left a [] ys h = grind arith
has_left a (x ∷ xs) ys h = grind (arith, has_left a xs ys)

pub has_right : (a : ℕ) (xs ys : List ℕ) → has a ys ≡ true → has a (xs ++ ys) ≡ true
has_right a [] ys h = h
has_right a (x ∷ xs) ys h = grind (arith, has_right a xs ys h)

pub some_same : {A : Type 0} (x y : A) → Some x ≡ Some y → x ≡ y
some_same x y e = cc

module _ {N S : Type 0} (g : Grammar N S) where
  -- what may follow each part within a rule of k
  abbrev pub Links : N → List (Part N) → Type 0
  Links k [] = Unit {0}
  Links k (token a ∷ x) = (g.kind (g.sample a) ≡ a) × Links k x
  Links k (level_end ∷ x) = Links k x
  Links k (part j ∷ x) = ((a : ℕ) → has a (firsts g x) ≡ true → has a (g.follow j) ≡ true)
      × (null_of g x ≡ true → (a : ℕ) → has a (g.follow k) ≡ true → has a (g.follow j) ≡ true) × Links k x

  abbrev pub Below : ℕ → List (Part N) → Type 0
  Below r [] = Unit {0}
  Below r (token a ∷ x) = (g.kind (g.sample a) ≡ a) × Below r x
  Below r (level_end ∷ x) = Below r x
  Below r (part j ∷ x) = (g.rank j < r) × Below r x

  links_of : (k : N) (x : List (Part N)) → links g k x ≡ true → Links k x
  links_of k [] e = tt
  links_of k (token a ∷ x) e = (eqb-true _ _ (left _ _ e), links_of k x (right _ _ e))
  links_of k (level_end ∷ x) e = links_of k x e
  links_of k (part j ∷ x) e = (
    each_at _ (firsts g x) (left _ _ e),
    λ h. each_at _ (g.follow k) (when _ _ (left _ _ (right _ _ e)) h),
    links_of k x (right _ _ (right _ _ e)),
  )

  below_of : (r : ℕ) (x : List (Part N)) → below g r x ≡ true → Below r x
  below_of r [] e = tt
  below_of r (token a ∷ x) e = (eqb-true _ _ (left _ _ e), below_of r x (right _ _ e))
  below_of r (level_end ∷ x) e = below_of r x e
  below_of r (part j ∷ x) e = (ltb-true _ _ (left _ _ e), below_of r x (right _ _ e))

  -- the levels of parts that are balanced do not depend on what is behind them
  balanced_token : (a m n c : ℕ) (o : Bool) (b : Option ℕ) → lower o b ≡ Some c → ((d : ℕ) → b ≡ Some d → m ≡ d + n) → m - (if o then 1 else 0) ≡ c + n
  balanced_token a m n c true None e h = cc
  balanced_token a m n c true (Some zero) e h = cc
  balanced_token a m n c true (Some (suc d)) e h = let same : d ≡ c = some_same d c e in let l : m ≡ suc d + n = h (suc d) refl in omega (arith, same, l)
  balanced_token a m n c false b e h = let l : m ≡ c + n = h c e in omega (arith, l)

  balanced_end : (m n c : ℕ) (b : Option ℕ) → raise b ≡ Some c → ((d : ℕ) → b ≡ Some d → m ≡ d + n) → suc m ≡ c + n
  balanced_end m n c None e h = cc
  balanced_end m n c (Some d) e h = let same : suc d ≡ c = some_same (suc d) c e in let l : m ≡ d + n = h d refl in omega (arith, same, l)

  balanced : (x : List (Part N)) (c n : ℕ) → balance g x ≡ Some c → level g x n ≡ c + n
  balanced [] c n e = let same : 0 ≡ c = some_same 0 c e in omega (arith, same)
  balanced (token a ∷ x) c n e = balanced_token a (level g x n) n c (g.opens a) (balance g x) e (λ d h. balanced x d n h)
  balanced (level_end ∷ x) c n e = balanced_end (level g x n) n c (balance g x) e (λ d h. balanced x d n h)
  balanced (part k ∷ x) c n e = balanced x c n e

  even_of : (x : List (Part N)) (n : ℕ) (b : Option ℕ) → balance g x ≡ b → is_even b ≡ true → level g x n ≡ n
  even_of x n None e h = cc
  even_of x n (Some c) e h = let none : c ≡ 0 = eqb-true c 0 h in let l : level g x n ≡ c + n = balanced x c n e in omega (arith, none, l)

  at_rule : (k : N) (j : ℕ) (xs : List (List (Part N))) → rules_are_fair g k j xs ≡ true → (i : ℕ) (x : List (Part N)) → rule_no xs i ≡ Some x
      → rule_is_fair g k (i + j) x ≡ true
  at_rule k j [] e i x h = cc
  at_rule k j (y ∷ xs) e zero x h = let same : y ≡ x = some_same y x h in let none : 0 + j ≡ j = omega arith in
      rw none (subst (λ x. rule_is_fair g k j x ≡ true) same (left _ _ e))
  at_rule k j (y ∷ xs) e (suc i) x h = let same : i + suc j ≡ suc i + j = omega arith in
      subst (λ n. rule_is_fair g k n x ≡ true) same (at_rule k (suc j) xs (right _ _ e) i x h)

  -- each level that opens in these parts ends in them or behind them
  abbrev pub Sane : List (Part N) → Type 0
  Sane [] = Unit {0}
  Sane (token a ∷ x) = (opened g a ≤ level g x 0) × Sane x
  Sane (level_end ∷ x) = Sane x
  Sane (part k ∷ x) = Sane x

  pub level_both : (x y : List (Part N)) (n : ℕ) → level g (x ++ y) n ≡ level g x (level g y n)
  level_both [] y n = refl
  level_both (token a ∷ x) y n = ap (λ m. m - opened g a) (level_both x y n)
  level_both (level_end ∷ x) y n = ap (λ m. suc m) (level_both x y n)
  level_both (part k ∷ x) y n = level_both x y n

  opens_before : (a c n m : ℕ) (o : Bool) (b : Option ℕ) → lower o b ≡ Some c → ((d : ℕ) → b ≡ Some d → m ≡ d + n) → (if o then 1 else 0) ≤ m
  opens_before a c n m true None e h = cc
  opens_before a c n m true (Some zero) e h = cc
  opens_before a c n m true (Some (suc d)) e h = let l : m ≡ suc d + n = h (suc d) refl in omega (arith, l)
  opens_before a c n m false b e h = omega arith

  balanced_tail : (o : Bool) (b : Option ℕ) (c : ℕ) → lower o b ≡ Some c → (d : ℕ) × (b ≡ Some d)
  balanced_tail true None c e = cc
  balanced_tail true (Some zero) c e = cc
  balanced_tail true (Some (suc d)) c e = (suc d, refl)
  balanced_tail false b c e = (c, e)

  balanced_rest : (b : Option ℕ) (c : ℕ) → raise b ≡ Some c → (d : ℕ) × (b ≡ Some d)
  balanced_rest None c e = cc
  balanced_rest (Some d) c e = (d, refl)

  sane_both : (y x : List (Part N)) (c : ℕ) → balance g y ≡ Some c → Sane x → Sane (y ++ x)
  sane_both [] x c e h = h
  sane_both (token a ∷ y) x c e h =
      let tail = balanced_tail (g.opens a) (balance g y) c e in (
        rw (level_both y x 0) (opens_before a c (level g x 0) (level g y (level g x 0)) (g.opens a) (balance g y) e (λ d f. balanced y d (level g x 0) f)),
        sane_both y x tail.0 tail.1 h,
      )
  sane_both (level_end ∷ y) x c e h = let tail = balanced_rest (balance g y) c e in sane_both y x tail.0 tail.1 h
  sane_both (part k ∷ y) x c e h = sane_both y x c e h

  sane_rule : (y x : List (Part N)) (b : Option ℕ) → balance g y ≡ b → is_even b ≡ true → Sane x → Sane (y ++ x)
  sane_rule y x None e h s = cc
  sane_rule y x (Some c) e h s = sane_both y x c e s

  -- one symbol in hand decides
  pub record Fair : Type 0 where
    pub null : (k : N) (i : ℕ) (x : List (Part N)) → rule_no (g.rules k) i ≡ Some x → null_of g x ≡ true → g.null k ≡ true
    pub first : (k : N) (i : ℕ) (x : List (Part N)) (a : ℕ) → rule_no (g.rules k) i ≡ Some x → has a (firsts g x) ≡ true → has a (g.first k) ≡ true
    pub links : (k : N) (i : ℕ) (x : List (Part N)) → rule_no (g.rules k) i ≡ Some x → Links k x
    pub even : (k : N) (i : ℕ) (x : List (Part N)) (n : ℕ) → rule_no (g.rules k) i ≡ Some x → level g x n ≡ n
    pub sane : (k : N) (i : ℕ) (x y : List (Part N)) → rule_no (g.rules k) i ≡ Some x → Sane y → Sane (x ++ y)
    pub picked : (k : N) (i : ℕ) (x : List (Part N)) (a : ℕ) → rule_no (g.rules k) i ≡ Some x → has a (selects g k x) ≡ true → pick g k a (g.rules k) ≡ i
    pub short : (k : N) → (x : List (Part N)) × (rule_no (g.rules k) (g.short k) ≡ Some x) × Below (g.rank k) x

  module _ (fair : (k : N) → part_is_fair g k ≡ true) where
    rule_of : (k : N) (i : ℕ) (x : List (Part N)) → rule_no (g.rules k) i ≡ Some x → rule_is_fair g k i x ≡ true
    rule_of k i x h = let same : i + 0 ≡ i = omega arith in subst (λ n. rule_is_fair g k n x ≡ true) same (at_rule k 0 (g.rules k) (left _ _ (fair k)) i x h)

    short_of : (k : N) (o : Option (List (Part N))) → rule_no (g.rules k) (g.short k) ≡ o → is_short g k o ≡ true → (x : List (Part N))
        × (rule_no (g.rules k) (g.short k) ≡ Some x) × Below (g.rank k) x
    short_of k None e h = cc
    short_of k (Some x) e h = (x, e, below_of (g.rank k) x h)

    conditions : (k : N) (i : ℕ) (x : List (Part N)) → rule_no (g.rules k) i ≡ Some x → Five (if null_of g x then g.null k else true)
        (subset (firsts g x) (g.first k)) (links g k x) (is_even (balance g x)) (each (λ a. nat_eq (pick g k a (g.rules k)) i) (selects g k x))
    conditions k i x h = five _ _ _ _ _ (rule_of k i x h)

    pub fair_of : Fair
    fair_of = record {
      null = λ k i x h. when _ _ (conditions k i x h).0;
      first = λ k i x a h. each_at _ (firsts g x) (conditions k i x h).1 a;
      links = λ k i x h. links_of k x (conditions k i x h).2;
      even = λ k i x n h. even_of x n (balance g x) refl (conditions k i x h).3;
      sane = λ k i x y h. sane_rule x y (balance g x) refl (conditions k i x h).3;
      picked = λ k i x a h e. eqb-true _ _ (each_at (λ a. nat_eq (pick g k a (g.rules k)) i) (selects g k x) (conditions k i x h).4 a e);
      short = λ k. short_of k (rule_no (g.rules k) (g.short k)) refl (right _ _ (fair k));
    }
