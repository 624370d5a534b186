-- The texts of a grammar in which one symbol in hand decides: how they begin, what follows, and that there are some.
use Rattle.std.proofs.Common.{◌≡◌, ℕ, zero, suc, ◌+◌, ◌-◌, ◌≤◌, List, [], ◌∷◌, ◌++◌, true, Some, refl, sym, ap, ◌∙◌, subst, arith, ◌⊎◌, inl, inr}
use Rattle.std.proofs.lemmas.Bool.{eq-eqb}
use Rattle.edi_grammar.specs.Grammar.{Part, token, level_end, part, Item, mark, closing, plain, Grammar, rule_no, level, opened, ends_in, Derives}
use Rattle.edi_grammar.specs.Parser.{has, null_of, firsts, pick}
use Rattle.edi_grammar.proofs.Conditions.{Links, Below, Fair, has_left, has_right, level_both}

has_here : (a b : ℕ) (more : List ℕ) → a ≡ b → has a (b ∷ more) ≡ true
has_here a b more e = rw (eq-eqb a b e) refl

pub append_nil : {A : Type 0} (x : List A) → x ++ [] ≡ x
append_nil [] = refl
append_nil (a ∷ x) = ap (λ x. a ∷ x) (append_nil x)

pub plain_both : {S : Type 0} (u v : List (Item S)) → plain (u ++ v) ≡ plain u ++ plain v
plain_both [] v = refl
plain_both (mark s ∷ u) v = ap (λ l. s ∷ l) (plain_both u v)
plain_both (closing ∷ u) v = plain_both u v

module _ {N S : Type 0} (g : Grammar N S) where
  pub one_more_step : (n : ℕ) (x : List (Part N)) (items : List (Item S)) → Derives g n x items → Derives g (suc n) x items
  one_more_step zero x items d = absurd d
  one_more_step (suc n) [] items d = d
  one_more_step (suc n) (token a ∷ x) items d = (d.0, d.1, d.2, d.3, one_more_step n x d.1 d.4)
  one_more_step (suc n) (level_end ∷ x) items d = (d.0, d.1, one_more_step n x d.0 d.2)
  one_more_step (suc n) (part k ∷ x) items d = (d.0, d.1, d.2, one_more_step n (d.1 ++ x) items d.3)

  -- parts behind each of which only what may follow it stands, and which have samples
  abbrev pub Good : List (Part N) → Type 0
  Good [] = Unit {0}
  Good (token a ∷ x) = (g.kind (g.sample a) ≡ a) × Good x
  Good (level_end ∷ x) = Good x
  Good (part k ∷ x) = ((n : ℕ) (s : S) (words : List S) (items : List (Item S)) → plain items ≡ s ∷ words → Derives g n x items
      → has (g.kind s) (g.follow k) ≡ true) × Good x

  module _ (fair : Fair g) where
    -- a text ends the levels that its parts say
    pub ends_level : (n : ℕ) (x : List (Part N)) (items : List (Item S)) → Derives g n x items → ends_in g items ≡ level g x 0
    ends_level zero x items d = absurd d
    ends_level (suc n) [] items d = ap (ends_in g) d
    ends_level (suc n) (token a ∷ x) items d = ap (ends_in g) d.2 ∙ ap (λ m. m - opened g (g.kind d.0)) (ends_level n x d.1 d.4)
        ∙ ap (λ a. level g x 0 - opened g a) d.3
    ends_level (suc n) (level_end ∷ x) items d = ap (ends_in g) d.1 ∙ ap (λ m. suc m) (ends_level n x d.0 d.2)
    ends_level (suc n) (part k ∷ x) items d = ends_level n (d.1 ++ x) items d.3 ∙ level_both g d.1 x 0 ∙ fair.even k d.0 d.1 (level g x 0) d.2

    -- a text of x and y begins as x may, or x is empty and y has it
    abbrev pub PartsBegin : ℕ → List (Part N) → List (Part N) → S → List S → Type 0
    PartsBegin n x y s words = (has (g.kind s) (firsts g x) ≡ true)
        ⊎ ((null_of g x ≡ true) × (items : List (Item S)) × (plain items ≡ s ∷ words) × Derives g n y items)

    pub begins : (n : ℕ) (x y : List (Part N)) (s : S) (words : List S) (items : List (Item S)) → plain items ≡ s ∷ words → Derives g n (x ++ y) items
        → PartsBegin n x y s words
    begins zero x y s words items e d = absurd d
    begins (suc n) [] y s words items e d = inr (refl, items, e, d)
    begins (suc n) (token b ∷ x) y s words items e d = let same : s ∷ words ≡ d.0 ∷ plain d.1 = sym e ∙ ap plain d.2 in let one : s ≡ d.0 = cc in
        inl (has_here (g.kind s) b [] (ap g.kind one ∙ d.3))
    begins (suc n) (level_end ∷ x) y s words items e d = more (begins n x y s words d.0 (sym (ap plain d.1) ∙ e) d.2) where
      more : PartsBegin n x y s words → PartsBegin (suc n) (level_end ∷ x) y s words
      more (inl h) = inl h
      more (inr h) = inr (h.0, h.1, h.2, one_more_step n y h.1 h.3)
    begins (suc n) (part k ∷ x) y s words items e d = outer (λ items e h. begins n x y s words items e h) (begins n d.1 (x ++ y) s words items e d.3) where
      inner : g.null k ≡ true → PartsBegin n x y s words → PartsBegin (suc n) (part k ∷ x) y s words
      inner e (inl h) = inl (has_right (g.kind s) (g.first k) _ (rw e h))
      inner e (inr h) = inr (rw e h.0, h.1, h.2, one_more_step n y h.1 h.3)

      outer : ((items : List (Item S)) → plain items ≡ s ∷ words → Derives g n (x ++ y) items → PartsBegin n x y s words) → PartsBegin n d.1 (x ++ y) s words
          → PartsBegin (suc n) (part k ∷ x) y s words
      outer again (inl h) = inl (has_left (g.kind s) (g.first k) _ (fair.first k d.0 d.1 (g.kind s) d.2 h))
      outer again (inr h) = inner (fair.null k d.0 d.1 d.2 h.0) (again h.1 h.2 h.3)

    pub good_more : (k : N) (y : List (Part N)) → Good (part k ∷ y) → (x : List (Part N)) → Links g k x → Good (x ++ y)
    good_more k y h [] l = h.1
    good_more k y h (token a ∷ x) l = (l.0, good_more k y h x l.1)
    good_more k y h (level_end ∷ x) l = good_more k y h x l
    good_more k y h (part j ∷ x) l = (λ n s words items e d. by n s words (begins n x y s words items e d), good_more k y h x l.2) where
      by : (n : ℕ) (s : S) (words : List S) → PartsBegin n x y s words → has (g.kind s) (g.follow j) ≡ true
      by n s words (inl e) = l.0 (g.kind s) e
      by n s words (inr e) = l.1 e.0 (g.kind s) (h.0 n s words e.1 e.2 e.3)

    -- the rule of a part is the one that the symbol in hand selects
    pub picked : (n i : ℕ) (k : N) (rule x : List (Part N)) (s : S) (words : List S) (items : List (Item S)) → Good (part k ∷ x)
        → rule_no (g.rules k) i ≡ Some rule → plain items ≡ s ∷ words → Derives g n (rule ++ x) items → pick g k (g.kind s) (g.rules k) ≡ i
    picked n i k rule x s words items good at e d = by (begins n rule x s words items e d) where
      by : PartsBegin n rule x s words → pick g k (g.kind s) (g.rules k) ≡ i
      by (inl h) = fair.picked k i rule (g.kind s) at (has_left (g.kind s) (firsts g rule) _ h)
      by (inr h) = fair.picked k i rule (g.kind s) at (has_right (g.kind s) (firsts g rule) _ (rw h.0 (good.0 n s words h.1 h.2 h.3)))

    -- some text is of these parts
    abbrev pub HasText : List (Part N) → Type 0
    HasText x = (n : ℕ) × (items : List (Item S)) × Derives g n x items

    below_more : (r s : ℕ) → r ≤ s → (x : List (Part N)) → Below g r x → Below g s x
    below_more r s le [] b = tt
    below_more r s le (token a ∷ x) b = (b.0, below_more r s le x b.1)
    below_more r s le (level_end ∷ x) b = below_more r s le x b
    below_more r s le (part k ∷ x) b = (omega (arith, b.0), below_more r s le x b.1)

    fill : (r : ℕ) (x y : List (Part N)) → Below g r x → HasText y → HasText (x ++ y)
    fill r [] y b l = l
    fill r (token a ∷ x) y b l = let m = fill r x y b.1 l in (suc m.0, mark (g.sample a) ∷ m.1, (g.sample a, m.1, refl, b.0, m.2))
    fill r (level_end ∷ x) y b l = let m = fill r x y b l in (suc m.0, closing ∷ m.1, (m.1, refl, m.2))
    fill zero (part k ∷ x) y b l = absurd (omega (arith, b.0))
    fill (suc r) (part k ∷ x) y b l =
        let s = fair.short k in
        let m = fill r s.0 (x ++ y) (below_more (g.rank k) r (omega (arith, b.0)) s.0 s.2) (fill (suc r) x y b.1 l) in
        (suc m.0, m.1, (g.short k, s.0, s.1, m.2))

    below_all : (x : List (Part N)) → Good x → (r : ℕ) × Below g r x
    below_all [] h = (0, tt)
    below_all (token a ∷ x) h = let m = below_all x h.1 in (m.0, (h.0, m.1))
    below_all (level_end ∷ x) h = below_all x h
    below_all (part k ∷ x) h = let m = below_all x h.1 in (m.0 + suc (g.rank k), (omega arith, below_more m.0 (m.0 + suc (g.rank k)) (omega arith) x m.1))

    pub has_text : (x : List (Part N)) → Good x → HasText x
    has_text x h = let m = below_all x h in subst (λ x. HasText x) (append_nil x) (fill m.0 x [] m.1 (1, [], refl))
