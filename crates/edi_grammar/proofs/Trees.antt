-- Each text has its trees, and no others.
use Rattle.std.proofs.Common.{◌≡◌, ℕ, zero, suc, List, [], ◌∷◌, ◌++◌, Some, refl, sym, ap, ◌∙◌, subst}
use Rattle.edi_grammar.specs.Grammar.{Part, token, level_end, part, Item, plain, Grammar, rule_no, Derives}
use Rattle.edi_grammar.specs.Parser.{pick}
use Rattle.edi_grammar.specs.Trees.{Trees, join, Builders, Built, Reads}
use Rattle.edi_grammar.proofs.Conditions.{Fair, some_same}
use Rattle.edi_grammar.proofs.Texts.{Good, good_more, picked}

abbrev couple : {A B : Type 0} → A → B → A × B
couple a b = (a, b)

pair_same : {A B : Type 0} (x y : A × B) → x.0 ≡ y.0 → x.1 ≡ y.1 → x ≡ y
pair_same x y e f = ap (λ a. couple a x.1) e ∙ ap (λ b. couple y.0 b) f

module _ {N : Type 0} (S : Type 0) (Tree : N → Type 0) where
  abbrev Ts : List (Part N) → Type 0
  Ts x = Trees S Tree x

  abbrev split : (x y : List (Part N)) → Ts (x ++ y) → Ts x × Ts y
  split [] y ts = (tt, ts)
  split (token a ∷ x) y ts = let cut = split x y ts.1 in ((ts.0, cut.0), cut.1)
  split (level_end ∷ x) y ts = split x y ts
  split (part k ∷ x) y ts = let cut = split x y ts.1 in ((ts.0, cut.0), cut.1)

  join_split : (x y : List (Part N)) (ts : Ts (x ++ y)) → join S Tree x y (split x y ts).0 (split x y ts).1 ≡ ts
  join_split [] y ts = refl
  join_split (token a ∷ x) y ts = ap (λ more. (ts.0, more)) (join_split x y ts.1)
  join_split (level_end ∷ x) y ts = join_split x y ts
  join_split (part k ∷ x) y ts = ap (λ more. (ts.0, more)) (join_split x y ts.1)

  split_join : (x y : List (Part N)) (us : Ts x) (ts : Ts y) → split x y (join S Tree x y us ts) ≡ (us, ts)
  split_join [] y us ts = refl
  split_join (token a ∷ x) y us ts = ap (λ cut. ((us.0, cut.0), cut.1)) (split_join x y us.1 ts)
  split_join (level_end ∷ x) y us ts = split_join x y us ts
  split_join (part k ∷ x) y us ts = ap (λ cut. ((us.0, cut.0), cut.1)) (split_join x y us.1 ts)

  join_same : (x y : List (Part N)) (us vs : Ts x) (ts ss : Ts y) → join S Tree x y us ts ≡ join S Tree x y vs ss → (us ≡ vs) × (ts ≡ ss)
  join_same x y us vs ts ss e =
      let both : couple us ts ≡ couple vs ss = sym (split_join x y us ts) ∙ ap (split x y) e ∙ split_join x y vs ss in
      (ap (λ cut. cut.0) both, ap (λ cut. cut.1) both)

  -- a rule makes a tree
  make : (k : N) (rules : List (List (Part N))) (b : Builders S Tree k rules) (i : ℕ) (rule : List (Part N)) (P : (x : List (Part N)) → Ts x → Type 0)
      → rule_no rules i ≡ Some rule → (us : Ts rule) → P rule us → (t : Tree k) × Built S Tree k rules b i t P
  make k [] b i rule P at us p = cc
  make k (first ∷ more) b zero rule P at us p =
      let same : first ≡ rule = some_same first rule at in
      let here = subst (λ rule. (us : Ts rule) × P rule us) (sym same) (us, p) in
      (b.0 here.0, (here.0, refl, here.1))
  make k (first ∷ more) b (suc i) rule P at us p = make k more b.1 i rule P at us p

  -- a tree that is made is made by a rule
  rule_of : (k : N) (rules : List (List (Part N))) (b : Builders S Tree k rules) (i : ℕ) (t : Tree k) (P : (x : List (Part N)) → Ts x → Type 0)
      → Built S Tree k rules b i t P → (rule : List (Part N)) × (us : Ts rule) × (rule_no rules i ≡ Some rule) × P rule us
  rule_of k [] b i t P h = absurd h
  rule_of k (first ∷ more) b zero t P h = (first, h.0, refl, h.2)
  rule_of k (first ∷ more) b (suc i) t P h = rule_of k more b.1 i t P h

  -- what one rule makes of the same is the same
  same_made : (k : N) (rules : List (List (Part N))) (b : Builders S Tree k rules) (i : ℕ) (t u : Tree k) (P Q : (x : List (Part N)) → Ts x → Type 0)
      (R : Type 0) → ((rule : List (Part N)) (us vs : Ts rule) → rule_no rules i ≡ Some rule → P rule us → Q rule vs → (us ≡ vs) × R)
      → Built S Tree k rules b i t P → Built S Tree k rules b i u Q → (t ≡ u) × R
  same_made k [] b i t u P Q R all h f = absurd h
  same_made k (first ∷ more) b zero t u P Q R all h f = let one = all first h.0 f.0 refl h.2 f.2 in (h.1 ∙ ap b.0 one.0 ∙ sym f.1, one.1)
  same_made k (first ∷ more) b (suc i) t u P Q R all h f = same_made k more b.1 i t u P Q R all h f

module _ {N S : Type 0} (g : Grammar N S) (Tree : N → Type 0) (build : (k : N) → Builders S Tree k (g.rules k)) where
  pub forget : (n : ℕ) (x : List (Part N)) (items : List (Item S)) (ts : Trees S Tree x) → Reads g Tree build n x items ts → Derives g n x items
  forget zero x items ts d = absurd d
  forget (suc n) [] items ts d = d
  forget (suc n) (token a ∷ x) items ts d = (ts.0, d.0, d.1, d.2, forget n x d.0 ts.1 d.3)
  forget (suc n) (level_end ∷ x) items ts d = (d.0, d.1, forget n x d.0 ts d.2)
  forget (suc n) (part k ∷ x) items ts d =
      let rule = rule_of S Tree k (g.rules k) (build k) d.0 ts.0 (λ rule us. Reads g Tree build n (rule ++ x) items (join S Tree rule x us ts.1)) d.1 in
      (d.0, rule.0, rule.2, forget n (rule.0 ++ x) items (join S Tree rule.0 x rule.1 ts.1) rule.3)

  -- a text has trees
  pub trees_of : (n : ℕ) (x : List (Part N)) (items : List (Item S)) → Derives g n x items → (ts : Trees S Tree x) × Reads g Tree build n x items ts
  trees_of zero x items d = absurd d
  trees_of (suc n) [] items d = (tt, d)
  trees_of (suc n) (token a ∷ x) items d = let more = trees_of n x d.1 d.4 in ((d.0, more.0), (d.1, d.2, d.3, more.1))
  trees_of (suc n) (level_end ∷ x) items d = let more = trees_of n x d.0 d.2 in (more.0, (d.0, d.1, more.1))
  trees_of (suc n) (part k ∷ x) items d =
      let all = trees_of n (d.1 ++ x) items d.3 in
      let cut = split S Tree d.1 x all.0 in
      let whole : Reads g Tree build n (d.1 ++ x) items (join S Tree d.1 x cut.0 cut.1) = subst (λ ts. Reads g Tree build n (d.1 ++ x) items ts)
      (sym (join_split S Tree d.1 x all.0)) all.1 in
      let one = make S Tree k (g.rules k) (build k) d.0 d.1 (λ rule us. Reads g Tree build n (rule ++ x) items (join S Tree rule x us cut.1)) d.2 cut.0 whole in
      ((one.0, cut.1), (d.0, one.1))

  -- behind each part a symbol is still to come
  abbrev pub HasToken : List (Part N) → Type 0
  HasToken [] = ⊥
  HasToken (token a ∷ x) = Unit {0}
  HasToken (level_end ∷ x) = HasToken x
  HasToken (part k ∷ x) = HasToken x

  abbrev pub Ended : List (Part N) → Type 0
  Ended [] = Unit {0}
  Ended (token a ∷ x) = Ended x
  Ended (level_end ∷ x) = Ended x
  Ended (part k ∷ x) = HasToken x × Ended x

  has_token : (x y : List (Part N)) → HasToken y → HasToken (x ++ y)
  has_token [] y h = h
  has_token (token a ∷ x) y h = tt
  has_token (level_end ∷ x) y h = has_token x y h
  has_token (part k ∷ x) y h = has_token x y h

  ended : (x y : List (Part N)) → HasToken y → Ended y → Ended (x ++ y)
  ended [] y h e = e
  ended (token a ∷ x) y h e = ended x y h e
  ended (level_end ∷ x) y h e = ended x y h e
  ended (part k ∷ x) y h e = (has_token x y h, ended x y h e)

  first_symbol : (n : ℕ) (x : List (Part N)) (items : List (Item S)) → Derives g n x items → HasToken x → (s : S) × (rest : List S) × (plain items ≡ s ∷ rest)
  first_symbol zero x items d h = absurd d
  first_symbol (suc n) [] items d h = absurd h
  first_symbol (suc n) (token a ∷ x) items d h = (d.0, plain d.1, ap plain d.2)
  first_symbol (suc n) (level_end ∷ x) items d h = let more = first_symbol n x d.0 d.2 h in (more.0, more.1, ap plain d.1 ∙ more.2)
  first_symbol (suc n) (part k ∷ x) items d h = first_symbol n (d.1 ++ x) items d.3 (has_token d.1 x h)

  module _ (fair : Fair g) where
    abbrev Same : ℕ → List (Part N) → Type 0
    Same n x = (m : ℕ) (items others : List (Item S)) (ts us : Trees S Tree x) → Good g x → Ended x → plain items ≡ plain others
        → Reads g Tree build n x items ts → Reads g Tree build m x others us → ts ≡ us

    same_part : (n : ℕ) (k : N) (x : List (Part N)) → ((rule : List (Part N)) → Same n (rule ++ x)) → Same (suc n) (part k ∷ x)
    same_part n k x again zero items others ts us good end e d f = absurd f
    same_part n k x again (suc m) items others ts us good end e d f =
        let P : (rule : List (Part N)) → Trees S Tree rule → Type 0 = λ rule vs. Reads g Tree build n (rule ++ x) items (join S Tree rule x vs ts.1) in
        let Q : (rule : List (Part N)) → Trees S Tree rule → Type 0 = λ rule vs. Reads g Tree build m (rule ++ x) others (join S Tree rule x vs us.1) in
        let one = rule_of S Tree k (g.rules k) (build k) d.0 ts.0 P d.1 in
        let two = rule_of S Tree k (g.rules k) (build k) f.0 us.0 Q f.1 in
        let left = forget n (one.0 ++ x) items (join S Tree one.0 x one.1 ts.1) one.3 in
        let right = forget m (two.0 ++ x) others (join S Tree two.0 x two.1 us.1) two.3 in
        let word = first_symbol n (one.0 ++ x) items left (has_token one.0 x end.0) in
        let i : pick g k (g.kind word.0) (g.rules k) ≡ d.0 = picked g fair n d.0 k one.0 x word.0 word.1 items good one.2 word.2 left in
        let j : pick g k (g.kind word.0) (g.rules k) ≡ f.0 = picked g fair m f.0 k two.0 x word.0 word.1 others good two.2 (sym e ∙ word.2) right in
        let made = same_made S Tree k (g.rules k) (build k) d.0 ts.0 us.0 P Q (ts.1 ≡ us.1)
        (λ rule vs ws at p q. join_same S Tree rule x vs ws ts.1 us.1
        (again rule m items others (join S Tree rule x vs ts.1) (join S Tree rule x ws us.1) (good_more g fair k x good rule (fair.links k d.0 rule at))
        (ended rule x end.0 end.1) e p q))
        d.1 (subst (λ i. Built S Tree k (g.rules k) (build k) i us.0 Q) (sym j ∙ i) f.1) in
        pair_same ts us made.0 made.1

    -- it has no others
    pub same_trees : (n : ℕ) (x : List (Part N)) → Same n x
    same_trees zero x m items others ts us good end e d f = absurd d
    same_trees (suc n) x zero items others ts us good end e d f = absurd f
    same_trees (suc n) [] (suc m) items others ts us good end e d f = refl
    same_trees (suc n) (token a ∷ x) (suc m) items others ts us good end e d f =
        let heads : ts.0 ∷ plain d.0 ≡ us.0 ∷ plain f.0 = sym (ap plain d.1) ∙ e ∙ ap plain f.1 in
        let one : ts.0 ≡ us.0 = cc in
        let rest : plain d.0 ≡ plain f.0 = cc in
        pair_same ts us one (same_trees n x m d.0 f.0 ts.1 us.1 good.1 end rest d.3 f.3)
    same_trees (suc n) (level_end ∷ x) (suc m) items others ts us good end e d f = same_trees n x m d.0 f.0 ts us good end
        (sym (ap plain d.1) ∙ e ∙ ap plain f.1) d.2 f.2
    same_trees (suc n) (part k ∷ x) m items others ts us good end e d f = same_part n k x (λ rule. same_trees n (rule ++ x)) m items others ts us good end e d f
