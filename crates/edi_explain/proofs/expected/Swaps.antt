-- In a text of a grammar a symbol may give way to another one of its kind.
use Rattle.std.proofs.Common.{◌≡◌, ℕ, zero, suc, List, [], ◌∷◌, ◌++◌, Some, refl, sym, ap, ◌∙◌, subst}
use Rattle.edi_grammar.specs.Grammar.{Part, token, level_end, part, Item, mark, closing, plain, Grammar, Derives}

pub some_same : {A : Type 0} (x y : A) → Some x ≡ Some y → x ≡ y
some_same x y e = cc

pub no_item : {A : Type 0} (u : List A) (a : A) (v : List A) → u ++ a ∷ v ≡ [] → ⊥
no_item [] a v e = cc
no_item (b ∷ u) a v e = cc

module _ {N S : Type 0} (g : Grammar N S) where
  pub swapped : (n : ℕ) (x : List (Part N)) (first : List (Item S)) (a b : S) (last : List (Item S)) → g.kind a ≡ g.kind b
      → Derives g n x (first ++ mark a ∷ last) → Derives g n x (first ++ mark b ∷ last)
  swapped zero x first a b last k d = absurd d
  swapped (suc n) [] first a b last k d = absurd (no_item first (mark a) last d)
  swapped (suc n) (token c ∷ x) [] a b last k d =
      let heads : mark a ∷ last ≡ mark d.0 ∷ d.1 = d.2 in
      let one : d.0 ≡ a = cc in
      let rest : d.1 ≡ last = cc in
      (b, last, refl, sym k ∙ ap g.kind (sym one) ∙ d.3, subst (λ l. Derives g n x l) rest d.4)
  swapped (suc n) (token c ∷ x) (i ∷ first) a b last k d =
      let heads : i ∷ (first ++ mark a ∷ last) ≡ mark d.0 ∷ d.1 = d.2 in
      let one : i ≡ mark d.0 = cc in
      let rest : d.1 ≡ first ++ mark a ∷ last = cc in (
        d.0,
        first ++ mark b ∷ last,
        ap (λ i. i ∷ (first ++ mark b ∷ last)) one,
        d.3,
        swapped n x first a b last k (subst (λ l. Derives g n x l) rest d.4),
      )
  swapped (suc n) (level_end ∷ x) [] a b last k d = let heads : mark a ∷ last ≡ closing ∷ d.0 = d.1 in absurd cc
  swapped (suc n) (level_end ∷ x) (i ∷ first) a b last k d =
      let heads : i ∷ (first ++ mark a ∷ last) ≡ closing ∷ d.0 = d.1 in
      let one : i ≡ closing = cc in
      let rest : d.0 ≡ first ++ mark a ∷ last = cc in (
        first ++ mark b ∷ last,
        ap (λ i. i ∷ (first ++ mark b ∷ last)) one,
        swapped n x first a b last k (subst (λ l. Derives g n x l) rest d.2),
      )
  swapped (suc n) (part j ∷ x) first a b last k d = (d.0, d.1, d.2, swapped n (d.1 ++ x) first a b last k d.3)

-- items cut where their symbols are
pub record Split {S : Type 0} (items : List (Item S)) (u : List S) (a : S) (more : List S) : Type 0 where
  pub first : List (Item S)
  pub last : List (Item S)
  pub cut : items ≡ first ++ mark a ∷ last
  pub before : plain first ≡ u
  pub behind : plain last ≡ more

pub split : {S : Type 0} (items : List (Item S)) (u : List S) (a : S) (more : List S) → plain items ≡ u ++ a ∷ more → Split items u a more
split [] u a more e = absurd (no_item u a more (sym e))
split (mark s ∷ items) [] a more e =
    let heads : s ∷ plain items ≡ a ∷ more = e in
    let one : s ≡ a = cc in
    let rest : plain items ≡ more = cc in
    record { first = []; last = items; cut = ap (λ s. mark s ∷ items) one; before = refl; behind = rest }
split (mark s ∷ items) (c ∷ u) a more e =
    let heads : s ∷ plain items ≡ c ∷ (u ++ a ∷ more) = e in
    let one : s ≡ c = cc in
    let rest : plain items ≡ u ++ a ∷ more = cc in
    let p = split items u a more rest in
    record {
      first = mark s ∷ p.first;
      last = p.last;
      cut = ap (λ l. mark s ∷ l) p.cut;
      before = ap (λ l. s ∷ l) p.before ∙ ap (λ s. s ∷ u) one;
      behind = p.behind;
    }
split (closing ∷ items) u a more e = let p = split items u a more e in
    record { first = closing ∷ p.first; last = p.last; cut = ap (λ l. closing ∷ l) p.cut; before = p.before; behind = p.behind }

pub plain_at : {S : Type 0} (first : List (Item S)) (a : S) (last : List (Item S)) → plain (first ++ mark a ∷ last) ≡ plain first ++ a ∷ plain last
plain_at [] a last = refl
plain_at (mark s ∷ first) a last = ap (λ l. s ∷ l) (plain_at first a last)
plain_at (closing ∷ first) a last = plain_at first a last
