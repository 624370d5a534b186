-- In a text of the grammar the levels that are open at a place are those that end behind it.
use Rattle.std.proofs.Common.{◌≡◌, ℕ, zero, suc, ◌+◌, ◌-◌, ◌≤◌, List, [], ◌∷◌, ◌++◌, sym, ap, ◌∙◌, subst, arith}
use Rattle.edi_grammar.specs.Grammar.{Part, token, level_end, part, Item, mark, closing, Grammar, level, opened, ends_in, Derives}
use Rattle.edi_grammar.specs.Open.{open_behind}
use Rattle.edi_grammar.proofs.Conditions.{Fair, Sane, level_both}
use Rattle.edi_grammar.proofs.Texts.{ends_level}

module _ {N S : Type 0} (g : Grammar N S) (fair : Fair g) where
  at_front : (n : ℕ) (x : List (Part N)) (items rest : List (Item S)) → items ≡ rest → Derives g n x items → level g x 0 ≡ ends_in g rest
  at_front n x items rest e d = sym (ends_level g fair n x items d) ∙ ap (ends_in g) e

  pub open_is_ending : (n : ℕ) (x : List (Part N)) (items before rest : List (Item S)) → Sane g x → items ≡ before ++ rest → Derives g n x items
      → open_behind g (level g x 0) before ≡ ends_in g rest
  open_is_ending n x items [] rest s e d = at_front n x items rest e d
  open_is_ending zero x items (b ∷ before) rest s e d = absurd d
  open_is_ending (suc n) [] items (b ∷ before) rest s e d = let none : b ∷ (before ++ rest) ≡ [] = sym e ∙ d in cc
  open_is_ending (suc n) (token a ∷ x) items (b ∷ before) rest s e d =
      let heads : mark d.0 ∷ d.1 ≡ b ∷ (before ++ rest) = sym d.2 ∙ e in
      let one : mark d.0 ≡ b = cc in
      let more : d.1 ≡ before ++ rest = cc in
      let same : level g (token a ∷ x) 0 + opened g (g.kind d.0) ≡ level g x 0 = counted (level g x 0) (opened g a) (opened g (g.kind d.0)) s.0
      (ap (opened g) d.3) in
      subst (λ b. open_behind g (level g (token a ∷ x) 0) (b ∷ before) ≡ ends_in g rest) one
      (subst (λ k. open_behind g k before ≡ ends_in g rest) (sym same) (open_is_ending n x d.1 before rest s.1 more d.4)) where
        counted : (l o p : ℕ) → o ≤ l → p ≡ o → (l - o) + p ≡ l
        counted l o p le e = omega (arith, le, e)
  open_is_ending (suc n) (level_end ∷ x) items (b ∷ before) rest s e d =
      let heads : closing ∷ d.0 ≡ b ∷ (before ++ rest) = sym d.1 ∙ e in
      let one : closing ≡ b = cc in
      let more : d.0 ≡ before ++ rest = cc in
      let same : suc (level g x 0) - 1 ≡ level g x 0 = omega arith in
      subst (λ b. open_behind g (level g (level_end ∷ x) 0) (b ∷ before) ≡ ends_in g rest) one
      (subst (λ k. open_behind g k before ≡ ends_in g rest) (sym same) (open_is_ending n x d.0 before rest s more d.2))
  open_is_ending (suc n) (part k ∷ x) items (b ∷ before) rest s e d =
      let same : level g (d.1 ++ x) 0 ≡ level g x 0 = level_both g d.1 x 0 ∙ fair.even k d.0 d.1 (level g x 0) d.2 in
      subst (λ k. open_behind g k (b ∷ before) ≡ ends_in g rest) same (open_is_ending n (d.1 ++ x) items (b ∷ before) rest (fair.sane k d.0 d.1 x d.2 s) e d.3)
