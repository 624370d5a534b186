-- Helper. Texts with their trees. `Tree k` is the type of the trees of a part, and `build` says, for each rule of a part, which tree
-- it makes of the symbols and trees of the rule.
use Rattle.std.specs.Prelude.{◌≡◌, ℕ, zero, suc, List, [], ◌∷◌, ◌++◌}
use Rattle.edi_grammar.specs.Grammar.{Part, token, level_end, part, Item, mark, closing, Grammar}

module _ {N : Type 0} (S : Type 0) (Tree : N → Type 0) where
  -- a symbol for each token, and a tree for each part
  abbrev pub Trees : List (Part N) → Type 0
  Trees [] = Unit {0}
  Trees (token a ∷ x) = S × Trees x
  Trees (level_end ∷ x) = Trees x
  Trees (part k ∷ x) = Tree k × Trees x

  abbrev pub join : (x y : List (Part N)) → Trees x → Trees y → Trees (x ++ y)
  join [] y us ts = ts
  join (token a ∷ x) y us ts = (us.0, join x y us.1 ts)
  join (level_end ∷ x) y us ts = join x y us ts
  join (part k ∷ x) y us ts = (us.0, join x y us.1 ts)

  -- for each of these rules, the tree that it makes
  abbrev pub Builders : N → List (List (Part N)) → Type 0
  Builders k [] = Unit {0}
  Builders k (rule ∷ more) = (Trees rule → Tree k) × Builders k more

  -- the tree is made by the rule of number i of something of which P holds
  abbrev pub Built : (k : N) (rules : List (List (Part N))) → Builders k rules → ℕ → Tree k → ((x : List (Part N)) → Trees x → Type 0) → Type 0
  Built k [] b i t P = ⊥
  Built k (rule ∷ more) b zero t P = (us : Trees rule) × (t ≡ b.0 us) × P rule us
  Built k (rule ∷ more) b (suc i) t P = Built k more b.1 i t P

-- these parts may be the items, with these symbols and trees
abbrev pub Reads : {N S : Type 0} (g : Grammar N S) (Tree : N → Type 0) (build : (k : N) → Builders S Tree k (g.rules k)) → ℕ → (x : List (Part N))
    → List (Item S) → Trees S Tree x → Type 0
Reads g Tree build zero x items ts = ⊥
Reads g Tree build (suc n) [] items ts = items ≡ []
Reads {N} {S} g Tree build (suc n) (token a ∷ x) items ts = (rest : List (Item S)) × (items ≡ mark ts.0 ∷ rest) × (g.kind ts.0 ≡ a)
    × Reads g Tree build n x rest ts.1
Reads {N} {S} g Tree build (suc n) (level_end ∷ x) items ts = (rest : List (Item S)) × (items ≡ closing ∷ rest) × Reads g Tree build n x rest ts
Reads {N} {S} g Tree build (suc n) (part k ∷ x) items ts = (i : ℕ) × Built S Tree k (g.rules k) (build k) i ts.0
    (λ rule us. Reads g Tree build n (rule ++ x) items (join S Tree rule x us ts.1))
