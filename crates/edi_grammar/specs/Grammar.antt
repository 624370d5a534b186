-- Words of contracts. A grammar as data, and the texts that it has. The parts of the grammar are a type N. The symbols of a text are a type
-- S, each of a kind, a number. Some kinds open a level; where a level ends is written in the rules.
use Rattle.std.specs.Prelude.{◌≡◌, ℕ, zero, suc, ◌-◌, List, [], ◌∷◌, ◌++◌, Bool, Option, Some, None, if◌then◌else◌}

-- what stands in a rule: a symbol of this kind, the end of the level that was opened last, or a part
pub data Part (N : Type 0) : Type 0 where
  token : ℕ → Part N
  level_end : Part N
  part : N → Part N

-- a text with the ends of its levels: a symbol, or the end of a level
pub data Item (S : Type 0) : Type 0 where
  mark : S → Item S
  closing : Item S

-- the symbols alone
abbrev pub plain : {S : Type 0} → List (Item S) → List S
plain [] = []
plain (mark s ∷ items) = s ∷ plain items
plain (closing ∷ items) = plain items

-- The rules of each part are its alternatives, and the last of them is the one that is taken where none of the others may
-- begin. Nothing has to be believed of the other fields: `part_is_fair` tests them against the rules. They are, for each
-- part: whether it may be empty, the kinds of symbols that may begin it, those that may follow it, one rule that leads to
-- an end, and a rank that falls along such rules. `sample` is some symbol of a kind.
pub record Grammar (N S : Type 0) : Type 0 where
  pub kind : S → ℕ
  pub sample : ℕ → S
  pub opens : ℕ → Bool
  pub rules : N → List (List (Part N))
  pub null : N → Bool
  pub first : N → List ℕ
  pub follow : N → List ℕ
  pub short : N → ℕ
  pub rank : N → ℕ

-- the rule of this number, counted from 0
abbrev pub rule_no : {N : Type 0} → List (List (Part N)) → ℕ → Option (List (Part N))
rule_no [] i = None
rule_no (rule ∷ more) zero = Some rule
rule_no (rule ∷ more) (suc i) = rule_no more i

abbrev pub opened : {N S : Type 0} → Grammar N S → ℕ → ℕ
opened g kind = if g.opens kind then 1 else 0

-- how many levels end in these parts, besides those that open in them, where n end behind them
abbrev pub level : {N S : Type 0} → Grammar N S → List (Part N) → ℕ → ℕ
level g [] n = n
level g (token a ∷ x) n = level g x n - opened g a
level g (level_end ∷ x) n = suc (level g x n)
level g (part k ∷ x) n = level g x n

-- how many levels that are open before these items end in them
abbrev pub ends_in : {N S : Type 0} → Grammar N S → List (Item S) → ℕ
ends_in g [] = 0
ends_in g (mark s ∷ items) = ends_in g items - opened g (g.kind s)
ends_in g (closing ∷ items) = suc (ends_in g items)

-- These parts, one after another, may be the items, as fewer than n steps show: a token is a symbol of its kind, a part is
-- what one of its rules is.
abbrev pub Derives : {N S : Type 0} → Grammar N S → ℕ → List (Part N) → List (Item S) → Type 0
Derives g zero x items = ⊥
Derives g (suc n) [] items = items ≡ []
Derives {N} {S} g (suc n) (token a ∷ x) items = (s : S) × (rest : List (Item S)) × (items ≡ mark s ∷ rest) × (g.kind s ≡ a) × Derives g n x rest
Derives {N} {S} g (suc n) (level_end ∷ x) items = (rest : List (Item S)) × (items ≡ closing ∷ rest) × Derives g n x rest
Derives {N} {S} g (suc n) (part k ∷ x) items = (i : ℕ) × (rule : List (Part N)) × (rule_no (g.rules k) i ≡ Some rule) × Derives g n (rule ++ x) items
