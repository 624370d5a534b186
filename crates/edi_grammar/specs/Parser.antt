-- Words of contracts. The predictive parser of a grammar, which has one symbol in hand, and the place where it stops.
use Rattle.std.specs.Prelude.{◌≡◌, ℕ, suc, ◌<◌, ◌≤◌, List, [], ◌∷◌, ◌++◌, Bool, true, false, Option, Some, nat_eq, if◌then◌else◌}
use Rattle.edi_grammar.specs.Grammar.{Part, token, level_end, part, Grammar, rule_no, level}

abbrev pub has : ℕ → List ℕ → Bool
has a [] = false
has a (b ∷ more) = if nat_eq a b then true else has a more

-- whether these parts may all be empty
abbrev pub null_of : {N S : Type 0} → Grammar N S → List (Part N) → Bool
null_of g [] = true
null_of g (token a ∷ x) = false
null_of g (level_end ∷ x) = null_of g x
null_of g (part k ∷ x) = if g.null k then null_of g x else false

-- the kinds of symbols that may begin these parts
abbrev pub firsts : {N S : Type 0} → Grammar N S → List (Part N) → List ℕ
firsts g [] = []
firsts g (token a ∷ x) = a ∷ []
firsts g (level_end ∷ x) = firsts g x
firsts g (part k ∷ x) = g.first k ++ (if g.null k then firsts g x else [])

-- the kinds of symbols before which this rule of the part is taken
abbrev pub selects : {N S : Type 0} → Grammar N S → N → List (Part N) → List ℕ
selects g k rule = firsts g rule ++ (if null_of g rule then g.follow k else [])

-- the number of the first rule that is taken before a symbol of this kind, else of the last rule
abbrev pub pick : {N S : Type 0} → Grammar N S → N → ℕ → List (List (Part N)) → ℕ
pick g k a [] = 0
pick g k a (rule ∷ []) = 0
pick g k a (rule ∷ other ∷ more) = if has a (selects g k rule) then 0 else suc (pick g k a (other ∷ more))

-- the rule that is taken
abbrev pub rule_at : {N S : Type 0} → Grammar N S → N → ℕ → Option (List (Part N))
rule_at g k a = rule_no (g.rules k) (pick g k a (g.rules k))

-- why the parser stops: nothing is left to be read, the symbol in hand may not stand here, or it opens a level too many
pub data Why : Type 0 where
  complete : Why
  wrong : Why
  too_deep : Why

-- The parser that waits for these parts, before these symbols, stops at the rest r, where at most so many levels may be
-- open. Each line is what it does with what it waits for next.
pub data Stops {N S : Type 0} (g : Grammar N S) (limit : ℕ) : List (Part N) → List S → Why → List S → Type 0 where
  -- it waits for nothing
  done : (words : List S) → Stops g limit [] words complete words
  -- it takes the symbol that it waits for
  taken : (a : ℕ) (s : S) (x : List (Part N)) (words r : List S) (y : Why) → g.kind s ≡ a → (g.opens a ≡ true → level g x 0 ≤ limit)
      → Stops g limit x words y r → Stops g limit (token a ∷ x) (s ∷ words) y r
  -- it notes the end of a level
  closed : (x : List (Part N)) (words r : List S) (y : Why) → Stops g limit x words y r → Stops g limit (level_end ∷ x) words y r
  -- it takes a rule by the symbol in hand
  chosen : (k : N) (rule x : List (Part N)) (s : S) (words r : List S) (y : Why) → rule_at g k (g.kind s) ≡ Some rule → Stops g limit (rule ++ x) (s ∷ words)
      y r → Stops g limit (part k ∷ x) (s ∷ words) y r
  -- another symbol stands here
  other : (a : ℕ) (s : S) (x : List (Part N)) (words : List S) → (g.kind s ≡ a → ⊥) → Stops g limit (token a ∷ x) (s ∷ words) wrong (s ∷ words)
  -- the symbol that it waits for opens a level beyond the limit
  over : (a : ℕ) (s : S) (x : List (Part N)) (words : List S) → g.kind s ≡ a → g.opens a ≡ true → limit < level g x 0
      → Stops g limit (token a ∷ x) (s ∷ words) too_deep (s ∷ words)
