-- Words of contracts. Where a parsing function stops, unless memory is wanting.
use Rattle.std.specs.Prelude.{◌≡◌, ◌≤◌, ℕ, suc, List, ◌∷◌, Option, Some}
use Rattle.edi_lex.specs.declared.symbol.Symbol.{Symbol}
use Rattle.edi_lex.specs.declared.symbol.Mark.{Mark}
use Rattle.edi_tree.specs.Spells.{to_end}
use Rattle.edi_grammar.specs.Grammar.{Part, token, part, level}
use Rattle.edi_grammar.specs.Parser.{Why, wrong, too_deep, Stops, rule_at}
use Rattle.edi_grammar.specs.Rules.{Sort}
use Rattle.edi_grammar.specs.Kind.{kind_of, front}
use Rattle.edi_grammar.specs.Kinds as kind
use Rattle.edi_grammar.specs.Edison.{edison}
use Rattle.edi_phrases.specs.declared.stop.Stop.{Stop}
use Rattle.edi_phrases.specs.declared.stop.Stop.TheVariants as stop

-- waiting for the part where n levels are open, before p, the predictive parser stops at r
abbrev pub StopsAt : Sort → ℕ → List Mark → Why → List (Option Mark) → Type 0
StopsAt k n p w r = (y : List (Part Sort)) → level edison y 0 ≡ n → Stops edison 64 (part k ∷ y) (to_end p) w r

abbrev pub HaltsBy : Sort → ℕ → List Mark → Stop → Type 0
HaltsBy k n p (stop.Fault rest) = StopsAt k n p wrong (to_end rest.now)
HaltsBy k n p (stop.TooDeep rest) = StopsAt k n p too_deep (to_end rest.now)
HaltsBy k n p stop.NoMemory = Unit {0}

-- there it halts
pub record HaltsAt (k : Sort) (n : ℕ) (p : List Mark) (e : Stop) : Type 0 where
  pub at : HaltsBy k n p e

-- a symbol of another kind than a is in front of p, and there is the fault
abbrev pub LacksBy : ℕ → List Mark → Stop → Type 0
LacksBy a p (stop.Fault rest) = (rest.now ≡ p) × (front p ≡ a → ⊥)
LacksBy a p (stop.TooDeep rest) = ⊥
LacksBy a p stop.NoMemory = Unit {0}

pub record Lacks (a : ℕ) (p : List Mark) (e : Stop) : Type 0 where
  pub at : LacksBy a p e

-- so, or a symbol of kind a is in front of p and n levels are open, which is all that may be
abbrev pub RefusesBy : ℕ → ℕ → List Mark → Stop → Type 0
RefusesBy a n p (stop.Fault rest) = (rest.now ≡ p) × (front p ≡ a → ⊥)
RefusesBy a n p (stop.TooDeep rest) = (rest.now ≡ p) × (front p ≡ a) × (64 ≤ n)
RefusesBy a n p stop.NoMemory = Unit {0}

pub record Refuses (a n : ℕ) (p : List Mark) (e : Stop) : Type 0 where
  pub at : RefusesBy a n p e

-- Waiting for a part whose rule here begins with this word, a name and this bracket, and which has one level more open behind it, the parser halts there.
pub record HaltsInHead (w bracket : Symbol) (n : ℕ) (p : List Mark) (e : Stop) : Type 0 where
  pub at : (k : Sort) (x : List (Part Sort)) → rule_at edison k (front p) ≡ Some (token (kind_of w) ∷ token kind.Name ∷ token (kind_of bracket) ∷ x)
      → level edison x n ≡ suc n → HaltsAt k n p e
