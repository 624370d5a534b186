-- The parts that are one operator.
use Rattle.std.proofs.Common.{◌≡◌, ℕ, List, [], ◌∷◌, true, false, if◌then◌else◌, Some, refl, ap, ◌∙◌}
use Rattle.edi_lex.specs.declared.symbol.Symbol.{Symbol}
use Rattle.edi_lex.specs.declared.symbol.Mark.{Mark}
use Rattle.edi_tree.specs.declared.expressions.Relation.{Relation}
use Rattle.edi_tree.specs.declared.expressions.Relation.TheVariants as relation
use Rattle.edi_tree.specs.declared.expressions.Addition.{Addition}
use Rattle.edi_tree.specs.declared.expressions.Addition.TheVariants as addition
use Rattle.edi_tree.specs.declared.expressions.Multiplication.{Multiplication}
use Rattle.edi_tree.specs.declared.expressions.Multiplication.TheVariants as multiplication
use Rattle.edi_tree.specs.Stands.{on, relation_symbol, addition_symbol, multiplication_symbol}
use Rattle.edi_tree.specs.Levels.{Element, kept}
use Rattle.edi_grammar.specs.Grammar.{Part, token, part, rule_no}
use Rattle.edi_grammar.specs.Parser.{has, rule_at}
use Rattle.edi_grammar.specs.Kind.{front, kind_of}
use Rattle.edi_grammar.specs.Rules as g
use Rattle.edi_grammar.specs.Rules.{Sort, opens}
use Rattle.edi_grammar.specs.Edison.{edison, first}
use Rattle.edi_phrases.specs.Words.{at_line}
use Rattle.edi_phrases.specs.Parses.{Goes}
use Rattle.edi_phrases.proofs.Opened.{over_front}

-- The symbol s alone is the part j, an operator, and before it the part k takes this rule.
record Operator (j k : Sort) (rule : List (Part Sort)) (s : Symbol) : Type 0 where
  alone : rule_at edison j (kind_of s) ≡ Some (token (kind_of s) ∷ [])
  shut : opens (kind_of s) ≡ false
  chosen : rule_at edison k (kind_of s) ≡ Some rule

is_relation : (r : Relation) → Operator g.Relation g.Comparison (part g.Relation ∷ part g.Simple ∷ []) (relation_symbol r)
is_relation relation.Equal = record { alone = refl; shut = refl; chosen = refl }
is_relation r = record { alone = refl; shut = refl; chosen = refl }

is_addition : (a : Addition) → Operator g.Addition g.Addends (part g.Addend ∷ part g.Addends ∷ []) (addition_symbol a)
is_addition addition.Plus = record { alone = refl; shut = refl; chosen = refl }
is_addition a = record { alone = refl; shut = refl; chosen = refl }

is_multiplication : (m : Multiplication) → Operator g.Multiplication g.Multipliers (part g.Multiplier ∷ part g.Multipliers ∷ []) (multiplication_symbol m)
is_multiplication multiplication.Star = record { alone = refl; shut = refl; chosen = refl }
is_multiplication m = record { alone = refl; shut = refl; chosen = refl }

-- the rule that is taken before an operator
before : {j k : Sort} {rule : List (Part Sort)} {s : Symbol} {line : ℕ} {p rest : List Mark} → Operator j k rule s → p ≡ at_line s line ∷ rest
    → rule_at edison k (front p) ≡ Some rule
before {k = k} o e = ap (λ p. rule_at edison k (front p)) e ∙ o.chosen

pub comparison_at : (r : Relation) (line : ℕ) (p rest : List Mark) → p ≡ at_line (relation_symbol r) line ∷ rest → rule_at edison g.Comparison (front p)
    ≡ Some (part g.Relation ∷ part g.Simple ∷ [])
comparison_at r line p rest e = before (is_relation r) e

pub addends_at : (r : Addition) (line : ℕ) (p rest : List Mark) → p ≡ at_line (addition_symbol r) line ∷ rest → rule_at edison g.Addends (front p) ≡ Some
    (part g.Addend ∷ part g.Addends ∷ [])
addends_at r line p rest e = before (is_addition r) e

pub multipliers_at : (r : Multiplication) (line : ℕ) (p rest : List Mark) → p ≡ at_line (multiplication_symbol r) line ∷ rest → rule_at edison g.Multipliers
    (front p) ≡ Some (part g.Multiplier ∷ part g.Multipliers ∷ [])
multipliers_at r line p rest e = before (is_multiplication r) e

-- behind it
over_operator : {i j k : Sort} {n line : ℕ} {f : List Element → List Element} {rule x : List (Part Sort)} {s : Symbol} {p q rest : List Mark} → Operator j k rule s
    → Goes i n f (part j ∷ x) p q → q ≡ at_line s line ∷ rest → Goes i n (λ es. f (kept s line ∷ es)) x p rest
over_operator {j = j} {line = line} {s = s} o go e = over_front j s (on s line) o.alone o.shut (refl, refl) go e

pub over_relation : {k : Sort} {n : ℕ} {f : List Element → List Element} {x : List (Part Sort)} {p q rest : List Mark} → Goes k n f (part g.Relation ∷ x) p q
    → (r : Relation) (line : ℕ) → q ≡ at_line (relation_symbol r) line ∷ rest → Goes k n (λ es. f (kept (relation_symbol r) line ∷ es)) x p rest
over_relation go r line e = over_operator (is_relation r) go e

pub over_addition : {k : Sort} {n : ℕ} {f : List Element → List Element} {x : List (Part Sort)} {p q rest : List Mark} → Goes k n f (part g.Addition ∷ x) p q
    → (r : Addition) (line : ℕ) → q ≡ at_line (addition_symbol r) line ∷ rest → Goes k n (λ es. f (kept (addition_symbol r) line ∷ es)) x p rest
over_addition go r line e = over_operator (is_addition r) go e

pub over_multiplication : {k : Sort} {n : ℕ} {f : List Element → List Element} {x : List (Part Sort)} {p q rest : List Mark}
    → Goes k n f (part g.Multiplication ∷ x) p q → (r : Multiplication) (line : ℕ) → q ≡ at_line (multiplication_symbol r) line ∷ rest
    → Goes k n (λ es. f (kept (multiplication_symbol r) line ∷ es)) x p rest
over_multiplication go r line e = over_operator (is_multiplication r) go e

pub comparison_end : (a : ℕ) → has a (first g.Relation) ≡ false → rule_at edison g.Comparison a ≡ Some []
comparison_end a e = ap (λ b. rule_no (edison.rules g.Comparison) (if b then 0 else 1)) e

pub addends_end : (a : ℕ) → has a (first g.Addition) ≡ false → rule_at edison g.Addends a ≡ Some []
addends_end a e = ap (λ b. rule_no (edison.rules g.Addends) (if b then 0 else 1)) e

pub multipliers_end : (a : ℕ) → has a (first g.Multiplication) ≡ false → rule_at edison g.Multipliers a ≡ Some []
multipliers_end a e = ap (λ b. rule_no (edison.rules g.Multipliers) (if b then 0 else 1)) e

pub selectors_end : (a : ℕ) → has a (first g.Selector) ≡ false → rule_at edison g.Selectors a ≡ Some []
selectors_end a e = ap (λ b. rule_no (edison.rules g.Selectors) (if b then 0 else 1)) e

pub selectors_more : (a : ℕ) → has a (first g.Selector) ≡ true → rule_at edison g.Selectors a ≡ Some (part g.Selector ∷ part g.Selectors ∷ [])
selectors_more a e = ap (λ b. rule_no (edison.rules g.Selectors) (if b then 0 else 1)) e
