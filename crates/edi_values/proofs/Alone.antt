-- Expressions of one factor, by the lengths of their lists.
use Rattle.std.proofs.Common.{◌≡◌, ℕ, ◌==◌, true, false, List, [], ◌∷◌, length, map, Some, None, refl, arith}
use Rattle.edi_tree.specs.declared.expressions.Relation.{Relation}
use Rattle.edi_tree.specs.declared.expressions.Root.TheVariants as root
use Rattle.edi_tree.specs.declared.expressions.Addend as code_addend
use Rattle.edi_tree.specs.declared.expressions.Multiplier as code_multiplier
use Rattle.edi_tree.specs.declared.expressions.Selector as code_selector
use Rattle.edi_tree.specs.declared.names.Name.{Name}
use Rattle.edi_tree.specs.Tree.{Factor, Simple, Term, no_comparison, compared, expr, simple, term, variable, variable_factor, no_addend, next_addend}
use Rattle.edi_tree.specs.Tree.{no_multiplier, next_multiplier}
use Rattle.edi_tree.specs.View.{addends, addend_of, multipliers, multiplier_of, selectors, selector_of}
use Rattle.edi_static.specs.Fitting.{only_factor, name_of_factor}
use Rattle.edi_values.specs.Parts.{term_factor, simple_factor}

-- ---- terms

pub multiplied : (f : Factor) (ms : List code_multiplier.Multiplier) → (length ms == 0) ≡ false
    → None ≡ term_factor (term f (multipliers (map multiplier_of ms)))
multiplied f [] h = absurd (grind (arith, h))
multiplied f (m ∷ ms) h = refl

pub unmultiplied : (f : Factor) (ms : List code_multiplier.Multiplier) → (length ms == 0) ≡ true
    → Some f ≡ term_factor (term f (multipliers (map multiplier_of ms)))
unmultiplied f [] h = refl
unmultiplied f (m ∷ ms) h = absurd (grind (arith, h))

-- ---- simple expressions

pub added : (t : Term) (ts : List code_addend.Addend) → (length ts == 0) ≡ false → None ≡ simple_factor (simple None t (addends (map addend_of ts)))
added t [] h = absurd (grind (arith, h))
added t (a ∷ ts) h = refl

pub unadded : (t : Term) (ts : List code_addend.Addend) → (length ts == 0) ≡ true → term_factor t ≡ simple_factor (simple None t (addends (map addend_of ts)))
unadded t [] h = refl
unadded t (a ∷ ts) h = absurd (grind (arith, h))

-- ---- expressions

pub compared_none : (s : Simple) (r : Relation) (line : ℕ) (right : Simple) → None ≡ only_factor (expr s (compared r line right))
compared_none (simple (Some sign) t ts) r line right = refl
compared_none (simple None (term f no_multiplier) no_addend) r line right = refl
compared_none (simple None (term f no_multiplier) (next_addend a ts)) r line right = refl
compared_none (simple None (term f (next_multiplier m ms)) ts) r line right = refl

pub uncompared : (s : Simple) → simple_factor s ≡ only_factor (expr s no_comparison)
uncompared (simple (Some sign) t ts) = refl
uncompared (simple None (term f no_multiplier) no_addend) = refl
uncompared (simple None (term f no_multiplier) (next_addend a ts)) = refl
uncompared (simple None (term f (next_multiplier m ms)) no_addend) = refl
uncompared (simple None (term f (next_multiplier m ms)) (next_addend a ts)) = refl

-- ---- variables

pub selected : (name : Name) (ss : List code_selector.Selector) → (length ss == 0) ≡ false →
    None ≡ name_of_factor (Some (variable_factor (variable (root.Name name) (selectors (map selector_of ss)))))
selected name [] h = absurd (grind (arith, h))
selected name (s ∷ ss) h = refl

pub unselected : (name : Name) (ss : List code_selector.Selector) → (length ss == 0) ≡ true →
    Some name ≡ name_of_factor (Some (variable_factor (variable (root.Name name) (selectors (map selector_of ss)))))
unselected name [] h = refl
unselected name (s ∷ ss) h = absurd (grind (arith, h))
