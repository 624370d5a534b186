-- What constructors make of their parts.
use Rattle.std.proofs.Common.{◌≡◌, ℕ, Bool, true, false, ◌&&◌, ◌==◌, List, [], ◌∷◌, length, map, refl, ap, sym, ◌∙◌, arith}
use Rattle.edi_unit.specs.declared.expressions.Value as code_value
use Rattle.edi_unit.specs.Tree as unit
use Rattle.edi_unit.specs.View.{expression_of, expressions}
use Rattle.edi_static.specs.declared.operands.Typed as code_typed
use Rattle.edi_static.specs.Fitting.{expressions_of, made}
use Rattle.edi_static.specs.Views.{typed_of}

each_is : (ps : List code_typed.Typed) → expressions_of (map typed_of ps) ≡ expressions (map (λ p. expression_of p.what) ps)
each_is [] = refl
each_is (p ∷ ps) = ap (unit.expression_then (expression_of p.what)) (each_is ps)

-- the values of parts
pub values_are : (vs : List code_value.Value) (ps : List code_typed.Typed) → map expression_of vs ≡ map (λ p. expression_of p.what) ps →
    expressions_of (map typed_of ps) ≡ expressions (map expression_of vs)
values_are vs ps h = each_is ps ∙ ap expressions (sym h)

-- one part converts, of an elementary type
pub converts : (elementary : Bool) (of : ℕ) (ps : List code_typed.Typed) (one : code_typed.Typed) (line : ℕ) →
    (elementary ≡ true) → ps ≡ one ∷ [] → made elementary of (map typed_of ps) line ≡ unit.convert of (expression_of one.what) line
converts elementary of ps one line h e = ap (λ b. made b of (map typed_of ps) line) h ∙ ap (λ xs. made true of (map typed_of xs) line) e

-- other parts are those of a record, an array or a set
pub makes : (elementary : Bool) (of : ℕ) (ps : List code_typed.Typed) (line : ℕ) → (elementary && length ps == 1) ≡ false →
    made elementary of (map typed_of ps) line ≡ unit.make of (expressions_of (map typed_of ps)) line
makes false of ps line h = refl
makes true of [] line h = refl
makes true of (p ∷ []) line h = absurd (grind (arith, h))
makes true of (p ∷ q ∷ ps) line h = refl

-- the types of parts
pub types_of : (ps : List code_typed.Typed) → map (λ p. p.of) ps ≡ map (λ v. v.of) (map typed_of ps)
types_of [] = refl
types_of (p ∷ ps) = ap (λ ts. p.of ∷ ts) (types_of ps)
