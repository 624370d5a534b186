-- Constants in a row.
use Rattle.std.proofs.Common.{◌≡◌, ℕ, suc, ◌+◌, List, [], ◌∷◌, length, refl, sym, ap, ◌∙◌, arith}
use Rattle.std.specs.Prelude.{Bool, true, false, if◌then◌else◌, Option, Some, None, IfSome, is_some, map}
use Rattle.std.proofs.lemmas.List.{length-map}
use Rattle.std.specs.Option.{option_map}
use Rattle.edi_unit.specs.Tree.{Expression, constant}
use Rattle.edi_unit.specs.declared.expressions.Value as code_value
use Rattle.edi_unit.specs.Types.{shape_at, is_set_shape}
use Rattle.edi_unit.specs.View.{expressions, expression_of}
use Rattle.edi_target.specs.Op.{word_of_integer}
use Rattle.edi_scheme.specs.Pieces.{constant_words, row_length}
use Rattle.edi_code.specs.Scope.{types_in}
use Rattle.edi_code.specs.InScope.{expressions_length, members_length, make_words}
use Rattle.edi_code.specs.declared.scope.Scope.{Scope}

one_more : (n w : ℕ) (o : Option (List ℕ)) → IfSome o (λ ws. length ws ≡ n) → IfSome (option_map (λ (ws : List ℕ). w ∷ ws) o) (λ ws. length ws ≡ suc n)
one_more n w None h = tt
one_more n w (Some ws) h = omega (arith, h)

-- each constant has a word
pub row_has_length : (es : List Expression) → IfSome (constant_words (expressions es)) (λ ws. length ws ≡ length es)
row_has_length [] = refl
row_has_length (constant t n ∷ es) =
    one_more (length es) (word_of_integer n) (constant_words (expressions es)) (row_has_length es)
row_has_length (e ∷ es) = tt

row_is : (o : Option (List ℕ)) (m n : ℕ) → IfSome o (λ ws. length ws ≡ m) → is_some o ≡ true → row_length o n ≡ 2 + m
row_is None m n h e = absurd (cc)
row_is (Some ws) m n h e = ap (λ (k : ℕ). 2 + k) h

no_set : (ws : Option (List ℕ)) (test any : Bool) {set : Bool} (a m n : ℕ) → IfSome ws (λ ws. length ws ≡ m) → test ≡ false → any ≡ true → test ≡ set
    → any ≡ is_some ws → (if set then a else row_length ws n) ≡ 2 + m
no_set ws test any {set = true} a m n h s e is some = absurd (cc)
no_set ws test any {set = false} a m n h s e is some = row_is ws m n h (sym some ∙ e)

-- the words of constants that are no set
pub row_long : (s : Scope) (t : ℕ) (items : List code_value.Value) (test any : Bool) → test ≡ false → any ≡ true
    → test ≡ is_set_shape (shape_at (types_in s) t) → any ≡ is_some (constant_words (expressions (map expression_of items)))
    → make_words s t (expressions (map expression_of items)) ≡ 2 + length items
row_long s t items test any unset each is some =
    let values : List Expression = map expression_of items in
    no_set (constant_words (expressions values)) test any (2 + members_length s (expressions values)) (length values)
    (expressions_length s (expressions values)) (row_has_length values) unset each is some
    ∙ ap (λ n. 2 + n) (length-map items expression_of)
