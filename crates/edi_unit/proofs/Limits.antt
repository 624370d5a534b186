-- Lemmas on heights that are counted up to a limit.
use Rattle.std.proofs.Common.{◌≡◌, ℕ, suc, ◌+◌, ◌<◌, List, ◌∷◌, length, get_or, drop, drop-cons, refl, sym, ap, ◌∙◌, arith}
use Rattle.std.specs.Prelude.{max}
use Rattle.edi_unit.specs.Types.{Shape, size}
use Rattle.edi_unit.specs.Tree.{Expression, Expressions, no_expression, expression_then, Argument, Arguments, no_argument, argument_then, Block}
use Rattle.edi_unit.specs.Need.{limited, expression_type, expression_height, compound_height, argument_words, argument_height, arguments_height}

-- a list from a place on: the item there, and the rest
pub drop_item : {A : Type 0} (xs : List A) (i : ℕ) (x : A) → i < length xs → x ≡ get_or xs i x → drop i xs ≡ x ∷ drop (i + 1) xs
drop_item xs i x within is =
    let next : suc i ≡ i + 1 = omega arith in
    drop-cons xs i x within ∙ ap (λ y. y ∷ drop (suc i) xs) (sym is) ∙ ap (λ n. x ∷ drop n xs) next

module _ (types : List Shape) (blocks : List Block) (b : ℕ) where
  -- the words before the parts count up to the limit alone
  compound_limited : (m n : ℕ) (es : Expressions) → limited m ≡ limited n → limited (compound_height types blocks b m es) ≡ limited
      (compound_height types blocks b n es)
  compound_limited m n no_expression same = refl
  compound_limited m n (expression_then e es) same =
      let rest = compound_limited (m + size types (expression_type types blocks b e)) (n + size types (expression_type types blocks b e)) es (omega arith) in
      omega (arith, rest)

  arguments_limited : (m n : ℕ) (xs : Arguments) → limited m ≡ limited n → limited (arguments_height types blocks b m xs) ≡ limited
      (arguments_height types blocks b n xs)
  arguments_limited m n no_argument same = refl
  arguments_limited m n (argument_then x xs) same =
      let rest = arguments_limited (m + argument_words types blocks b x) (n + argument_words types blocks b x) xs (omega arith) in
      omega (arith, rest)

  -- one more part
  pub compound_step : (e : Expression) (es : Expressions) (before after words more height here all : ℕ)
      → height ≡ limited (expression_height types blocks b e) → here ≡ limited (before + height) → more ≡ max words here
      → after ≡ limited (before + size types (expression_type types blocks b e))
      → limited (max words (compound_height types blocks b before (expression_then e es))) ≡ all → limited (max more (compound_height types blocks b after es))
      ≡ all
  compound_step e es before after words more height here all he hh hm ha hi =
      let rest = compound_limited after (before + size types (expression_type types blocks b e)) es (omega arith) in
      omega (arith, rest)

  -- one more argument
  pub arguments_step : (x : Argument) (xs : Arguments) (before after words more height here all : ℕ) → height ≡ limited (argument_height types blocks b x)
      → here ≡ limited (before + height) → more ≡ max words here → after ≡ limited (before + argument_words types blocks b x)
      → limited (max words (arguments_height types blocks b before (argument_then x xs))) ≡ all → limited (max more (arguments_height types blocks b after xs))
      ≡ all
  arguments_step x xs before after words more height here all he hh hm ha hi =
      let rest = arguments_limited after (before + argument_words types blocks b x) xs (omega arith) in
      omega (arith, rest)
