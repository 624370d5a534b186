-- Constants in a row: they are evaluated at once, and their words are those of one TEXT.
use Rattle.std.proofs.Common.{◌≡◌, ℕ, ◌+◌, ◌≤◌, List, [], ◌∷◌, max, Option, Some, None, refl, sym, subst, ap, ◌∙◌, arith}
use Rattle.std.specs.Prelude.{sum_by, ℤ}
use Rattle.std.specs.Option.{option_map}
use Rattle.std.proofs.lemmas.List.Sums.{sum_by-cons}
use Rattle.edi_unit.specs.Types as types
use Rattle.edi_unit.specs.Types.{size}
use Rattle.edi_unit.specs.Tree as tree
use Rattle.edi_unit.specs.Tree.{Expression, Expressions, Acts}
use Rattle.edi_unit.specs.Values.{Value, ordinal, values, IsOf, AreOf}
use Rattle.edi_unit.specs.Need.{compound_height}
use Rattle.edi_unit.specs.Fits.{ExpressionsFit, HaveTypes}
use Rattle.edi_meaning.specs.Evaluation.{World, Evaluation, gives, ◌>>=◌}
use Rattle.edi_meaning.specs.Whole.{expressions}
use Rattle.edi_target.specs.Op.{word_of_integer}
use Rattle.edi_scheme.specs.Pieces.{constant_words}
use Rattle.edi_follows.specs.values.Words.{values_words}
use Rattle.edi_follows.proofs.values.Lengths.{size_of_ordinal}
use Rattle.edi_follows.specs.places.Coded.{Coded}
use Rattle.edi_follows.specs.places.Scene.{Scene}
use Rattle.edi_follows.proofs.values.Unary.{table_of}

some_is : {A : Type 0} {x y : A} → Some x ≡ Some y → x ≡ y
some_is e = cc

-- all are constants, and the first one is taken off
constants_left : (n : ℤ) (o : Option (List ℕ)) (ws : List ℕ) → option_map (λ us. word_of_integer n ∷ us) o ≡ Some ws →
    (us : List ℕ) × (o ≡ Some us) × (ws ≡ word_of_integer n ∷ us)
constants_left n None ws e = absurd (cc)
constants_left n (Some us) ws e = (us, refl, sym (some_is e))

module _ (g : Coded) (s : Scene) (deeper : Acts → World → Evaluation (Unit {0})) (b : ℕ) where
  abbrev ts : List types.Shape
  ts = g.unit.types

  -- what constants in a row give
  pub record Constants (es : Expressions) (ws : List ℕ) (of : List ℕ) : Type 0 where
    pub given : List Value
    pub is : (w : World) → expressions g.unit s.name (s.size s.name) deeper es w ≡ gives given w
    pub words : values_words (values given) ≡ ws
    pub typed : AreOf ts (values given) of
    -- they are no higher than they are long
    pub high : (n : ℕ) → n + sum_by (size ts) of ≤ max n (compound_height ts g.unit.blocks b n es)

  pub constants_are : (es : Expressions) (ws of : List ℕ) → constant_words es ≡ Some ws → HaveTypes ts g.unit.blocks g.fits.headings b es of →
      ExpressionsFit ts g.unit.blocks g.fits.headings b es → Constants es ws of
  constants_are tree.no_expression ws [] e have fits = record { given = []; is = λ w. refl; words = some_is e; typed = tt; high = λ n. omega arith }
  constants_are tree.no_expression ws (x ∷ xs) e have fits = absurd have
  constants_are (tree.expression_then (tree.constant t n) es) ws [] e have fits = absurd have
  constants_are (tree.expression_then (tree.constant t n) es) ws (x ∷ xs) e have fits =
      let left : (us : List ℕ) × (constant_words es ≡ Some us) × (ws ≡ word_of_integer n ∷ us) = constants_left n (constant_words es) ws e in
      let rest : Constants es left.0 xs = constants_are es left.0 xs left.1 have.1 fits.1 in
      let one : size ts t ≡ 1 = size_of_ordinal ts (table_of g) t n fits.0.0 fits.0.1 in
      let same : size ts x ≡ 1 = ap (size ts) (sym have.0) ∙ one in
      record {
        given = ordinal n ∷ rest.given;
        is = λ w. ap (λ r. r >>= λ vs w. gives (ordinal n ∷ vs) w) (rest.is w);
        words = ap (λ us. word_of_integer n ∷ us) rest.words ∙ sym left.2;
        typed = (subst (λ k. IsOf ts (ordinal n) k) have.0 fits.0.1, rest.typed);
        high = λ k.
            let later : k + size ts t + sum_by (size ts) xs ≤ max (k + size ts t) (compound_height ts g.unit.blocks b (k + size ts t) es) =
            rest.high (k + size ts t) in
            omega (arith, later, sum_by-cons (size ts) x xs, same, one);
      }
  constants_are (tree.expression_then (tree.load v) es) ws of e have fits = absurd (cc)
  constants_are (tree.expression_then (tree.not_of x) es) ws of e have fits = absurd (cc)
  constants_are (tree.expression_then (tree.sign_of x line) es) ws of e have fits = absurd (cc)
  constants_are (tree.expression_then (tree.chain x ls) es) ws of e have fits = absurd (cc)
  constants_are (tree.expression_then (tree.make t xs line) es) ws of e have fits = absurd (cc)
  constants_are (tree.expression_then (tree.convert t x line) es) ws of e have fits = absurd (cc)
  constants_are (tree.expression_then (tree.apply_of c xs line) es) ws of e have fits = absurd (cc)
