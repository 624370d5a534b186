-- Parts of records and arrays, one behind the other; constants in a row are one TEXT.
use Rattle.std.proofs.Common.{◌≡◌, ℕ, ◌+◌, ◌≤◌, List, [], ◌∷◌, ◌++◌, max, refl, sym, subst, ap, ◌∙◌, arith}
use Rattle.std.specs.Prelude.{sum_by}
use Rattle.std.proofs.lemmas.List.Sums.{sum_by-cons}
use Rattle.edi_store.specs.Memory.{words_at}
use Rattle.edi_unit.specs.Types as types
use Rattle.edi_unit.specs.Types.{size}
use Rattle.edi_unit.specs.Tree as tree
use Rattle.edi_unit.specs.Tree.{Expression, Expressions, Acts}
use Rattle.edi_unit.specs.Values.{Value, IsOf}
use Rattle.edi_unit.specs.Need.{expression_type, expression_height, compound_height}
use Rattle.edi_meaning.specs.Store.{Shape}
use Rattle.edi_meaning.specs.Evaluation.{World, Evaluation, gives, ◌>>=◌}
use Rattle.edi_meaning.specs.Whole.{expression, expressions}
use Rattle.edi_follows.specs.values.Words.{value_words}
use Rattle.edi_follows.specs.places.Coded.{Coded}
use Rattle.edi_follows.specs.places.Scene.{Scene, here, Stands, Able}
use Rattle.edi_follows.specs.places.Claims.{PushedRow}
use Rattle.edi_follows.specs.places.Constructs.{E, Es}
use Rattle.edi_follows.specs.places.Instructions.{Instructed}
use Rattle.edi_follows.proofs.places.Doing.{bind_up, give, stands_after}
use Rattle.edi_follows.proofs.places.Instructed.{instructed}
use Rattle.edi_follows.proofs.places.Binding.{bind_value}

-- the height of a row behind so many words more
compound_deeper : (ts : List types.Shape) (blocks : List tree.Block) (b n k : ℕ) (es : Expressions) →
    n + compound_height ts blocks b k es ≤ max n (compound_height ts blocks b (n + k) es)
compound_deeper ts blocks b n k tree.no_expression = omega arith
compound_deeper ts blocks b n k (tree.expression_then e es) =
    let later : n + compound_height ts blocks b (k + size ts (expression_type ts blocks b e)) es ≤ max n
    (compound_height ts blocks b (n + (k + size ts (expression_type ts blocks b e))) es) =
    compound_deeper ts blocks b n (k + size ts (expression_type ts blocks b e)) es in
    let same : n + (k + size ts (expression_type ts blocks b e)) ≡ n + k + size ts (expression_type ts blocks b e) = omega arith in
    let height : compound_height ts blocks b (n + (k + size ts (expression_type ts blocks b e))) es ≡ compound_height ts blocks b
    (n + k + size ts (expression_type ts blocks b e)) es =
    ap (λ z. compound_height ts blocks b z es) same in
    omega (arith, later, height)

module _ (g : Coded) (s : Scene) (deeper : Acts → World → Evaluation (Unit {0})) (bound : ℕ) where
  i : Instructed g s
  i = instructed g s

  abbrev ts : List types.Shape
  ts = g.unit.types

  abbrev row_height : Shape → ℕ → Expressions → ℕ
  row_height F n es = compound_height ts g.unit.blocks (here g s F) n es

  pub no_expression_does : Es g s deeper bound tree.no_expression
  no_expression_does [] F pc to t held w m less stands have fits able =
      give g s F pc t t held w m (PushedRow g s [] to t) [] able.stands (omega arith) (omega (arith, able.high))
      (record { pc_is = stands; top_is = omega arith; words = refl; typed = tt })
  no_expression_does (x ∷ xs) F pc to t held w m less stands have fits able = absurd have

  pub expression_then_does : (e : Expression) (es : Expressions) → E g s deeper bound e → Es g s deeper bound es →
      Es g s deeper bound (tree.expression_then e es)
  expression_then_does e es claim rest [] F pc to t held w m less stands have fits able = absurd have
  expression_then_does e es claim rest (x ∷ xs) F pc to t held w m less stands have fits able =
      let k : ℕ = expression_type ts g.unit.blocks (here g s F) e in
      bind_value g s (List Value) (PushedRow g s (x ∷ xs) to t) (expression g.unit s.name (s.size s.name) deeper e w)
      (λ v w. expressions g.unit s.name (s.size s.name) deeper es w >>= λ vs w. gives (v ∷ vs) w) F pc stands.0 t t t held k w m (omega arith)
      (claim F pc stands.0 t held w m less stands.1 fits.0
      (i.able_above F w m t (max (0 + expression_height ts g.unit.blocks (here g s F) e) (row_height F (0 + size ts k) es)) t
      (expression_height ts g.unit.blocks (here g s F) e) held able
      (omega arith) (omega arith)))
      (λ v z m' c high after post.
      let up : ℕ = t + size ts k in
      let stands' : Stands g s F z m' = stands_after g s F w z m m' t c able.stands after in
      let later : size ts k + row_height F 0 es ≤ max (size ts k) (row_height F (size ts k + 0) es) =
      compound_deeper ts g.unit.blocks (here g s F) (size ts k) 0 es in
      let less_high : row_height F (size ts k + 0) es ≡ row_height F (0 + size ts k) es = ap (λ n. row_height F n es) (omega arith) in
      let same : size ts x ≡ size ts k = ap (size ts) (sym have.0) in
      let able' : Able g s F z m' up (row_height F 0 es) held =
      record { stands = stands'; low = omega (arith, able.low); high = omega (arith, able.high, high, later, less_high); few = able.few } in
      bind_up g s (List Value) F stands.0 up t up held z m' (List Value) (PushedRow g s xs to up) (PushedRow g s (x ∷ xs) to t)
      (expressions g.unit s.name (s.size s.name) deeper es z)
      (λ vs w. gives (v ∷ vs) w) (omega arith)
      (rest xs F stands.0 to up held z m' (omega (arith, less, after.turns)) stands.2 have.1 fits.1 able')
      (λ vs y m'' pc' top' d above within after' row.
      let kept : words_at m'' t (size ts k) ≡ value_words v = i.operands_stay F z y m' m'' t (size ts k) up d stands' after' able.low (omega arith) high
      ∙ post.words in
      let total : sum_by (size ts) (x ∷ xs) ≡ size ts k + sum_by (size ts) xs = sum_by-cons (size ts) x xs ∙ ap (λ n. n + sum_by (size ts) xs) same in
      give g s F pc' top' t held y m'' (PushedRow g s (x ∷ xs) to t) (v ∷ vs) (stands_after g s F z y m' m'' up d stands' after')
      (omega (arith, above)) within (record {
        pc_is = row.pc_is;
        top_is = omega (arith, row.top_is, total);
        words =
            ap (words_at m'' t) total ∙ i.row_splits m'' t (size ts k) (sum_by (size ts) xs)
            ∙ ap (λ ws. ws ++ words_at m'' up (sum_by (size ts) xs)) kept ∙ ap (λ ws. value_words v ++ ws) row.words;
        typed = (subst (λ n. IsOf ts v n) have.0 post.typed, row.typed);
      })))
