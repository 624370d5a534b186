-- Chains of operators, from the left; `and` and `or` go on behind the right operand where the left one decides.
use Rattle.std.proofs.Common.{◌≡◌, ℕ, ◌+◌, ◌<◌, ◌≤◌, Bool, true, false, ◌&&◌, ◌||◌, not, if◌then◌else◌, List, [], length, max, Some, refl, sym, subst, ap}
use Rattle.std.proofs.Common.{◌∙◌, arith}
use Rattle.std.specs.Prelude.{nat_eq, IsTrue}
use Rattle.edi_store.specs.Memory.{words_at}
use Rattle.edi_unit.specs.declared.expressions.Operator.{Operator}
use Rattle.edi_unit.specs.declared.expressions.Operator.TheVariants as operator
use Rattle.edi_unit.specs.Types as types
use Rattle.edi_unit.specs.Types.{bool_type, is_elementary, size}
use Rattle.edi_unit.specs.Tree as tree
use Rattle.edi_unit.specs.Tree.{Expression, Links, Acts}
use Rattle.edi_unit.specs.Values.{Value, IsOf, apply, decides, is_true, truth}
use Rattle.edi_unit.specs.Need.{expression_type, expression_height, links_height, operator_type, left_words, links_type}
use Rattle.edi_unit.specs.Fits.{OperatorFits, ExpressionFits}
use Rattle.edi_meaning.specs.Store.{Shape}
use Rattle.edi_meaning.specs.Evaluation.{World, Evaluation, gives, ◌>>=◌}
use Rattle.edi_meaning.specs.Whole as whole
use Rattle.edi_meaning.specs.Whole.{expression, linked}
use Rattle.edi_target.specs.Op as op
use Rattle.edi_scheme.specs.Pieces.{decision, operation}
use Rattle.edi_scheme.specs.Stands as code
use Rattle.edi_scheme.proofs.Known.{operator_known}
use Rattle.edi_follows.specs.values.Words.{value_words}
use Rattle.edi_follows.specs.values.Operated.{operated, word_of, Follows}
use Rattle.edi_follows.proofs.values.Alone.{bool_elementary, truth_is_tested}
use Rattle.edi_follows.proofs.values.Operators.{operators_follow}
use Rattle.edi_follows.specs.places.Coded.{Coded, entry}
use Rattle.edi_follows.specs.places.Spots.{frames_end}
use Rattle.edi_follows.specs.places.Scene.{Scene, here, Stands, Able, Does}
use Rattle.edi_follows.specs.places.Claims.{Pushed}
use Rattle.edi_follows.specs.places.Constructs.{E, Ls}
use Rattle.edi_follows.specs.places.Instructions.{Instructed, DoesDecide}
use Rattle.edi_follows.proofs.places.Doing.{stands_after, give}
use Rattle.edi_follows.proofs.places.Rises.{one_up, expression_up}
use Rattle.edi_follows.proofs.places.Instructed.{instructed}
use Rattle.edi_follows.proofs.places.Binding.{bind_value, at_same}
use Rattle.edi_follows.proofs.values.Unary.{table_of, ranged, Lone, lone, known_type}
use Rattle.edi_follows.proofs.values.Operations.{result_fits, Operates, IsPlain, operates}

not_not : (b : Bool) → not (not b) ≡ b
not_not true = refl
not_not false = refl

module _ (g : Coded) (s : Scene) (deeper : Acts → World → Evaluation (Unit {0})) (bound : ℕ) where
  i : Instructed g s
  i = instructed g s

  abbrev ts : List types.Shape
  ts = g.unit.types

  abbrev kind_of : Shape → Expression → ℕ
  kind_of F e = expression_type ts g.unit.blocks (here g s F) e

  abbrev height_of : Shape → Expression → ℕ
  height_of F e = expression_height ts g.unit.blocks (here g s F) e

  abbrev value_of : Expression → World → Evaluation Value
  value_of e w = expression g.unit s.name (s.size s.name) deeper e w

  -- one operator with its right operand, where the left one stands above t
  module _ (e : Expression) (line of : ℕ) (claim : E g s deeper bound e) (F : Shape) (pc right end behind t held : ℕ) (w : World) (m : List ℕ) (v : Value)
      (less : w.turns ≤ bound) (stands : code.IsExpression g.fetched ts g.unit.blocks (entry g) (here g s F) e right end)
      (fits : ExpressionFits ts g.unit.blocks g.fits.headings (here g s F) e) (known : of < length ts) (within : t + size ts of ≤ frames_end s.first F s.name)
      (left : Pushed g s of pc t v m pc (t + size ts of)) where
    abbrev k : ℕ
    k = kind_of F e

    -- an operator that always takes its right operand
    plain : (o : Operator) → IsPlain o → ((u : Value) → decides o v ≡ false) → OperatorFits ts o of k → pc ≡ right →
        code.AreInstructions g.fetched (operation ts of o line) end behind → Able g s F w m t (size ts of + height_of F e) held →
        Does g s F pc (t + size ts of) t held w m (Pushed g s (operator_type o of) behind t) (value_of e w >>= λ u w. whole.in_range line (apply o v u) w)
    plain o is_plain undecided operands at operation_at able =
        let up : ℕ = t + size ts of in
        bind_value g s Value (Pushed g s (operator_type o of) behind t) (value_of e w)
        (λ u w. whole.in_range line (apply o v u) w) F pc end up t up held k w m (omega arith)
        (at_same g s Value (Pushed g s k end up) (value_of e w) F right pc up up up held w m at refl
        (claim F right end up held w m less stands fits
        (i.able_above F w m t (size ts of + height_of F e) up (height_of F e) held able (omega arith) (omega arith))))
        (λ u z m' c high after post.
        let h : Stands g s F z m' = stands_after g s F w z m m' up c able.stands after in
        let known' : k < length ts = known_type g s deeper bound F w m e able.stands fits in
        let stays : words_at m' t (size ts of) ≡ value_words v = i.operands_stay F w z m m' t (size ts of) up c able.stands after able.low
        (omega arith) within ∙ left.words in
        let f : Follows ts of o v u = operators_follow ts (table_of g) of k o v u known known' operands left.typed post.typed (undecided u) in
        let does : Operates g s F m' t held line end behind of k v u able.low known known' left.typed post.typed stays post.words
        (operated ts of o (value_words v) (value_words u)) =
        operates g s F m' t held line end behind of k v u able.low known known' left.typed post.typed stays post.words o is_plain operands operation_at in
        ranged g s F does.instruction end behind (up + size ts k) t held (operator_type o of) line z m' (operated ts of o (value_words v) (value_words u))
        (apply o v u) h
        does.at does.is able.low (omega (arith, within, result_fits g o of known)) f.words f.known f.typed)

    -- `and` and `or`
    module _ (o : Operator) (j : op.Instruction) (test : ℕ → Bool) (decide : DoesDecide g s j behind test) (at : g.fetched pc ≡ Some (j, right))
        (ends : end ≡ behind)
        (of_bool : of ≡ bool_type) (k_bool : k ≡ bool_type) (gives_bool : operator_type o of ≡ of) (able : Able g s F w m t (height_of F e) held) where
      left_typed : IsOf ts v bool_type
      left_typed = subst (λ x. IsOf ts v x) of_bool left.typed

      a : Lone g v m t of
      a = lone g s v m t of known (subst (λ x. IsTrue (is_elementary ts x)) (sym of_bool) (bool_elementary ts (table_of g))) left.typed left.words

      ahead : pc < behind
      ahead = omega (arith, one_up g pc j right at, expression_up g (here g s F) e right end stands, ends)

      -- it decides: it is the result
      decided : test (word_of v) ≡ true → Does g s F pc (t + size ts of) t held w m (Pushed g s (operator_type o of) behind t) (gives v w)
      decided is =
          i.goes_then Value (Pushed g s (operator_type o of) behind t) (gives v w) F j pc right behind (t + size ts of) (t + size ts of) t held w m at
          ((decide F m right (word_of v) pc t (t + size ts of) held ahead able.low (omega (arith, a.size_is)) a.word_is).0 is)
          (give g s F behind (t + size ts of) t held w m (Pushed g s (operator_type o of) behind t) v able.stands (omega arith) within (record {
            pc_is = refl;
            top_is = ap (λ n. t + size ts n) (sym gives_bool);
            words = ap (λ n. words_at m t (size ts n)) gives_bool ∙ left.words;
            typed = subst (λ n. IsOf ts v n) (sym gives_bool) left.typed;
          }))

      -- it does not: the right operand is
      undecided : test (word_of v) ≡ false → ((u : Value) → IsOf ts u bool_type → apply o v u ≡ Some u) →
          Does g s F pc (t + size ts of) t held w m (Pushed g s (operator_type o of) behind t) (value_of e w >>= λ u w. whole.in_range line (apply o v u) w)
      undecided is last =
          i.goes_then Value (Pushed g s (operator_type o of) behind t) (value_of e w >>= λ u w. whole.in_range line (apply o v u) w) F j pc right right
          (t + size ts of) t t held w m at
          ((decide F m right (word_of v) pc t (t + size ts of) held ahead able.low (omega (arith, a.size_is)) a.word_is).1 is)
          (bind_value g s Value (Pushed g s (operator_type o of) behind t) (value_of e w)
          (λ u w. whole.in_range line (apply o v u) w) F right end t t t held k w m (omega arith)
          (claim F right end t held w m less stands fits able) (λ u z m' c high after post.
          let same : operator_type o of ≡ k = gives_bool ∙ of_bool ∙ sym k_bool in
          subst (λ r. Does g s F end (t + size ts k) t held z m' (Pushed g s (operator_type o of) behind t) (whole.in_range line r z))
          (sym (last u (subst (λ n. IsOf ts u n) k_bool post.typed)))
          (give g s F end (t + size ts k) t held z m' (Pushed g s (operator_type o of) behind t) u (stands_after g s F w z m m' t c able.stands after)
          (omega arith) high (record {
            pc_is = ends;
            top_is = ap (λ n. t + size ts n) (sym same);
            words = ap (λ n. words_at m' t (size ts n)) same ∙ post.words;
            typed = subst (λ n. IsOf ts u n) (sym same) post.typed;
          }))))

  -- ---- all operators

  and_test : (v : Value) → IsOf ts v bool_type → nat_eq (word_of v) 0 ≡ not (is_true v)
  and_test v is = (truth_is_tested ts (table_of g) v is).0

  or_test : (v : Value) → IsOf ts v bool_type → not (nat_eq (word_of v) 0) ≡ is_true v
  or_test v is = ap not (and_test v is) ∙ not_not (is_true v)

  and_last : (v u : Value) → not (is_true v) ≡ false → IsOf ts u bool_type → apply operator.And v u ≡ Some u
  and_last v u e is = ap (λ b. Some (truth (b && is_true u))) (sym (not_not (is_true v)) ∙ ap not e) ∙ ap Some (sym (truth_is_tested ts (table_of g) u is).1)

  or_last : (v u : Value) → is_true v ≡ false → IsOf ts u bool_type → apply operator.Or v u ≡ Some u
  or_last v u e is = ap (λ b. Some (truth (b || is_true u))) e ∙ ap Some (sym (truth_is_tested ts (table_of g) u is).1)

  abbrev Operated : Operator → Expression → ℕ → ℕ → Type 0
  Operated o e line of =
      (F : Shape) (pc right end behind t held : ℕ) (w : World) (m : List ℕ) (v : Value) → w.turns ≤ bound →
      code.AreInstructions g.fetched (decision o behind) pc right → code.IsExpression g.fetched ts g.unit.blocks (entry g) (here g s F) e right end →
      code.AreInstructions g.fetched (operation ts of o line) end behind → OperatorFits ts o of (kind_of F e) →
      ExpressionFits ts g.unit.blocks g.fits.headings (here g s F) e → of < length ts → Able g s F w m t (left_words ts o of + height_of F e) held →
      t + size ts of ≤ frames_end s.first F s.name → Pushed g s of pc t v m pc (t + size ts of) →
      Does g s F pc (t + size ts of) t held w m (Pushed g s (operator_type o of) behind t)
      (whole.operated g.unit s.name (s.size s.name) deeper v (tree.link o e line) w)

  -- `and` and `or` keep no word below the right operand
  fewer : (F : Shape) (w : World) (m : List ℕ) (t : ℕ) (e : Expression) (held : ℕ) → Able g s F w m t (0 + height_of F e) held →
      Able g s F w m t (height_of F e) held
  fewer F w m t e held able = i.able_above F w m t (0 + height_of F e) t (height_of F e) held able (omega arith) (omega arith)

  and_does : (e : Expression) (line of : ℕ) → E g s deeper bound e → Operated operator.And e line of
  and_does e line of claim F pc right end behind t held w m v less at stands ends operands fits known able within left = go (not (is_true v)) refl
    where
      typed : IsOf ts v bool_type
      typed = subst (λ x. IsOf ts v x) operands.0 left.typed

      go : (b : Bool) → not (is_true v) ≡ b →
          Does g s F pc (t + size ts of) t held w m (Pushed g s of behind t)
          (if b then gives v w else (value_of e w >>= λ u w. whole.in_range line (apply operator.And v u) w))
      go true is = decided e line of claim F pc right end behind t held w m v less stands fits known within left operator.And (op.and behind)
          (λ x. nat_eq x 0) (i.and_is behind) at ends
          operands.0 operands.1 refl (fewer F w m t e held able) (and_test v typed ∙ is)
      go false is = undecided e line of claim F pc right end behind t held w m v less stands fits known within left operator.And (op.and behind)
          (λ x. nat_eq x 0) (i.and_is behind) at ends
          operands.0 operands.1 refl (fewer F w m t e held able) (and_test v typed ∙ is) (λ u also. and_last v u is also)

  or_does : (e : Expression) (line of : ℕ) → E g s deeper bound e → Operated operator.Or e line of
  or_does e line of claim F pc right end behind t held w m v less at stands ends operands fits known able within left = go (is_true v) refl
    where
      typed : IsOf ts v bool_type
      typed = subst (λ x. IsOf ts v x) operands.0 left.typed

      go : (b : Bool) → is_true v ≡ b →
          Does g s F pc (t + size ts of) t held w m (Pushed g s of behind t)
          (if b then gives v w else (value_of e w >>= λ u w. whole.in_range line (apply operator.Or v u) w))
      go true is = decided e line of claim F pc right end behind t held w m v less stands fits known within left operator.Or (op.or behind)
          (λ x. not (nat_eq x 0)) (i.or_is behind) at ends
          operands.0 operands.1 refl (fewer F w m t e held able) (or_test v typed ∙ is)
      go false is = undecided e line of claim F pc right end behind t held w m v less stands fits known within left operator.Or (op.or behind)
          (λ x. not (nat_eq x 0)) (i.or_is behind) at ends
          operands.0 operands.1 refl (fewer F w m t e held able) (or_test v typed ∙ is) (λ u also. or_last v u is also)

  simple : (o : Operator) (e : Expression) (line of : ℕ) → E g s deeper bound e → IsPlain o → ((v : Value) → decides o v ≡ false) →
      ((behind : ℕ) → decision o behind ≡ []) → left_words ts o of ≡ size ts of → Operated o e line of
  simple o e line of claim is_plain never none words F pc right end behind t held w m v less at stands ends operands fits known able within left =
      subst (λ b. Does g s F pc (t + size ts of) t held w m (Pushed g s (operator_type o of) behind t)
      (if b then gives v w else (value_of e w >>= λ u w. whole.in_range line (apply o v u) w))) (sym (never v))
      (plain e line of claim F pc right end behind t held w m v less stands fits known within left o is_plain (λ u. never v) operands
      (subst (λ c. code.AreInstructions g.fetched c pc right) (none behind) at) ends (subst (λ n. Able g s F w m t (n + height_of F e) held) words able))

  operated_does : (o : Operator) (e : Expression) (line of : ℕ) → E g s deeper bound e → Operated o e line of
  operated_does operator.And e line of claim = and_does e line of claim
  operated_does operator.Or e line of claim = or_does e line of claim
  operated_does o e line of claim = simple o e line of claim tt (λ v. refl) (λ b. refl) refl

  -- ---- chains

  pub no_link_does : Ls g s deeper bound tree.no_link
  no_link_does of v F pc to t held w m less stands fits known able within left =
      give g s F pc (t + size ts of) t held w m (Pushed g s of to t) v able.stands (omega arith) within
      (record { pc_is = stands; top_is = refl; words = left.words; typed = left.typed })

  pub link_does : (o : Operator) (e : Expression) (line : ℕ) (ls : Links) → E g s deeper bound e → Ls g s deeper bound ls →
      Ls g s deeper bound (tree.link_then (tree.link o e line) ls)
  link_does o e line ls claim rest of v F pc to t held w m less stands fits known able within left =
      bind_value g s Value (Pushed g s (links_type (operator_type o of) ls) to t) (whole.operated g.unit s.name (s.size s.name) deeper v (tree.link o e line) w)
      (λ u w. linked g.unit s.name (s.size s.name) deeper u ls w) F pc stands.2 (t + size ts of) t t held (operator_type o of) w m (omega arith)
      (operated_does o e line of claim F pc stands.0 stands.1 stands.2 t held w m v less stands.3 stands.4 stands.5 fits.0 fits.1 known
      (i.able_above F w m t (max (left_words ts o of + height_of F e) (links_height ts g.unit.blocks (here g s F) (operator_type o of) ls)) t
      (left_words ts o of + height_of F e) held able
      (omega arith) (omega arith)) within left)
      (λ u z m' c high after post.
      rest (operator_type o of) u F stands.2 to t held z m' (omega (arith, less, after.turns)) stands.6 fits.2
      (operator_known ts g.fits.table g.parts o of known)
      (i.able_then F w z m m' t (max (left_words ts o of + height_of F e) (links_height ts g.unit.blocks (here g s F) (operator_type o of) ls)) t
      (links_height ts g.unit.blocks (here g s F) (operator_type o of) ls) t held c able after (omega arith) (omega arith)) high
      (record { pc_is = refl; top_is = refl; words = post.words; typed = post.typed }))

  pub chain_does : (e : Expression) (ls : Links) → E g s deeper bound e → Ls g s deeper bound ls → E g s deeper bound (tree.chain e ls)
  chain_does e ls claim rest F pc to t held w m less stands fits able =
      bind_value g s Value (Pushed g s (links_type (kind_of F e) ls) to t) (value_of e w)
      (λ u w. linked g.unit s.name (s.size s.name) deeper u ls w) F pc stands.0 t t t held (kind_of F e) w m
      (omega arith)
      (claim F pc stands.0 t held w m less stands.1 fits.1
      (i.able_above F w m t (max (height_of F e) (links_height ts g.unit.blocks (here g s F) (kind_of F e) ls)) t (height_of F e) held able (omega arith)
      (omega arith)))
      (λ u z m' c high after post.
      rest (kind_of F e) u F stands.0 to t held z m' (omega (arith, less, after.turns)) stands.2 fits.2 (known_type g s deeper bound F w m e able.stands fits.1)
      (i.able_then F w z m m' t (max (height_of F e) (links_height ts g.unit.blocks (here g s F) (kind_of F e) ls)) t
      (links_height ts g.unit.blocks (here g s F) (kind_of F e) ls) t held c able
      after (omega arith) (omega arith)) high (record { pc_is = refl; top_is = refl; words = post.words; typed = post.typed }))
