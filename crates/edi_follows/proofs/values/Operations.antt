-- The instruction for an operator, and what it pushes: what the operator makes of the words of both operands.
use Rattle.std.proofs.Common.{◌≡◌, ℕ, ◌+◌, ◌<◌, ◌≤◌, Bool, true, false, ◌||◌, not, if◌then◌else◌, List, [], ◌∷◌, length, Option, Some, refl, sym, subst, ap}
use Rattle.std.proofs.Common.{◌∙◌, arith}
use Rattle.std.proofs.lemmas.Bool.{false≢true}
use Rattle.std.specs.Prelude.{ℤ, IsTrue, ◌==◌, int_lt, int_le}
use Rattle.std.specs.Str.{bytes_eq}
use Rattle.std.proofs.lemmas.Bool.Decides.{Decides-eqb}
use Rattle.edi_store.specs.Memory.{words_at}
use Rattle.edi_word.specs.Words.{signed, word_add, word_sub, word_mul, word_div, word_modulo}
use Rattle.edi_word.specs.Sets.{words_union, words_minus, words_meet}
use Rattle.edi_unit.specs.declared.expressions.Operator.{Operator}
use Rattle.edi_unit.specs.declared.expressions.Operator.TheVariants as operator
use Rattle.edi_unit.specs.Types.{set_of, shape_at, int_type, bool_type, is_elementary, is_set_shape, size}
use Rattle.edi_unit.specs.Values.{Value, IsOf}
use Rattle.edi_unit.specs.Need.{operator_type}
use Rattle.edi_unit.specs.Fits.{OperatorFits}
use Rattle.edi_meaning.specs.Store.{Shape}
use Rattle.edi_target.specs.Op as op
use Rattle.edi_target.specs.Memory.{word}
use Rattle.edi_target.specs.Perform.{arithmetic, comparison, equality, on_sets}
use Rattle.edi_scheme.specs.Pieces.{operation}
use Rattle.edi_scheme.specs.Stands as code
use Rattle.edi_scheme.proofs.Known.{size_positive}
use Rattle.edi_follows.specs.values.Words.{value_words}
use Rattle.edi_follows.specs.values.Operated.{operated, word_of, first_word, one_word, truth_word}
use Rattle.edi_follows.proofs.values.Alone.{standard_known, int_elementary, bool_elementary, set_is_members}
use Rattle.edi_follows.proofs.values.Operators.{base_elementary}
use Rattle.edi_follows.proofs.values.Checks.{one_word_each}
use Rattle.edi_follows.specs.places.Coded.{Coded}
use Rattle.edi_follows.specs.places.Scene.{Scene, base_of, local_at}
use Rattle.edi_follows.specs.places.Instructions.{Instructed, effect}
use Rattle.edi_follows.proofs.places.Instructed.{instructed}
use Rattle.edi_follows.proofs.values.Unary.{table_of, pushes_or_fails, range_pushes, Lone, lone}

-- no operator gives more words than its left operand has
pub result_fits : (g : Coded) (o : Operator) (s : ℕ) → s < length g.unit.types → size g.unit.types (operator_type o s) ≤ size g.unit.types s
result_fits g o s known = go o
  where
    truth_fits : size g.unit.types bool_type ≤ size g.unit.types s
    truth_fits =
        let one : size g.unit.types bool_type ≡ 1 =
        one_word_each g.unit.types (table_of g) bool_type (standard_known g.unit.types (table_of g) 2 (omega arith))
        (bool_elementary g.unit.types (table_of g)) in
        omega (arith, one, size_positive g.unit.types g.fits.table g.parts s known)

    go : (o : Operator) → size g.unit.types (operator_type o s) ≤ size g.unit.types s
    go operator.Plus = omega arith
    go operator.Minus = omega arith
    go operator.Or = omega arith
    go operator.Times = omega arith
    go operator.Div = omega arith
    go operator.Mod = omega arith
    go operator.And = omega arith
    go o = truth_fits

-- each operator but `and` and `or`
abbrev pub IsPlain : Operator → Type 0
IsPlain operator.And = ⊥
IsPlain operator.Or = ⊥
IsPlain _ = Unit {0}

module _ (g : Coded) (s : Scene) (F : Shape) (m : List ℕ) (t held line pc next a b : ℕ) (v u : Value) (low : base_of g s F ≤ t)
    (known : a < length g.unit.types)
    (known' : b < length g.unit.types) (typed : IsOf g.unit.types v a) (typed' : IsOf g.unit.types u b)
    (left : words_at m t (size g.unit.types a) ≡ value_words v) (right : words_at m (t + size g.unit.types a) (size g.unit.types b) ≡ value_words u) where
  i : Instructed g s
  i = instructed g s

  abbrev top : ℕ
  top = t + size g.unit.types a + size g.unit.types b

  -- the instruction stands there, and pushes these words or fails
  pub record Operates (zs : Option (List ℕ)) : Type 0 where
    pub instruction : op.Instruction
    pub at : g.fetched pc ≡ Some (instruction, next)
    pub is : effect g s instruction next (local_at s F m pc top held) ≡ pushes_or_fails line next zs (local_at s F m pc t held)

  -- two elementary operands
  record Pair : Type 0 where
    one : word m t ≡ word_of v
    other : word m (t + 1) ≡ word_of u
    above : top ≡ t + 2
    words : value_words v ≡ word_of v ∷ []
    words' : value_words u ≡ word_of u ∷ []

  pair : IsTrue (is_elementary g.unit.types a) → IsTrue (is_elementary g.unit.types b) → Pair
  pair e k =
      let x : Lone g v m t a = lone g s v m t a known e typed left in
      let y : Lone g u m (t + size g.unit.types a) b = lone g s u m (t + size g.unit.types a) b known' k typed' right in
      record {
        one = x.word_is;
        other = ap (λ n. word m (t + n)) (sym x.size_is) ∙ y.word_is;
        above = omega (arith, x.size_is, y.size_is);
        words = x.words;
        words' = y.words;
      }

  compares : (f : ℤ → ℤ → Bool) (j : op.Instruction) → g.fetched pc ≡ Some (j, next) →
      effect g s j next (local_at s F m pc top held) ≡ comparison f next (local_at s F m pc top held) → (a ≡ b) × IsTrue (is_elementary g.unit.types a) →
      Operates (truth_word (f (signed (first_word (value_words v))) (signed (first_word (value_words u)))))
  compares f j at is fits =
      let p : Pair = pair fits.1 (subst (λ k. IsTrue (is_elementary g.unit.types k)) fits.0 fits.1) in
      record {
        instruction = j;
        at = at;
        is =
            is ∙ i.comparison_is F m f next (word_of v) (word_of u) pc t top held low p.above p.one p.other
            ∙ sym (ap (λ ws. pushes_or_fails line next (truth_word (f (signed (first_word ws)) (signed (first_word (value_words u)))))
            (local_at s F m pc t held)) p.words
            ∙ ap (λ ws. pushes_or_fails line next (truth_word (f (signed (word_of v)) (signed (first_word ws)))) (local_at s F m pc t held)) p.words');
      }

  counts : (f : ℕ → ℕ → Option ℕ) (j : op.Instruction) → g.fetched pc ≡ Some (j, next) →
      effect g s j next (local_at s F m pc top held) ≡ arithmetic f line next (local_at s F m pc top held) → (a ≡ int_type) × (b ≡ int_type) →
      Operates (one_word (f (first_word (value_words v)) (first_word (value_words u))))
  counts f j at is fits =
      let of_int : IsTrue (is_elementary g.unit.types int_type) = int_elementary g.unit.types (table_of g) in
      let p : Pair = pair (subst (λ k. IsTrue (is_elementary g.unit.types k)) (sym fits.0) of_int)
      (subst (λ k. IsTrue (is_elementary g.unit.types k)) (sym fits.1) of_int) in
      record {
        instruction = j;
        at = at;
        is =
            is ∙ i.arithmetic_is F m f line next (word_of v) (word_of u) pc t top held low p.above p.one p.other
            ∙ range_pushes line next (f (word_of v) (word_of u)) (local_at s F m pc t held)
            ∙ sym (ap (λ ws. pushes_or_fails line next (one_word (f (first_word ws) (first_word (value_words u)))) (local_at s F m pc t held)) p.words
            ∙ ap (λ ws. pushes_or_fails line next (one_word (f (word_of v) (first_word ws))) (local_at s F m pc t held)) p.words');
      }

  equates : (f : List ℕ → List ℕ → Bool) (j : op.Instruction) → g.fetched pc ≡ Some (j, next) → a ≡ b →
      ((l : _) → effect g s j next l ≡ equality f (size g.unit.types a) next l) → Operates (truth_word (f (value_words v) (value_words u)))
  equates f j at e is =
      let same : size g.unit.types b ≡ size g.unit.types a = ap (size g.unit.types) (sym e) in
      record {
        instruction = j;
        at = at;
        is =
            is (local_at s F m pc top held)
            ∙ i.equality_is F m (value_words v) (value_words u) f (size g.unit.types a) next pc t top held low (omega (arith, same)) left
            (ap (words_at m (t + size g.unit.types a)) (sym same) ∙ right);
      }

  -- two sets
  joins_sets : (f : List ℕ → List ℕ → List ℕ) (j : op.Instruction) → g.fetched pc ≡ Some (j, next) →
      ((l : _) → effect g s j next l ≡ on_sets f next l) → a ≡ b → IsTrue (is_set_shape (shape_at g.unit.types a)) →
      Operates (Some (f (value_words v) (value_words u)))
  joins_sets f j at is e set =
      let x : size g.unit.types a ≡ 8 = (set_is_members g.unit.types (table_of g) v a known set typed).4 in
      let y : size g.unit.types b ≡ 8 = ap (size g.unit.types) (sym e) ∙ x in
      record {
        instruction = j;
        at = at;
        is =
            is (local_at s F m pc top held)
            ∙ i.on_sets_is F m (value_words v) (value_words u) f next pc t top held low (omega (arith, x, y)) (ap (words_at m t) (sym x) ∙ left)
            (ap (λ n. words_at m (t + n) 8) (sym x) ∙ ap (words_at m (t + size g.unit.types a)) (sym y) ∙ right);
      }

  -- two sets, or two integers
  either : (f : List ℕ → List ℕ → List ℕ) (k : ℕ → ℕ → Option ℕ) (j l : op.Instruction) → (a ≡ b)
      × IsTrue ((a == int_type) || is_set_shape (shape_at g.unit.types a)) →
      ((x : _) → effect g s j next x ≡ on_sets f next x) → ((x : _) → effect g s l next x ≡ arithmetic k line next x) →
      code.AreInstructions g.fetched (if is_set_shape (shape_at g.unit.types a) then j ∷ [] else l ∷ []) pc next →
      Operates (if is_set_shape (shape_at g.unit.types a) then Some (f (value_words v) (value_words u)) else one_word
      (k (first_word (value_words v)) (first_word (value_words u))))
  either f k j l fits sets ints stands = go (is_set_shape (shape_at g.unit.types a)) refl stands
    where
      is_int : (c : Bool) → (a == int_type) ≡ c → IsTrue (c || false) → a ≡ int_type
      is_int true e h = (Decides-eqb a int_type).0 e
      is_int false e h = absurd (false≢true h)

      go : (set : Bool) → is_set_shape (shape_at g.unit.types a) ≡ set → code.AreInstructions g.fetched (if set then j ∷ [] else l ∷ []) pc next →
          Operates (if set then Some (f (value_words v) (value_words u)) else one_word (k (first_word (value_words v)) (first_word (value_words u))))
      go true e at = joins_sets f j at sets fits.0 e
      go false e at =
          let one : a ≡ int_type = is_int (a == int_type) refl (subst (λ c. IsTrue ((a == int_type) || c)) e fits.1) in
          counts k l at (ints (local_at s F m pc top held)) (one, sym fits.0 ∙ one)

  contains : code.InstructionStands g.fetched pc op.in_ next → shape_at g.unit.types b ≡ set_of a →
      Operates (operated g.unit.types a operator.In (value_words v) (value_words u))
  contains at e =
      let x : Lone g v m t a = lone g s v m t a known (base_elementary g.unit.types (table_of g) a b known' e) typed left in
      let y : size g.unit.types b ≡ 8 = (set_is_members g.unit.types (table_of g) u b known' (ap is_set_shape e) typed').4 in
      record {
        instruction = op.in_;
        at = at;
        is =
            i.in_is F m (value_words u) next (word_of v) pc t top held low (omega (arith, x.size_is, y)) x.word_is
            (ap (λ n. words_at m (t + n) 8) (sym x.size_is) ∙ ap (words_at m (t + size g.unit.types a)) (sym y) ∙ right)
            ∙ ap (λ ws. pushes_or_fails line next (operated g.unit.types a operator.In ws (value_words u)) (local_at s F m pc t held)) (sym x.words);
      }

  pub operates : (o : Operator) → IsPlain o → OperatorFits g.unit.types o a b → code.AreInstructions g.fetched (operation g.unit.types a o line) pc next →
      Operates (operated g.unit.types a o (value_words v) (value_words u))
  operates operator.Equal p fits at = equates bytes_eq (op.eq (size g.unit.types a)) at fits (λ l. refl)
  operates operator.NotEqual p fits at = equates (λ xs ys. not (bytes_eq xs ys)) (op.ne (size g.unit.types a)) at fits (λ l. refl)
  operates operator.Less p fits at = compares int_lt op.lt at refl fits
  operates operator.LessOrEqual p fits at = compares int_le op.le at refl fits
  operates operator.Greater p fits at = compares (λ x y. int_lt y x) op.gt at refl fits
  operates operator.GreaterOrEqual p fits at = compares (λ x y. int_le y x) op.ge at refl fits
  operates operator.In p fits at = contains at fits
  operates operator.Plus p fits at = either words_union word_add op.union (op.add line) fits (λ x. refl) (λ x. refl) at
  operates operator.Minus p fits at = either words_minus word_sub op.minus (op.sub line) fits (λ x. refl) (λ x. refl) at
  operates operator.Times p fits at = either words_meet word_mul op.meet (op.mul line) fits (λ x. refl) (λ x. refl) at
  operates operator.Div p fits at = counts word_div (op.div line) at refl fits
  operates operator.Mod p fits at = counts word_modulo (op.mod_ line) at refl fits
  operates operator.And p fits at = absurd p
  operates operator.Or p fits at = absurd p
