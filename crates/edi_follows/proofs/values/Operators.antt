-- Each operator on words is that on values.
use Rattle.std.proofs.Common.{◌≡◌, ℕ, ◌<◌, ◌^◌, ℤ, pos, Bool, true, false, not, ◌&&◌, ◌||◌, List, [], ◌∷◌, length, take, IsTrue, refl, sym, ap, ap₂, subst}
use Rattle.std.proofs.Common.{◌∙◌, arith, get_or-take}
use Rattle.std.specs.Prelude.{All, ◌==◌, bytes_eq, nat_lt, int_lt, int_le, if◌then◌else◌, Option, Some, None, IfSome}
use Rattle.std.specs.Option.{option_map}
use Rattle.std.proofs.lemmas.Bool.{false≢true}
use Rattle.std.proofs.lemmas.Bool.Decides.{Decides-eqb}
use Rattle.edi_word.specs.Integers.{is_int, int_sum, int_difference, int_product, int_quotient, int_remainder}
use Rattle.edi_word.specs.Words.{signed, unsigned, word_add, word_sub, word_mul, word_div, word_modulo, WordsFollow}
use Rattle.edi_word.specs.Sets.{set_has, set_union, set_minus, set_meet, words_union, words_minus, words_meet}
use Rattle.edi_word.specs.SetWords.{IsOrdinalSet, ViewsAgree, words_of_members}
use Rattle.edi_word.specs.Sets.{word_has}
use Rattle.edi_word.specs.SetViews.{AreSetWords-words_where, words_of_members-members_of}
use Rattle.edi_word.proofs.IntLaws.{word_add_follows, word_sub_follows, word_mul_follows, word_div_follows, word_modulo_follows}
use Rattle.edi_word.proofs.SetLaws.{members_of-words_of_members, IsOrdinalSet-members_where, union_agrees, minus_agrees, meet_agrees, has_agrees}
use Rattle.edi_unit.specs.declared.expressions.Operator.{Operator}
use Rattle.edi_unit.specs.declared.expressions.Operator.TheVariants as op
use Rattle.edi_unit.specs.Types.{Shape, int, set_of, shape_at, int_type, bool_type, is_elementary, is_elementary_shape, is_ordinal_of, is_set_shape}
use Rattle.edi_unit.specs.TypeTables.{named_types, ordinal_types}
use Rattle.edi_unit.specs.Values.{Value, ordinal, members, IsOf, ordinal_of, is_true, truth, is_member, same_value, on_ints, on_ints_or_sets, apply, decides}
use Rattle.edi_unit.specs.Need.{operator_type}
use Rattle.edi_unit.specs.Fits.{OperatorFits}
use Rattle.edi_unit.proofs.Tables.{length-before}
use Rattle.edi_target.specs.Effect as effect
use Rattle.edi_follows.specs.values.Words.{value_words, IsTable}
use Rattle.edi_follows.proofs.values.Small.{ordinal_int}
use Rattle.edi_follows.proofs.values.Alike.{words_tell_values}
use Rattle.edi_follows.specs.values.Operated.{word_of, IsAlone, first_word, one_word, truth_word, on_either, operated, Follows, OperatorsFollow, DecidedIsResult}
use Rattle.edi_follows.specs.values.Operated.{SignFollows, NegationFollows}
use Rattle.edi_follows.proofs.values.Alone.{shape_int, standard_known, int_elementary, elementary_is_alone, elementary_ordinal, elementary_small, set_is_members}
use Rattle.edi_follows.proofs.values.Alone.{truth_words, truth_is_word, truth_is_tested}
use Rattle.edi_follows.proofs.values.Ints.{GivesInts, sum_gives, difference_gives, product_gives, quotient_gives, remainder_gives}

-- ---- results that are truth values

module _ (types : List Shape) (h : IsTable types) where
  truthful : (s : ℕ) (o : Operator) (v w : Value) (b : Bool) → operated types s o (value_words v) (value_words w) ≡ truth_word b →
      apply o v w ≡ Some (truth b) → operator_type o s ≡ bool_type → Follows types s o v w
  truthful s o v w b does gives of = record {
    words = does ∙ ap Some (sym (truth_words b)) ∙ ap (option_map value_words) (sym gives);
    typed =
        subst (λ r. IfSome r (λ x. IsOf types x (operator_type o s))) (sym gives) (subst (λ t. IsOf types (truth b) t) (sym of) (truth_is_word types h b).2);
    known = subst (λ t. t < length types) (sym of) (standard_known types h 2 (omega arith));
  }

  -- two elementary values are compared by their words
  compared : (f : ℤ → ℤ → Bool) (v w : Value) (s t : ℕ) → IsAlone types v s → IsAlone types w t →
      truth_word (f (signed (first_word (value_words v))) (signed (first_word (value_words w)))) ≡ truth_word (f (ordinal_of v) (ordinal_of w))
  compared f v w s t a b =
      ap₂ (λ x y. truth_word (f (signed (first_word x)) (signed (first_word y)))) a.words b.words
      ∙ ap₂ (λ m n. truth_word (f m n)) a.integer b.integer

  alone : (v : Value) (t : ℕ) → t < length types → IsTrue (is_elementary types t) → IsOf types v t → IsAlone types v t
  alone v t known elementary is = elementary_is_alone types h v t known elementary is

-- ---- results that are integers

as_words : (o : Option ℤ) → one_word (option_map unsigned o) ≡ option_map value_words (option_map ordinal o)
as_words None = refl
as_words (Some z) = refl

int_test : (s : Shape) → s ≡ int → (z : ℤ) → IsTrue (is_int z) → IsTrue (is_ordinal_of s z)
int_test s e z is = subst (λ s. IsTrue (is_ordinal_of s z)) (sym e) is

as_ints : (types : List Shape) (t : ℕ) → shape_at types t ≡ int → (o : Option ℤ) → IfSome o (λ z. IsTrue (is_int z)) →
    IfSome (option_map ordinal o) (λ x. IsOf types x t)
as_ints types t e None is = tt
as_ints types t e (Some z) is = int_test (shape_at types t) e z is

module _ (types : List Shape) (h : IsTable types) where
  int_of : (v : Value) → IsOf types v int_type → IsTrue (is_int (ordinal_of v))
  int_of v is =
      ordinal_int types h int_type (ordinal_of v) (standard_known types h 0 (omega arith)) (elementary_ordinal types v int_type (int_elementary types h) is)

  -- an operation on the words of two integers
  counted : (f : ℤ → ℤ → Option ℤ) (g : ℕ → ℕ → Option ℕ) → WordsFollow f g → (v w : Value) → IsOf types v int_type → IsOf types w int_type →
      one_word (g (first_word (value_words v)) (first_word (value_words w))) ≡ option_map value_words (on_ints f v w)
  counted f g follows v w is also =
      let a = elementary_is_alone types h v int_type (standard_known types h 0 (omega arith)) (int_elementary types h) is in
      let b = elementary_is_alone types h w int_type (standard_known types h 0 (omega arith)) (int_elementary types h) also in
      ap₂ (λ x y. one_word (g (first_word x) (first_word y))) a.words b.words
      ∙ ap one_word (follows (ordinal_of v) (ordinal_of w) (int_of v is) (int_of w also)).0
      ∙ as_words (f (ordinal_of v) (ordinal_of w))

  counted_typed : (f : ℤ → ℤ → Option ℤ) → GivesInts f → (v w : Value) → IsOf types w int_type → IfSome (on_ints f v w) (λ x. IsOf types x int_type)
  counted_typed f gives v w also =
      as_ints types int_type (shape_int types h) (f (ordinal_of v) (ordinal_of w)) (gives (ordinal_of v) (ordinal_of w) (int_of w also))

-- on two values that are no sets
on_ordinals : (f : ℤ → ℤ → Option ℤ) (g : List ℕ → List ℕ → List ℕ) (v w : Value) → ordinal (ordinal_of v) ≡ v → on_ints_or_sets f g v w ≡ on_ints f v w
on_ordinals f g v w same = sym (ap (λ x. on_ints_or_sets f g x w) same) ∙ ap (λ x. on_ints f x w) same

-- ---- sets

sets_follow : (f g : List ℕ → List ℕ → List ℕ) → ViewsAgree f g → (s r : List ℕ) → IsOrdinalSet s → IsOrdinalSet r →
    f (words_of_members s) (words_of_members r) ≡ words_of_members (g s r)
sets_follow f g agree s r set other =
    let both = agree (words_of_members s) (words_of_members r) (AreSetWords-words_where (set_has s)) (AreSetWords-words_where (set_has r)) in
    sym (words_of_members-members_of (f (words_of_members s) (words_of_members r)) both.0)
    ∙ ap words_of_members (both.1 ∙ ap₂ g (members_of-words_of_members s set) (members_of-words_of_members r other))

-- ---- `+`, `-` and `*`

-- an operator on two integers or two sets, and on their words
record TwoWays (f : ℤ → ℤ → Option ℤ) (g : ℕ → ℕ → Option ℕ) (k l : List ℕ → List ℕ → List ℕ) : Type 0 where
  follows : WordsFollow f g
  ints : GivesInts f
  agree : ViewsAgree l k
  sets : (s r : List ℕ) → IsOrdinalSet (k s r)

sums : TwoWays int_sum word_add set_union words_union
sums = record { follows = word_add_follows; ints = sum_gives; agree = union_agrees; sets = λ s r. IsOrdinalSet-members_where _ }

differences : TwoWays int_difference word_sub set_minus words_minus
differences = record { follows = word_sub_follows; ints = difference_gives; agree = minus_agrees; sets = λ s r. IsOrdinalSet-members_where _ }

products : TwoWays int_product word_mul set_meet words_meet
products = record { follows = word_mul_follows; ints = product_gives; agree = meet_agrees; sets = λ s r. IsOrdinalSet-members_where _ }

module _
    (types : List Shape) (h : IsTable types) (f : ℤ → ℤ → Option ℤ) (g : ℕ → ℕ → Option ℕ) (k l : List ℕ → List ℕ → List ℕ)
    (both : TwoWays f g k l) where
  -- on two integers or two sets of one type
  record Either (s : ℕ) (v w : Value) : Type 0 where
    words : on_either types s l g (value_words v) (value_words w) ≡ option_map value_words (on_ints_or_sets f k v w)
    typed : IfSome (on_ints_or_sets f k v w) (λ x. IsOf types x s)

  either_int : (v w : Value) → IsOf types v int_type → IsOf types w int_type → Either int_type v w
  either_int v w is also =
      let a = elementary_is_alone types h v int_type (standard_known types h 0 (omega arith)) (int_elementary types h) is in
      let same : on_ints_or_sets f k v w ≡ on_ints f v w = on_ordinals f k v w a.same in
      let xs : List ℕ = value_words v in
      let ys : List ℕ = value_words w in
      record {
        words =
            ap (λ s. if is_set_shape s then Some (l xs ys) else one_word (g (first_word xs) (first_word ys))) (shape_int types h)
            ∙ counted types h f g both.follows v w is also
            ∙ ap (option_map value_words) (sym same);
        typed = subst (λ o. IfSome o (λ x. IsOf types x int_type)) (sym same) (counted_typed types h f both.ints v w also);
      }

  both_sets : (s : ℕ) (v w : Value) (xs ys : List ℕ) → v ≡ members xs → w ≡ members ys → is_set_shape (shape_at types s) ≡ true →
      IsOrdinalSet xs → IsOrdinalSet ys → Either s v w
  both_sets s v w xs ys e d set one other =
      let gives : on_ints_or_sets f k v w ≡ Some (members (k xs ys)) = ap₂ (on_ints_or_sets f k) e d in
      let us : List ℕ = value_words v in
      let vs : List ℕ = value_words w in
      record {
        words =
            ap (λ b. if b then Some (l us vs) else one_word (g (first_word us) (first_word vs))) set
            ∙ ap₂ (λ x y. Some (l (value_words x) (value_words y))) e d
            ∙ ap Some (sets_follow l k both.agree xs ys one other)
            ∙ ap (option_map value_words) (sym gives);
        typed = subst (λ o. IfSome o (λ x. IsOf types x s)) (sym gives) (set, both.sets xs ys);
      }

  either_set : (s : ℕ) (v w : Value) → s < length types → is_set_shape (shape_at types s) ≡ true → IsOf types v s → IsOf types w s → Either s v w
  either_set s v w known set is also =
      let a = set_is_members types h v s known set is in
      let b = set_is_members types h w s known set also in
      both_sets s v w a.0 b.0 a.1 b.1 set a.2 b.2

  either : (s : ℕ) (v w : Value) → s < length types → IsTrue ((s == int_type) || is_set_shape (shape_at types s)) → IsOf types v s → IsOf types w s →
      Either s v w
  either s v w known one is also = go (s == int_type) refl one
    where
      go : (b : Bool) → (s == int_type) ≡ b → IsTrue (b || is_set_shape (shape_at types s)) → Either s v w
      go true e one =
          let at : int_type ≡ s = sym ((Decides-eqb s int_type).0 e) in
          subst (λ u. Either u v w) at (either_int v w (subst (λ u. IsOf types v u) (sym at) is) (subst (λ u. IsOf types w u) (sym at) also))
      go false e one = either_set s v w known one is also

-- ---- `in`

-- what is the index of an array or the base of a set is elementary: a shape that names this type first, as one of ordinals
pub ordinal_elementary : (types : List Shape) → IsTable types → (s t : ℕ) (x : Shape) (more : List ℕ) → t < length types → shape_at types t ≡ x →
    named_types x ≡ s ∷ more → ordinal_types x ≡ s ∷ [] → IsTrue (is_elementary types s)
ordinal_elementary types h s t x more known is named one =
    let declared = h.table.declared t known in
    let below : s < length (take t types) = subst (All (λ u. u < length (take t types))) (ap named_types is ∙ named) declared.known 0 0 (omega arith) in
    let so = subst (All (λ u. IsTrue (is_elementary (take t types) u))) (ap ordinal_types is ∙ one) declared.elementary 0 0 (omega arith) in
    let long = length-before types t known in
    sym (ap is_elementary_shape (get_or-take t types s int (omega (arith, below, long)))) ∙ so

-- the base of a set is elementary
pub base_elementary : (types : List Shape) → IsTable types → (s t : ℕ) → t < length types → shape_at types t ≡ set_of s → IsTrue (is_elementary types s)
base_elementary types h s t known set = ordinal_elementary types h s t (set_of s) [] known set refl refl

member_test : (types : List Shape) → IsTable types → (v w : Value) (set : List ℕ) (s : ℕ) → IsAlone types v s → word_of v < 2 ^ 16 → w ≡ members set →
    IsOrdinalSet set →
    (nat_lt (first_word (value_words v)) 128 && word_has (value_words w) (first_word (value_words v))) ≡ is_member v w
member_test types h v w set s a small e ordinals =
    ap₂ (λ x y. nat_lt (first_word x) 128 && word_has (value_words y) (first_word x)) a.words e
    ∙ has_agrees (words_of_members set) (word_of v) (AreSetWords-words_where (set_has set)) small
    ∙ ap₂ (λ xs z. is_member (ordinal z) (members xs)) (members_of-words_of_members set ordinals) a.integer
    ∙ ap₂ is_member a.same (sym e)

-- ---- all operators

true_of_not : (b : Bool) → not b ≡ false → b ≡ true
true_of_not true h = refl
true_of_not false h = sym h

false_of_not : (b : Bool) → not b ≡ true → b ≡ false
false_of_not true h = sym h
false_of_not false h = refl

module _ (types : List Shape) (h : IsTable types) where
  ordered : (f : ℤ → ℤ → Bool) (s t : ℕ) (v w : Value) → s < length types → (s ≡ t) × IsTrue (is_elementary types s) →
      IsOf types v s → IsOf types w t →
      truth_word (f (signed (first_word (value_words v))) (signed (first_word (value_words w)))) ≡ truth_word (f (ordinal_of v) (ordinal_of w))
  ordered f s t v w known fits is also =
      let right = subst (λ u. IsOf types w u) (sym fits.0) also in
      compared types h f v w s s (elementary_is_alone types h v s known fits.1 is) (elementary_is_alone types h w s known fits.1 right)

  contained : (s t : ℕ) (v w : Value) → s < length types → t < length types → shape_at types t ≡ set_of s → IsOf types v s → IsOf types w t →
      Follows types s op.In v w
  contained s t v w known also fits is set =
      let elementary = base_elementary types h s t also fits in
      let m = set_is_members types h w t also (ap is_set_shape fits) set in
      let alone = elementary_is_alone types h v s known elementary is in
      let small = elementary_small types h v s known elementary is in
      truthful types h s op.In v w (is_member v w) (ap truth_word (member_test types h v w m.0 s alone small m.1 m.2)) refl refl

  -- behind a left operand that does not decide
  last : (s : ℕ) (o : Operator) (v w : Value) → (apply o v w ≡ Some w) → operated types s o (value_words v) (value_words w) ≡ Some (value_words w) →
      operator_type o s ≡ bool_type → IsOf types w bool_type → Follows types s o v w
  last s o v w gives does of is = record {
    words = does ∙ ap (option_map value_words) (sym gives);
    typed = subst (λ r. IfSome r (λ x. IsOf types x (operator_type o s))) (sym gives) (subst (λ t. IsOf types w t) (sym of) is);
    known = subst (λ t. t < length types) (sym of) (standard_known types h 2 (omega arith));
  }

  and_last : (v w : Value) → is_true v ≡ true → IsOf types w bool_type → apply op.And v w ≡ Some w
  and_last v w so is = ap (λ b. Some (truth (b && is_true w))) so ∙ ap Some (sym (truth_is_tested types h w is).1)

  or_last : (v w : Value) → is_true v ≡ false → IsOf types w bool_type → apply op.Or v w ≡ Some w
  or_last v w never is = ap (λ b. Some (truth (b || is_true w))) never ∙ ap Some (sym (truth_is_tested types h w is).1)

  -- a result of the type of the left operand
  of_left : (s : ℕ) (o : Operator) (r : Option Value) → operator_type o s ≡ s → IfSome r (λ x. IsOf types x s) →
      IfSome r (λ x. IsOf types x (operator_type o s))
  of_left s o r of is = subst (λ u. IfSome r (λ x. IsOf types x u)) (sym of) is

  of_either : (s t : ℕ) (o : Operator) (f : ℤ → ℤ → Option ℤ) (g : ℕ → ℕ → Option ℕ) (k l : List ℕ → List ℕ → List ℕ) →
      TwoWays f g k l → (v w : Value) → s < length types → (s ≡ t) × IsTrue ((s == int_type) || is_set_shape (shape_at types s)) →
      IsOf types v s → IsOf types w t →
      operated types s o (value_words v) (value_words w) ≡ on_either types s l g (value_words v) (value_words w) →
      apply o v w ≡ on_ints_or_sets f k v w → operator_type o s ≡ s → Follows types s o v w
  of_either s t o f g k l both v w known fits is also does gives of =
      let e = either types h f g k l both s v w known fits.1 is (subst (λ u. IsOf types w u) (sym fits.0) also) in
      record {
        words = does ∙ e.words ∙ ap (option_map value_words) (sym gives);
        typed = of_left s o (apply o v w) of (subst (λ r. IfSome r (λ x. IsOf types x s)) (sym gives) e.typed);
        known = subst (λ u. u < length types) (sym of) known;
      }

  of_ints : (s t : ℕ) (o : Operator) (f : ℤ → ℤ → Option ℤ) (g : ℕ → ℕ → Option ℕ) → WordsFollow f g → GivesInts f → (v w : Value) →
      (s ≡ int_type) × (t ≡ int_type) → IsOf types v s → IsOf types w t →
      operated types s o (value_words v) (value_words w) ≡ one_word (g (first_word (value_words v)) (first_word (value_words w))) →
      apply o v w ≡ on_ints f v w → operator_type o s ≡ s → Follows types s o v w
  of_ints s t o f g follows ints v w fits is also does gives of =
      let left = subst (λ u. IsOf types v u) fits.0 is in
      let right = subst (λ u. IsOf types w u) fits.1 also in
      let typed = subst (λ u. IfSome (on_ints f v w) (λ x. IsOf types x u)) (sym fits.0) (counted_typed types h f ints v w right) in
      record {
        words = does ∙ counted types h f g follows v w left right ∙ ap (option_map value_words) (sym gives);
        typed = of_left s o (apply o v w) of (subst (λ r. IfSome r (λ x. IsOf types x s)) (sym gives) typed);
        known = subst (λ u. u < length types) (sym (of ∙ fits.0)) (standard_known types h 0 (omega arith));
      }

  -- `=` of two values of one type
  equal : (s t : ℕ) (v w : Value) → s < length types → s ≡ t → IsOf types v s → IsOf types w t → bytes_eq (value_words v) (value_words w) ≡ same_value v w
  equal s t v w known fits is also = words_tell_values types h v w s known is (subst (λ u. IsOf types w u) (sym fits) also)

  follows : (s t : ℕ) (o : Operator) (v w : Value) → s < length types → t < length types → OperatorFits types o s t → IsOf types v s → IsOf types w t →
      decides o v ≡ false → Follows types s o v w
  follows s t op.Equal v w known also fits is too undecided =
      truthful types h s op.Equal v w (same_value v w) (ap truth_word (equal s t v w known fits is too)) refl refl
  follows s t op.NotEqual v w known also fits is too undecided =
      truthful types h s op.NotEqual v w (not (same_value v w)) (ap (λ b. truth_word (not b)) (equal s t v w known fits is too)) refl refl
  follows s t op.Less v w known also fits is too undecided =
      truthful types h s op.Less v w (int_lt (ordinal_of v) (ordinal_of w)) (ordered int_lt s t v w known fits is too) refl refl
  follows s t op.LessOrEqual v w known also fits is too undecided =
      truthful types h s op.LessOrEqual v w (int_le (ordinal_of v) (ordinal_of w)) (ordered int_le s t v w known fits is too) refl refl
  follows s t op.Greater v w known also fits is too undecided =
      truthful types h s op.Greater v w (int_lt (ordinal_of w) (ordinal_of v)) (ordered (λ x y. int_lt y x) s t v w known fits is too) refl refl
  follows s t op.GreaterOrEqual v w known also fits is too undecided =
      truthful types h s op.GreaterOrEqual v w (int_le (ordinal_of w) (ordinal_of v)) (ordered (λ x y. int_le y x) s t v w known fits is too) refl refl
  follows s t op.In v w known also fits is too undecided = contained s t v w known also fits is too
  follows s t op.Plus v w known also fits is too undecided =
      of_either s t op.Plus int_sum word_add set_union words_union sums v w known fits is too refl refl refl
  follows s t op.Minus v w known also fits is too undecided =
      of_either s t op.Minus int_difference word_sub set_minus words_minus differences v w known fits is too refl refl refl
  follows s t op.Times v w known also fits is too undecided =
      of_either s t op.Times int_product word_mul set_meet words_meet products v w known fits is too refl refl refl
  follows s t op.Div v w known also fits is too undecided =
      of_ints s t op.Div int_quotient word_div word_div_follows quotient_gives v w fits is too refl refl refl
  follows s t op.Mod v w known also fits is too undecided =
      of_ints s t op.Mod int_remainder word_modulo word_modulo_follows remainder_gives v w fits is too refl refl refl
  follows s t op.And v w known also fits is too undecided =
      let right = subst (λ u. IsOf types w u) fits.1 too in
      last s op.And v w (and_last v w (true_of_not (is_true v) undecided) right) refl fits.0 right
  follows s t op.Or v w known also fits is too undecided =
      let right = subst (λ u. IsOf types w u) fits.1 too in
      last s op.Or v w (or_last v w undecided right) refl fits.0 right

  itself : (v : Value) → IsOf types v bool_type → Some (truth (is_true v)) ≡ Some v
  itself v is = ap Some (sym (truth_is_tested types h v is).1)

  decided : (s t : ℕ) (o : Operator) (v w : Value) → OperatorFits types o s t → IsOf types v s → decides o v ≡ true →
      (s ≡ bool_type) × (operator_type o s ≡ bool_type) × (apply o v w ≡ Some v)
  decided s t op.And v w fits is done =
      let left = subst (λ u. IsOf types v u) fits.0 is in
      let never : is_true v ≡ false = false_of_not (is_true v) done in
      let gives : apply op.And v w ≡ Some v = ap (λ b. Some (truth (b && is_true w))) never ∙ ap (λ b. Some (truth b)) (sym never) ∙ itself v left in
      (fits.0, fits.0, gives)
  decided s t op.Or v w fits is done =
      let left = subst (λ u. IsOf types v u) fits.0 is in
      let gives : apply op.Or v w ≡ Some v = ap (λ b. Some (truth (b || is_true w))) done ∙ ap (λ b. Some (truth b)) (sym done) ∙ itself v left in
      (fits.0, fits.0, gives)
  decided s t _ v w fits is done = absurd (false≢true done)

pub operators_follow : OperatorsFollow
operators_follow types h s t o v w known also fits is too undecided = follows types h s t o v w known also fits is too undecided

pub decided_is_result : DecidedIsResult
decided_is_result types h s t o v w fits is done = decided types h s t o v w fits is done

-- ---- a leading `-`, and `not`

sign_typed : (types : List Shape) (o : Option ℤ) → IfSome (option_map ordinal o) (λ x. IsOf types x int_type) →
    IfSome (option_map ordinal o) (λ x. IsOf types x int_type × (value_words x ≡ word_of x ∷ []))
sign_typed types None is = tt
sign_typed types (Some z) is = (is, refl)

sign_words : (o : Option ℤ) → option_map unsigned o ≡ option_map word_of (option_map ordinal o)
sign_words None = refl
sign_words (Some z) = refl

pub sign_follows : SignFollows
sign_follows types h v is = (
  (word_sub_follows (pos 0) (ordinal_of v) refl (int_of types h v is)).0 ∙ sign_words (int_difference (pos 0) (ordinal_of v)),
  sign_typed types (int_difference (pos 0) (ordinal_of v)) (counted_typed types h int_difference difference_gives (ordinal (pos 0)) v is),
)

pub negation_follows : NegationFollows
negation_follows types h v is = (
  truth_words (not (is_true v)) ∙ ap (λ b. effect.truth b ∷ []) (sym (truth_is_tested types h v is).0),
  (truth_is_word types h (not (is_true v))).2,
)
