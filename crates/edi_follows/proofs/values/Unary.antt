-- Operators on one operand: `not`, a leading `-`, and conversions.
use Rattle.std.proofs.Common.{◌≡◌, ℕ, ◌+◌, ◌-◌, ◌<◌, ◌≤◌, Bool, true, false, ◌&&◌, if◌then◌else◌, List, [], ◌∷◌, length, Option, Some, None, refl, sym}
use Rattle.std.proofs.Common.{subst, ap, ◌∙◌, arith}
use Rattle.std.specs.Prelude.{ℤ, IfSome, IsTrue, nat_eq, int_le, pos}
use Rattle.std.specs.Option.{option_map}
use Rattle.edi_calls.specs.declared.kinds.Cause.TheVariants as cause
use Rattle.edi_store.specs.Memory.{words_at}
use Rattle.edi_word.specs.Words.{signed, word_sub}
use Rattle.edi_unit.specs.Types.{Shape, is_elementary, int, char, bool, enumeration, record_of, array_of, set_of, shape_at, bool_type, int_type, size}
use Rattle.edi_unit.specs.Tree as tree
use Rattle.edi_unit.specs.Tree.{Expression, Acts}
use Rattle.edi_unit.specs.Values.{Value, IsOf, sign, negation, converted}
use Rattle.edi_unit.specs.Need.{expression_type}
use Rattle.edi_unit.specs.Fits.{ExpressionFits}
use Rattle.edi_meaning.specs.Store as meaning
use Rattle.edi_meaning.specs.Evaluation.{World, Evaluation, gives}
use Rattle.edi_meaning.specs.Whole as whole
use Rattle.edi_meaning.specs.Whole.{expression}
use Rattle.edi_target.specs.Op as op
use Rattle.edi_target.specs.Memory.{word}
use Rattle.edi_target.specs.Effect.{Local, Effect, goes, fails, push, truth, in_range}
use Rattle.edi_target.specs.Effect as effects
use Rattle.edi_target.specs.Perform.{checked}
use Rattle.edi_scheme.specs.Pieces.{check_code}
use Rattle.edi_scheme.specs.Stands as code
use Rattle.edi_scheme.proofs.Known.{expression_known}
use Rattle.edi_follows.specs.values.Words.{value_words, IsTable}
use Rattle.edi_follows.specs.values.Operated.{word_of, IsAlone, passes}
use Rattle.edi_follows.proofs.values.Alone.{elementary_is_alone, standard_known, bool_elementary, int_elementary}
use Rattle.edi_follows.proofs.values.Operators.{sign_follows, negation_follows}
use Rattle.edi_follows.proofs.values.Checks.{conversion_follows}
use Rattle.edi_follows.specs.places.Coded.{Coded}
use Rattle.edi_follows.specs.places.Spots.{frames_end}
use Rattle.edi_follows.specs.places.Scene.{Scene, here, base_of, Stands, Does, local_at}
use Rattle.edi_follows.specs.places.Claims.{Pushed}
use Rattle.edi_follows.specs.places.Constructs.{E}
use Rattle.edi_follows.specs.places.Instructions.{Instructed, effect}
use Rattle.edi_follows.proofs.places.Doing.{stands_after, give}
use Rattle.edi_follows.proofs.places.Instructed.{instructed}
use Rattle.edi_follows.proofs.places.Binding.{bind_value}

pub table_of : (g : Coded) → IsTable g.unit.types
table_of g = record { table = g.fits.table; shapes = g.fits.shapes; parts = g.parts }

-- ---- what an instruction pushes, or where it fails

-- words are pushed, or the program fails at the line
abbrev pub pushes_or_fails : (line next : ℕ) → Option (List ℕ) → Local → Effect
pushes_or_fails line next None l = fails cause.Range line
pushes_or_fails line next (Some ws) l = push ws l (effects.to next)

-- where these are the words of a value, or there is none, the machine does what the meaning does
pub ranged : (g : Coded) (s : Scene) (F : meaning.Shape) (i : op.Instruction) (pc next top t held of line : ℕ) (w : World) (m : List ℕ)
    (zs : Option (List ℕ)) (p : Option Value) →
    Stands g s F w m → g.fetched pc ≡ Some (i, next) → effect g s i next (local_at s F m pc top held) ≡ pushes_or_fails line next zs
    (local_at s F m pc t held) →
    base_of g s F ≤ t → t + size g.unit.types of ≤ frames_end s.first F s.name → zs ≡ option_map value_words p → of < length g.unit.types →
    IfSome p (λ x. IsOf g.unit.types x of) →
    Does g s F pc top t held w m (Pushed g s of next t) (whole.in_range line p w)
ranged g s F i pc next top t held of line w m zs None stands at is low high words known typed =
    (instructed g s).fails_at Value (Pushed g s of next t) F i pc next top t held w m cause.Range line at
    (is ∙ ap (λ o. pushes_or_fails line next o (local_at s F m pc t held)) words)
ranged g s F i pc next top t held of line w m zs (Some x) stands at is low high words known typed =
    (instructed g s).pops_pushes_value F i pc next top t held of w m (value_words x) x stands at
    (is ∙ ap (λ o. pushes_or_fails line next o (local_at s F m pc t held)) words) low high refl known typed

-- a word in a row is pushed, or the program fails
pub range_pushes : (line next : ℕ) (o : Option ℕ) (l : Local) →
    in_range line o (λ z. push (z ∷ []) l (effects.to next)) ≡ pushes_or_fails line next (option_map (λ z. z ∷ []) o) l
range_pushes line next None l = refl
range_pushes line next (Some z) l = refl

-- ---- one elementary operand

-- the word of an elementary value that stands above t
pub record Lone (g : Coded) (v : Value) (m : List ℕ) (t of : ℕ) : Type 0 where
  pub word_is : word m t ≡ word_of v
  pub size_is : size g.unit.types of ≡ 1
  pub words : value_words v ≡ word_of v ∷ []

pub lone : (g : Coded) (s : Scene) (v : Value) (m : List ℕ) (t of : ℕ) → of < length g.unit.types → IsTrue (is_elementary g.unit.types of) →
    IsOf g.unit.types v of → words_at m t (size g.unit.types of) ≡ value_words v → Lone g v m t of
lone g s v m t of known elementary typed words =
    let a : IsAlone g.unit.types v of = elementary_is_alone g.unit.types (table_of g) v of known elementary typed in
    record { word_is = (instructed g s).word_is m [] (word_of v) t (size g.unit.types of) (words ∙ a.words); size_is = a.size_is; words = a.words }

module _ (g : Coded) (s : Scene) (deeper : Acts → World → Evaluation (Unit {0})) (bound : ℕ) where
  i : Instructed g s
  i = instructed g s

  abbrev types : List Shape
  types = g.unit.types

  abbrev table : IsTable types
  table = table_of g

  abbrev kind_of : meaning.Shape → Expression → ℕ
  kind_of F e = expression_type types g.unit.blocks (here g s F) e

  known_block : (F : meaning.Shape) (w : World) (m : List ℕ) → Stands g s F w m → here g s F < length g.unit.blocks
  known_block F w m h = (i.levels_reach F w m 0 h).known

  pub known_type : (F : meaning.Shape) (w : World) (m : List ℕ) (e : Expression) → Stands g s F w m →
      ExpressionFits types g.unit.blocks g.fits.headings (here g s F) e → kind_of F e < length types
  known_type F w m e h fits =
      expression_known types g.fits.table g.parts g.unit.blocks g.fits.headings g.fits.fits_blocks (here g s F) (known_block F w m h) e fits

  -- an elementary operand of a type that every table has
  record Standard (x : Value) (m : List ℕ) (t k of : ℕ) : Type 0 where
    alone : Lone g x m t k
    typed : IsOf types x of
    known : of < length types
    one : size types of ≡ 1

  standard : (of : ℕ) → of < 3 → IsTrue (is_elementary types of) → (F : meaning.Shape) (w : World) (m : List ℕ) (e : Expression) (x : Value)
      (m' : List ℕ) (t : ℕ) → Stands g s F w m → ExpressionFits types g.unit.blocks g.fits.headings (here g s F) e → kind_of F e ≡ of →
      IsOf types x (kind_of F e) → words_at m' t (size types (kind_of F e)) ≡ value_words x → Standard x m' t (kind_of F e) of
  standard of less elementary F w m e x m' t stands fits same typed words =
      let a : Lone g x m' t (kind_of F e) = lone g s x m' t (kind_of F e) (known_type F w m e stands fits)
      (subst (λ k. IsTrue (is_elementary types k)) (sym same) elementary) typed words in
      record {
        alone = a;
        typed = subst (λ k. IsOf types x k) same typed;
        known = standard_known types table of less;
        one = ap (size types) (sym same) ∙ a.size_is;
      }

  -- `not`
  pub not_does : (e : Expression) → E g s deeper bound e → E g s deeper bound (tree.not_of e)
  not_does e claim F pc to t held w m less stands fits able =
      bind_value g s Value (Pushed g s bool_type to t) (expression g.unit s.name (s.size s.name) deeper e w) (λ v w. gives (negation v) w)
      F pc stands.0 t t t held (kind_of F e) w m (omega arith) (claim F pc stands.0 t held w m less stands.1 fits.1 able) (λ x v m' c high after post.
      let o : Standard x m' t (kind_of F e) bool_type =
      standard bool_type (omega arith) (bool_elementary types table) F w m e x m' t able.stands fits.1 fits.0 post.typed post.words in
      i.pops_pushes_value F op.not_ stands.0 to (t + size types (kind_of F e)) t held bool_type v m' (truth (nat_eq (word_of x) 0) ∷ []) (negation x)
      (stands_after g s F w v m m' t c able.stands after) stands.2
      (i.pops_word F m' (word_of x) stands.0 t (t + size types (kind_of F e)) held (λ y l. push (truth (nat_eq y 0) ∷ []) l (effects.to to)) able.low
      (omega (arith, o.alone.size_is)) o.alone.word_is)
      able.low (omega (arith, high, o.alone.size_is, o.one)) (sym (negation_follows types table x o.typed).0) o.known (negation_follows types table x o.typed).1)

  -- a leading `-`
  pub sign_does : (e : Expression) (line : ℕ) → E g s deeper bound e → E g s deeper bound (tree.sign_of e line)
  sign_does e line claim F pc to t held w m less stands fits able =
      bind_value g s Value (Pushed g s int_type to t) (expression g.unit s.name (s.size s.name) deeper e w) (λ v w. whole.in_range line (sign v) w)
      F pc stands.0 t t t held (kind_of F e) w m (omega arith) (claim F pc stands.0 t held w m less stands.1 fits.1 able) (λ x v m' c high after post.
      let o : Standard x m' t (kind_of F e) int_type =
      standard int_type (omega arith) (int_elementary types table) F w m e x m' t able.stands fits.1 fits.0 post.typed post.words in
      ranged g s F (op.neg line) stands.0 to (t + size types (kind_of F e)) t held int_type line v m' (option_map (λ z. z ∷ []) (word_sub 0 (word_of x)))
      (sign x)
      (stands_after g s F w v m m' t c able.stands after) stands.2
      (i.pops_word F m' (word_of x) stands.0 t (t + size types (kind_of F e)) held
      (λ y l. in_range line (word_sub 0 y) (λ z. push (z ∷ []) l (effects.to to))) able.low
      (omega (arith, o.alone.size_is)) o.alone.word_is ∙ range_pushes line to (word_sub 0 (word_of x)) (local_at s F m' stands.0 t held))
      able.low (omega (arith, high, o.alone.size_is, o.one))
      (signed_words (word_sub 0 (word_of x)) (sign x) (sign_follows types table x o.typed).0 (sign_follows types table x o.typed).1)
      o.known (signed_typed (sign x) (sign_follows types table x o.typed).1))
    where
      signed_words : (o : Option ℕ) (p : Option Value) → o ≡ option_map word_of p → IfSome p (λ x. IsOf types x int_type × (value_words x ≡ word_of x ∷ [])) →
          option_map (λ z. z ∷ []) o ≡ option_map value_words p
      signed_words o None e h = ap (option_map (λ z. z ∷ [])) e
      signed_words o (Some x) e h = ap (option_map (λ z. z ∷ [])) e ∙ ap Some (sym h.1)

      signed_typed : (p : Option Value) → IfSome p (λ x. IsOf types x int_type × (value_words x ≡ word_of x ∷ [])) → IfSome p (λ x. IsOf types x int_type)
      signed_typed None h = tt
      signed_typed (Some x) h = h.0

  -- ---- conversions

  -- CHECK, or no instruction
  checks : (shape : Shape) (F : meaning.Shape) (pc to t of into line : ℕ) (held : ℕ) (w : World) (m : List ℕ) (x : Value) →
      Stands g s F w m → code.AreInstructions g.fetched (check_code shape line) pc to → base_of g s F ≤ t → t + size types of ≤ frames_end s.first F s.name →
      Lone g x m t of → IsOf types x of → size types of ≡ size types into → words_at m t (size types of) ≡ value_words x →
      (passes shape (word_of x) ≡ true → IsOf types x into) →
      Does g s F pc (t + size types of) t held w m (Pushed g s into to t) (whole.in_range line (if passes shape (word_of x) then Some x else None) w)
  checks shape F pc to t of into line held w m x h stands low high a typed same words into_typed = go shape stands into_typed
    where
      stays : (pc to : ℕ) → pc ≡ to → IsOf types x into → Does g s F pc (t + size types of) t held w m (Pushed g s into to t) (gives x w)
      stays pc to e is = give g s F pc (t + size types of) t held w m (Pushed g s into to t) x h (omega arith) high (record {
        pc_is = e;
        top_is = ap (λ n. t + n) same;
        words = ap (words_at m t) (sym same) ∙ words;
        typed = is;
      })

      -- between these bounds
      between : (lo hi : ℤ) → code.AreInstructions g.fetched (op.check lo hi line ∷ []) pc to → (test : Bool) →
          (int_le lo (signed (word_of x)) && int_le (signed (word_of x)) hi) ≡ test → (test ≡ true → IsOf types x into) →
          Does g s F pc (t + size types of) t held w m (Pushed g s into to t) (whole.in_range line (if test then Some x else None) w)
      between lo hi at true e is =
          i.goes_then Value (Pushed g s into to t) (gives x w) F (op.check lo hi line) pc to to (t + size types of) (t + size types of) t held w m at
          (i.looks F m (word_of x) pc t (t + size types of) held (λ y. checked lo hi line to (signed y) (local_at s F m pc (t + size types of) held)) low
          (omega (arith, a.size_is)) a.word_is
          ∙ ap (λ b. if b then goes (local_at s F m to (t + size types of) held) else fails cause.Range line) e)
          (stays to to refl (is refl))
      between lo hi at false e is =
          i.fails_at Value (Pushed g s into to t) F (op.check lo hi line) pc to (t + size types of) t held w m cause.Range line at
          (i.looks F m (word_of x) pc t (t + size types of) held (λ y. checked lo hi line to (signed y) (local_at s F m pc (t + size types of) held)) low
          (omega (arith, a.size_is)) a.word_is
          ∙ ap (λ b. if b then goes (local_at s F m to (t + size types of) held) else fails cause.Range line) e)

      go : (shape : Shape) → code.AreInstructions g.fetched (check_code shape line) pc to → (passes shape (word_of x) ≡ true → IsOf types x into) →
          Does g s F pc (t + size types of) t held w m (Pushed g s into to t) (whole.in_range line (if passes shape (word_of x) then Some x else None) w)
      go int at is = stays pc to at (is refl)
      go char at is = between (pos 0) (pos 127) at _ refl is
      go bool at is = between (pos 0) (pos 1) at _ refl is
      go (enumeration n) at is = between (pos 0) (pos (n - 1)) at _ refl is
      go (record_of fs) at is = stays pc to at (is refl)
      go (array_of j lo hi e) at is = stays pc to at (is refl)
      go (set_of b) at is = stays pc to at (is refl)

  pub convert_does : (of : ℕ) (e : Expression) (line : ℕ) → E g s deeper bound e → E g s deeper bound (tree.convert of e line)
  convert_does of e line claim F pc to t held w m less stands fits able =
      bind_value g s Value (Pushed g s of to t) (expression g.unit s.name (s.size s.name) deeper e w)
      (λ v w. whole.in_range line (converted (shape_at types of) v) w)
      F pc stands.0 t t t held (kind_of F e) w m (omega arith) (claim F pc stands.0 t held w m less stands.1 fits.3 able) (λ x v m' c high after post.
      let known : kind_of F e < length types = known_type F w m e able.stands fits.3 in
      let a : Lone g x m' t (kind_of F e) = lone g s x m' t (kind_of F e) known fits.2 post.typed post.words in
      let follows = conversion_follows types table x (kind_of F e) of known fits.0 fits.2 fits.1 post.typed in
      subst (λ o. Does g s F stands.0 (t + size types (kind_of F e)) t held v m' (Pushed g s of to t) (whole.in_range line o v)) (sym follows.0)
      (checks (shape_at types of) F stands.0 to t (kind_of F e) of line held v m' x (stands_after g s F w v m m' t c able.stands after) stands.2 able.low high a
      post.typed follows.2 post.words follows.1))
