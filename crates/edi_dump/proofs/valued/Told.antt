-- The text that is read off the words of a value is that of the value.
use Rattle.std.proofs.Common.{◌≡◌, ℕ, zero, suc, ◌<◌, ◌/◌, ◌%◌, ℤ, Bool, true, false, IsTrue, List, [], ◌∷◌, ◌++◌, length, drop, All, refl}
use Rattle.std.proofs.Common.{sym, ap, ◌∙◌, arith, append_assoc}
use Rattle.std.proofs.Math.ListN.{get_or-append}
use Rattle.std.proofs.Math.Seq.{drop-append_seam}
use Rattle.std.proofs.lemmas.Bool.{false≢true}
use Rattle.std.proofs.lemmas.List.Elements.{All-tail}
use Rattle.std.specs.Int.{bit_at}
use Rattle.std.specs.Prelude.{slice_index, ◌==◌}
use Rattle.edi_word.specs.Words.{signed}
use Rattle.edi_word.specs.Sets.{word_has}
use Rattle.edi_word.specs.SetWords.{members_of, words_of_members}
use Rattle.edi_word.proofs.IntLaws.{fits_from_is_int, signed-unsigned}
use Rattle.edi_word.proofs.SetLaws.{members_where-agree, members_of-words_of_members}
use Rattle.edi_unit.specs.Types.{Shape, int, char, bool, enumeration, record_of, array_of, set_of, shape_at, is_elementary_shape, is_ordinal_of, is_set_shape}
use Rattle.edi_unit.specs.Types.{size}
use Rattle.edi_unit.specs.TypeTables.{part_types, has_parts}
use Rattle.edi_unit.specs.Values.{Value, ordinal, compound, members, Values, no_value, value_then, IsOf, AreOf}
use Rattle.edi_target.specs.Op.{word_of_integer}
use Rattle.edi_follows.specs.values.Words.{value_words, values_words, IsTable}
use Rattle.edi_follows.proofs.values.Lengths.{parts_known, length-words_of_members, value_length}
use Rattle.edi_follows.proofs.values.Small.{ordinal_int}
use Rattle.edi_dump.specs.values.Texts.{Piece, compound_piece, in_list, most_deep, most_shown, ordinal_piece, set_piece}
use Rattle.edi_dump.specs.values.Words.{parts_by, piece_within, shape_piece}
use Rattle.edi_dump.specs.values.Laws.{TextsAreOfValues, base_type, value_piece, values_piece}

-- ---- values of one kind of type

module _ (types : List Shape) (constants : List (List (List ℕ))) (of : ℕ → ℕ → List ℕ → Piece) (left t : ℕ) where
  elementary_is : (s : Shape) (words : List ℕ) → IsTrue (is_elementary_shape s)
      → shape_piece types constants of left t s words ≡ ordinal_piece types constants left t (signed (slice_index words 0))
  elementary_is int words h = refl
  elementary_is char words h = refl
  elementary_is bool words h = refl
  elementary_is (enumeration k) words h = refl
  elementary_is (record_of fs) words h = absurd (false≢true h)
  elementary_is (array_of i lo hi e) words h = absurd (false≢true h)
  elementary_is (set_of b) words h = absurd (false≢true h)

  compound_is : (s : Shape) (words : List ℕ) (list : Piece) → IsTrue (has_parts s)
      → parts_by types constants of true left (part_types s) words ≡ list
      → shape_piece types constants of left t s words ≡ compound_piece list
  compound_is int words list h e = absurd (false≢true h)
  compound_is char words list h e = absurd (false≢true h)
  compound_is bool words list h e = absurd (false≢true h)
  compound_is (enumeration k) words list h e = absurd (false≢true h)
  compound_is (record_of fs) words list h e = ap compound_piece e
  compound_is (array_of i lo hi x) words list h e = ap compound_piece e
  compound_is (set_of b) words list h e = absurd (false≢true h)

  set_is : (s : Shape) (words set : List ℕ) → IsTrue (is_set_shape s) → members_of words ≡ set
      → shape_piece types constants of left t s words ≡ set_piece types constants left (base_type s) set
  set_is int words set h e = absurd (false≢true h)
  set_is char words set h e = absurd (false≢true h)
  set_is bool words set h e = absurd (false≢true h)
  set_is (enumeration k) words set h e = absurd (false≢true h)
  set_is (record_of fs) words set h e = absurd (false≢true h)
  set_is (array_of i lo hi x) words set h e = absurd (false≢true h)
  set_is (set_of b) words set h e = ap (set_piece types constants left b) e

ordinal_elementary : (s : Shape) (n : ℤ) → IsTrue (is_ordinal_of s n) → IsTrue (is_elementary_shape s)
ordinal_elementary int n h = refl
ordinal_elementary char n h = refl
ordinal_elementary bool n h = refl
ordinal_elementary (enumeration k) n h = refl
ordinal_elementary (record_of fs) n h = h
ordinal_elementary (array_of i lo hi e) n h = h
ordinal_elementary (set_of b) n h = h

-- what stands behind the eight words of a set counts for nothing
members_alone : (words more : List ℕ) → length words ≡ 8 → members_of (words ++ more) ≡ members_of words
members_alone words more eight = members_where-agree (word_has (words ++ more)) (word_has words) (λ n small.
    ap (λ w. bit_at w (n % 16) == 1) (get_or-append words more 0 (n / 16) (grind (arith, eight, small))))

-- ---- values

module _ (types : List Shape) (constants : List (List (List ℕ))) (h : IsTable types) where
  mutual
    piece_is : (deep left : ℕ) (v : Value) (t : ℕ) → t < length types → IsOf types v t → (more : List ℕ)
        → piece_within types constants deep left t (value_words v ++ more) ≡ value_piece types constants deep left t v
    piece_is zero left v t known is more = refl
    piece_is (suc d) left (ordinal n) t known is more =
        elementary_is types constants (piece_within types constants d) left t (shape_at types t) (word_of_integer n ∷ more)
        (ordinal_elementary (shape_at types t) n is)
        ∙ ap (ordinal_piece types constants left t) (signed-unsigned n (fits_from_is_int n (ordinal_int types h t n known is)))
    piece_is (suc d) left (compound vs) t known is more =
        compound_is types constants (piece_within types constants d) left t (shape_at types t) (values_words vs ++ more) _ is.0
        (pieces_are d true left vs (part_types (shape_at types t)) (parts_known types h t known) is.1 more)
    piece_is (suc d) left (members set) t known is more =
        set_is types constants (piece_within types constants d) left t (shape_at types t) (words_of_members set ++ more) set is.0
        (members_alone (words_of_members set) more (length-words_of_members set) ∙ members_of-words_of_members set is.1)

    -- of values one after another
    pieces_are : (d : ℕ) (first : Bool) (left : ℕ) (vs : Values) (ts : List ℕ) → All (λ u. u < length types) ts → AreOf types vs ts → (more : List ℕ)
        → parts_by types constants (piece_within types constants d) first left ts (values_words vs ++ more)
        ≡ values_piece types constants d first left ts vs
    pieces_are d first left no_value [] known are more = refl
    pieces_are d first left no_value (t ∷ ts) known are more = absurd are
    pieces_are d first left (value_then v vs) [] known are more = absurd are
    pieces_are d first left (value_then v vs) (t ∷ ts) known are more =
        let rest : List ℕ = values_words vs ++ more in
        let of : ℕ → ℕ → List ℕ → Piece = piece_within types constants d in
        let own : Piece = value_piece types constants d left t v in
        let part : of left t (value_words v ++ rest) ≡ own = piece_is d left v t (known 0 0 (omega arith)) are.0 rest in
        let long : length (value_words v) ≡ size types t = value_length types h v t (known 0 0 (omega arith)) are.0 in
        let behind : drop (size types t) (value_words v ++ rest) ≡ rest =
        ap (λ k. drop k (value_words v ++ rest)) (sym long) ∙ drop-append_seam (value_words v) rest in
        ap (λ words. in_list first left (of left t words) (λ k. parts_by types constants of false k ts (drop (size types t) words)))
        (append_assoc (value_words v) (values_words vs) more)
        ∙ (ap (λ piece. in_list first left piece (λ k. parts_by types constants of false k ts (drop (size types t) (value_words v ++ rest)))) part
        ∙ (ap (λ words. in_list first left own (λ k. parts_by types constants of false k ts words)) behind
        ∙ ap (λ others. in_list first left own (λ k. others))
        (pieces_are d false own.left vs ts (All-tail (λ u. u < length types) t ts known) are.1 more)))

pub texts_are_of_values : TextsAreOfValues
texts_are_of_values types constants h v t known is more =
    ap (λ (piece : Piece). piece.text) (piece_is types constants h most_deep most_shown v t known is more)
