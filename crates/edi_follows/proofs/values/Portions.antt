-- The words of the parts of a value: those of a part stand among those of the value, and another value of its type may be put there.
use Rattle.std.proofs.Common.{◌≡◌, ℕ, zero, suc, ◌<◌, ℤ, List, [], ◌∷◌, ◌++◌, length, take, All, IsTrue, sum_by, refl, sym, ap, ◌∙◌, arith, append_assoc}
use Rattle.std.proofs.Common.{length-append}
use Rattle.std.specs.Prelude.{slice_index_or}
use Rattle.std.proofs.lemmas.Bool.{false≢true}
use Rattle.std.proofs.lemmas.List.{append-nil}
use Rattle.std.proofs.lemmas.List.Elements.{All-tail}
use Rattle.std.proofs.lemmas.List.Sums.{sum_by-cons}
use Rattle.edi_unit.specs.Types.{Shape, int, char, bool, enumeration, record_of, array_of, set_of, shape_at, int_type, is_set_shape}
use Rattle.edi_unit.specs.TypeTables.{part_types, has_parts}
use Rattle.edi_unit.specs.Types.{is_ordinal_of, size}
use Rattle.edi_unit.specs.Values.{Value, ordinal, compound, members, Values, no_value, value_then, IsOf, AreOf}
use Rattle.edi_meaning.specs.Parts.{nth, with_nth, with_part}
use Rattle.edi_follows.specs.values.Words.{value_words, values_words, nth_type, IsPath, Splits, IsTable, PartsStand}
use Rattle.edi_follows.proofs.values.Lengths.{parts_known, nth_known, value_length}

-- part n of a row of values of these types
record SplitsRow (types : List Shape) (vs : Values) (ts : List ℕ) (n : ℕ) : Type 0 where
  before : List ℕ
  after : List ℕ
  long : length before ≡ sum_by (size types) (take n ts)
  here : values_words vs ≡ before ++ (value_words (nth vs n) ++ after)
  there : (x : Value) → IsOf types x (slice_index_or ts n int_type) → values_words (with_nth vs n x) ≡ before ++ (value_words x ++ after)
  part : IsOf types (nth vs n) (slice_index_or ts n int_type)
  whole : (x : Value) → IsOf types x (slice_index_or ts n int_type) → AreOf types (with_nth vs n x) ts

-- elementary values and sets have no parts
ordinal_alone : (s : Shape) (m : ℤ) (n : ℕ) → IsTrue (is_ordinal_of s m) → n < length (part_types s) → ⊥
ordinal_alone int m n h k = omega arith
ordinal_alone char m n h k = omega arith
ordinal_alone bool m n h k = omega arith
ordinal_alone (enumeration c) m n h k = omega arith
ordinal_alone (record_of fs) m n h k = false≢true h
ordinal_alone (array_of i lo hi e) m n h k = false≢true h
ordinal_alone (set_of b) m n h k = omega arith

set_alone : (s : Shape) (n : ℕ) → IsTrue (is_set_shape s) → n < length (part_types s) → ⊥
set_alone int n h k = omega arith
set_alone char n h k = omega arith
set_alone bool n h k = omega arith
set_alone (enumeration c) n h k = omega arith
set_alone (record_of fs) n h k = false≢true h
set_alone (array_of i lo hi e) n h k = false≢true h
set_alone (set_of b) n h k = omega arith

module _ (types : List Shape) (h : IsTable types) where
  split_row : (vs : Values) (ts : List ℕ) (n : ℕ) → All (λ u. u < length types) ts → AreOf types vs ts → n < length ts → SplitsRow types vs ts n
  split_row no_value [] n known are within = absurd (omega arith)
  split_row no_value (t ∷ ts) n known are within = absurd are
  split_row (value_then v vs) [] n known are within = absurd are
  split_row (value_then v vs) (t ∷ ts) zero known are within = record {
    before = [];
    after = values_words vs;
    long = refl;
    here = refl;
    there = λ x is. refl;
    part = are.0;
    whole = λ x is. (is, are.1);
  }
  split_row (value_then v vs) (t ∷ ts) (suc n) known are within =
      let s = split_row vs ts n (All-tail (λ u. u < length types) t ts known) are.1 (omega arith) in
      let first : length (value_words v) ≡ size types t = value_length types h v t (known 0 0 (omega arith)) are.0 in
      record {
        before = value_words v ++ s.before;
        after = s.after;
        long = omega (arith, length-append (value_words v) s.before, first, s.long, sum_by-cons (size types) t (take n ts));
        here = ap (λ l. value_words v ++ l) s.here ∙ sym (append_assoc (value_words v) s.before (value_words (nth vs n) ++ s.after));
        there = λ x is. ap (λ l. value_words v ++ l) (s.there x is) ∙ sym (append_assoc (value_words v) s.before (value_words x ++ s.after));
        part = s.part;
        whole = λ x is. (are.0, s.whole x is);
      }

  -- and the part of that part
  split_below : (vs : Values) (t n : ℕ) (path : List ℕ) → IsTrue (has_parts (shape_at types t)) →
      SplitsRow types vs (part_types (shape_at types t)) n → Splits types (nth vs n) (nth_type types t n) path → Splits types (compound vs) t (n ∷ path)
  split_below vs t n path is s p = record {
    before = s.before ++ p.before;
    after = p.after ++ s.after;
    long = omega (arith, length-append s.before p.before, s.long, p.long);
    here = s.here ∙ ap (λ l. s.before ++ (l ++ s.after)) p.here ∙ simp append_assoc;
    there = λ x typed. s.there (with_part (nth vs n) path x) (p.whole x typed) ∙ ap (λ l. s.before ++ (l ++ s.after)) (p.there x typed) ∙ simp append_assoc;
    part = p.part;
    whole = λ x typed. (is, s.whole (with_part (nth vs n) path x) (p.whole x typed));
  }

  split_path : (v : Value) (t : ℕ) (path : List ℕ) → t < length types → IsOf types v t → IsPath types t path → Splits types v t path
  split_path v t [] known is leads = record {
    before = [];
    after = [];
    long = refl;
    here = sym (append-nil (value_words v));
    there = λ x typed. sym (append-nil (value_words x));
    part = is;
    whole = λ x typed. typed;
  }
  split_path (ordinal m) t (n ∷ path) known is leads = absurd (ordinal_alone (shape_at types t) m n is leads.0)
  split_path (members set) t (n ∷ path) known is leads = absurd (set_alone (shape_at types t) n is.0 leads.0)
  split_path (compound vs) t (n ∷ path) known is leads =
      let s = split_row vs (part_types (shape_at types t)) n (parts_known types h t known) is.1 leads.0 in
      split_below vs t n path is.0 s (split_path (nth vs n) (nth_type types t n) path (nth_known types h t n known leads.0) s.part leads.1)

pub parts_stand : PartsStand
parts_stand types h v t path known is leads = split_path types h v t path known is leads
