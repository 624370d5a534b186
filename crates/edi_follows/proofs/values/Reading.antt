-- The words of a part in memory: where those of a value stand they are read, and others are written in their place.
use Rattle.std.proofs.Common.{◌≡◌, ℕ, ◌+◌, ◌<◌, ◌≤◌, inl, inr, List, ◌++◌, length, take, drop, refl, sym, ap, ap₂, ◌∙◌, arith, length-append}
use Rattle.std.proofs.lemmas.List.{take-append-drop, take-take, take_at, drop_at, drop-drop, drop-take}
use Rattle.edi_store.specs.Memory.{words_at, written}
use Rattle.edi_store.proofs.MemoryLaws.{words_at-written, words_at-written_apart}
use Rattle.edi_unit.specs.Types.{Shape, size}
use Rattle.edi_unit.specs.Values.{Value, IsOf}
use Rattle.edi_meaning.specs.Parts.{part_at, with_part}
use Rattle.edi_follows.specs.values.Words.{value_words, path_type, path_offset, IsPath, Splits, IsTable, PartsAreRead, PartsAreWritten}
use Rattle.edi_follows.proofs.values.Lengths.{value_length}
use Rattle.edi_follows.proofs.values.Paths.{path_known}
use Rattle.edi_follows.proofs.values.Portions.{parts_stand}

-- ---- words one behind another

pub words_at-append : (m : List ℕ) (a k n : ℕ) → words_at m a (k + n) ≡ words_at m a k ++ words_at m (a + k) n
words_at-append m a k n =
    sym (take-append-drop k (take (k + n) (drop a m)))
    ∙ ap₂ (λ x y. x ++ y) (take-take k (k + n) (drop a m) (omega arith)) (drop-take k n (drop a m) ∙ ap (take n) (drop-drop k a m))

-- the words in the middle
pub read_within : (m : List ℕ) (a : ℕ) (b p c : List ℕ) → words_at m a (length b + (length p + length c)) ≡ b ++ (p ++ c) →
    words_at m (a + length b) (length p) ≡ p
read_within m a b p c is =
    sym (take-take (length p) (length p + length c) (drop (a + length b) m) (omega arith))
    ∙ ap (take (length p)) (ap (take (length p + length c)) (sym (drop-drop (length b) a m))
    ∙ sym (drop-take (length b) (length p + length c) (drop a m)) ∙ ap (drop (length b)) is ∙ drop_at b (p ++ c) (length b) refl)
    ∙ take_at p c (length p) refl

-- and others in their place
pub written_within : (m : List ℕ) (a : ℕ) (b p c q : List ℕ) → length q ≡ length p → a + (length b + (length p + length c)) ≤ length m →
    words_at m a (length b + (length p + length c)) ≡ b ++ (p ++ c) →
    words_at (written m (a + length b) q) a (length b + (length p + length c)) ≡ b ++ (q ++ c)
written_within m a b p c q same within is =
    let front : words_at m a (length b) ≡ b = sym (take-take (length b) (length b + (length p + length c)) (drop a m) (omega arith))
    ∙ ap (take (length b)) is ∙ take_at b (p ++ c) (length b) refl in
    words_at-append (written m (a + length b) q) a (length b) (length p + length c)
    ∙ ap₂ (λ x y. x ++ y)
    (words_at-written_apart m (a + length b) q a (length b) (omega arith) (omega arith) (inl (omega arith)) ∙ front)
    (words_at-append (written m (a + length b) q) (a + length b) (length p) (length c)
    ∙ ap₂ (λ x y. x ++ y) (ap (words_at (written m (a + length b) q) (a + length b)) (sym same) ∙ words_at-written m (a + length b) q (omega arith))
    (words_at-written_apart m (a + length b) q (a + length b + length p) (length c) (omega arith) (omega arith) (inr (omega arith)) ∙ behind m a b p c is))
  where
    behind : (m : List ℕ) (a : ℕ) (b p c : List ℕ) → words_at m a (length b + (length p + length c)) ≡ b ++ (p ++ c) →
        words_at m (a + length b + length p) (length c) ≡ c
    behind m a b p c is =
        sym (ap (take (length c)) (drop-drop (length p) (a + length b) m))
        ∙ sym (drop-take (length p) (length c) (drop (a + length b) m))
        ∙ ap (drop (length p)) (ap (take (length p + length c)) (sym (drop-drop (length b) a m))
        ∙ sym (drop-take (length b) (length p + length c) (drop a m)) ∙ ap (drop (length b)) is ∙ drop_at b (p ++ c) (length b) refl)
        ∙ drop_at p c (length p) refl

-- ---- parts

module _
    (types : List Shape) (h : IsTable types) (v : Value) (t : ℕ) (path : List ℕ)
    (known : t < length types) (is : IsOf types v t) (leads : IsPath types t path) where
  split : Splits types v t path
  split = parts_stand types h v t path known is leads

  part_length : length (value_words (part_at v path)) ≡ size types (path_type types t path)
  part_length = value_length types h (part_at v path) (path_type types t path) (path_known types h t path known leads) split.part

  -- the words of the value, those of the part among them
  whole_length : length split.before + (length (value_words (part_at v path)) + length split.after) ≡ size types t
  whole_length =
      let whole : length (value_words v) ≡ size types t = value_length types h v t known is in
      let outer = length-append split.before (value_words (part_at v path) ++ split.after) in
      let inner = length-append (value_words (part_at v path)) split.after in
      omega (arith, whole, ap length split.here, outer, inner)

  -- a part lies in the words of the value
  pub part_within : path_offset types t path + size types (path_type types t path) ≤ size types t
  part_within = omega (arith, split.long, part_length, whole_length)

  -- it is read there
  pub part_read : (m : List ℕ) (a : ℕ) → words_at m a (size types t) ≡ value_words v →
      words_at m (a + path_offset types t path) (size types (path_type types t path)) ≡ value_words (part_at v path)
  part_read m a here =
      sym (ap₂ (λ o n. words_at m (a + o) n) split.long part_length)
      ∙ read_within m a split.before (value_words (part_at v path)) split.after (ap (words_at m a) whole_length ∙ here ∙ split.here)

  -- and where the words of another value are written there, the words are those of the value with that part
  pub part_written : (m : List ℕ) (a : ℕ) (x : Value) → a + size types t ≤ length m → words_at m a (size types t) ≡ value_words v →
      IsOf types x (path_type types t path) →
      words_at (written m (a + path_offset types t path) (value_words x)) a (size types t) ≡ value_words (with_part v path x)
  part_written m a x within here typed =
      let of : path_type types t path < length types = path_known types h t path known leads in
      let same : length (value_words x) ≡ length (value_words (part_at v path)) = value_length types h x (path_type types t path) of typed ∙ sym part_length in
      sym (ap₂ (λ o n. words_at (written m (a + o) (value_words x)) a n) split.long whole_length)
      ∙ written_within m a split.before (value_words (part_at v path)) split.after (value_words x) same (omega (arith, within, whole_length))
      (ap (words_at m a) whole_length ∙ here ∙ split.here)
      ∙ sym (split.there x typed)

pub parts_are_read : PartsAreRead
parts_are_read types h v t path known is leads m a here = part_read types h v t path known is leads m a here

pub parts_are_written : PartsAreWritten
parts_are_written types h v t path known is leads m a x within here typed = part_written types h v t path known is leads m a x within here typed
