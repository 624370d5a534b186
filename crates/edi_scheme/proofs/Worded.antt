-- The numbers in the code of a unit that fits are words.
use Rattle.std.proofs.Common.{◌≡◌, ℕ, zero, suc, ◌+◌, ◌-◌, ◌^◌, ◌<◌, ◌≤◌, ℤ, pos, negsuc, Bool, true, false, if◌then◌else◌, FitsSigned, List, [], ◌∷◌, ◌++◌}
use Rattle.std.proofs.Common.{length, map, take, All, Option, Some, None, IfSome, refl, arith, sum_by}
use Rattle.std.specs.Option.{option_map}
use Rattle.std.specs.Int.{w16}
use Rattle.std.proofs.lemmas.Bool.{ltb-true}
use Rattle.std.proofs.lemmas.List.{length-map}
use Rattle.std.proofs.lemmas.List.Sums.{sum_by-take-le}
use Rattle.edi_word.proofs.IntLaws.{unsigned-lt}
use Rattle.edi_unit.specs.declared.expressions.Operator.{Operator}
use Rattle.edi_unit.specs.declared.expressions.Operator.TheVariants as op
use Rattle.edi_unit.specs.declared.expressions.Callee.{Callee}
use Rattle.edi_unit.specs.declared.expressions.Callee.TheVariants as callee
use Rattle.edi_unit.specs.declared.units.Parameter.{Parameter}
use Rattle.edi_unit.specs.Types.{Shape, int, char, bool, enumeration, record_of, array_of, set_of, shape_at, fields_of, shape_size, is_set_shape, size}
use Rattle.edi_unit.specs.Types.{greatest_size}
use Rattle.edi_unit.specs.TypeTables.{named_types, IsTypeTable, HasOrderedBounds}
use Rattle.edi_unit.specs.Tree.{Expression, constant, load, not_of, sign_of, chain, make, convert, apply_of, Expressions, no_expression, expression_then}
use Rattle.edi_unit.specs.Tree.{link, Links, no_link, link_then, Place, place, Part, field, index, Parts, no_part, part_then, by_value, by_variable}
use Rattle.edi_unit.specs.Tree.{by_procedure, Arguments, no_argument, argument_then, Act, skip, assign, call, halt, if_act, while_act, when_act, cobegin}
use Rattle.edi_unit.specs.Tree.{Acts, no_act, act_then, Clause, clause, Clauses, no_clause, clause_then, Block}
use Rattle.edi_unit.specs.Need.{block_at, outer, slots, slot_words, slot_at, slot_type, part_type, operator_type, expression_type}
use Rattle.edi_unit.specs.Fits.{ShapesFit, ShapeFits, CalleeFits, ExpressionFits}
use Rattle.edi_unit.specs.Headings.{Heading, Formals, no_formal, value_then, variable_then, procedure_then}
use Rattle.edi_unit.specs.Fits.{ExpressionsFit, LinksFit, PlaceFits, PartFits, PartsFit, ArgumentsFit, BranchFits, ActFits, ActsFit, ClauseFits, ClausesFit}
use Rattle.edi_unit.specs.Fits.{BlockFits}
use Rattle.edi_meaning.specs.Step.{is_quiet}
use Rattle.edi_target.specs.Op as instruction
use Rattle.edi_target.specs.Op.{Instruction, Branch, words_of, branch_words, high_word, low_word, word_of_integer, is_integer}
use Rattle.edi_unit.proofs.Tables.{size-is, size-small}
use Rattle.edi_scheme.specs.Pieces.{Code, words_of_code, code_length, offset, field_offset, is_address, variable_code, element_code, on_sets, operation}
use Rattle.edi_scheme.specs.Pieces.{decision, check_code, constant_words, row_code, row_length, ClauseKind, once, repeated, released, close_code, again_code}
use Rattle.edi_scheme.specs.Lengths.{expression_length, expressions_length, members_length, links_length, place_length, parts_length, part_length}
use Rattle.edi_scheme.specs.Lengths.{arguments_length, act_length, acts_length, clause_length, clauses_length}
use Rattle.edi_scheme.specs.Code.{slot_offset, call_code, procedure_code, expression_code, expressions_code, members_code, links_code, place_code}
use Rattle.edi_scheme.specs.Code.{parts_code, part_code, arguments_code, act_code, acts_code, clause_code, clauses_code}
use Rattle.edi_scheme.specs.Laws.{HaveParts}
use Rattle.edi_scheme.specs.Lines.{IsLine, ExpressionLines, ExpressionsLines, LinksLines, PlaceLines, PartLines, PartsLines, ArgumentsLines, ActLines}
use Rattle.edi_scheme.specs.Lines.{ActsLines, ClauseLines, ClausesLines}
use Rattle.edi_scheme.proofs.Calls.{Every}
use Rattle.edi_scheme.proofs.Known as known
use Rattle.edi_scheme.proofs.Known.{ordinal_integer}

-- ---- words

abbrev pub Words : List ℕ → Type 0
Words ws = Every (λ w. w < 2 ^ 16) ws

words_append : (a b : List ℕ) → Words a → Words b → Words (a ++ b)
words_append [] b g h = h
words_append (w ∷ a) b g h = (g.0, words_append a b g.1 h)

pub data AreSmall : Code → Type 0 where
  none : AreSmall []
  small_then : {i : Instruction} {code : Code} → Words (words_of i) → AreSmall code → AreSmall (i ∷ code)

pub small_words : (code : Code) → AreSmall code → Words (words_of_code code)
small_words [] none = tt
small_words (i ∷ code) (small_then g h) = words_append (words_of i) (words_of_code code) g (small_words code h)

pub small_append : {a b : Code} → AreSmall a → AreSmall b → AreSmall (a ++ b)
small_append none h = h
small_append (small_then g gs) h = small_then g (small_append gs h)

pub small_one : {i : Instruction} → Words (words_of i) → AreSmall (i ∷ [])
small_one g = small_then g none

-- the number of an instruction, and one, two or three operands
w0 : (n : ℕ) → n < 64 → Words (n ∷ [])
w0 n h = (omega (arith, h), tt)

w1 : (n a : ℕ) → n < 64 → a < 2 ^ 16 → Words (n ∷ a ∷ [])
w1 n a h f = (omega (arith, h), (f, tt))

w2 : (n a b : ℕ) → n < 64 → a < 2 ^ 16 → b < 2 ^ 16 → Words (n ∷ a ∷ b ∷ [])
w2 n a b h f g = (omega (arith, h), (f, (g, tt)))

-- an address takes two words
high_small : (t : ℕ) → t < 2 ^ 32 → high_word t < 2 ^ 16
high_small t h = omega (arith, h)

low_small : (t : ℕ) → low_word t < 2 ^ 16
low_small t = omega arith

wt : (n t : ℕ) → n < 64 → t < 2 ^ 32 → Words (n ∷ high_word t ∷ low_word t ∷ [])
wt n t h f = (omega (arith, h), (high_small t f, (low_small t, tt)))

integer_fits : (z : ℤ) → is_integer z ≡ true → FitsSigned w16 z
integer_fits (pos n) h = let less = ltb-true n (2 ^ 15) h in grind (arith, less)
integer_fits (negsuc n) h = let less = ltb-true n (2 ^ 15) h in grind (arith, less)

integer_small : (z : ℤ) → is_integer z ≡ true → word_of_integer z < 2 ^ 16
integer_small z h = unsigned-lt z (integer_fits z h)

either_small : (test : Bool) {a b : Code} → (test ≡ true → AreSmall a) → (test ≡ false → AreSmall b) → AreSmall (if test then a else b)
either_small true g h = g refl
either_small false g h = h refl

-- ---- pieces

variable_small : (levels at : ℕ) (v : Option Parameter) → levels ≤ 64 → at < 2 ^ 16 → AreSmall (variable_code levels at v)
variable_small levels at v h k =
    small_then (w2 4 levels at (omega arith) (omega (arith, h)) k)
    (either_small (is_address v) (λ e. small_one (w1 7 1 (omega arith) (omega arith))) (λ e. none))

decision_small : (o : Operator) (behind : ℕ) → behind < 2 ^ 32 → AreSmall (decision o behind)
decision_small op.And behind h = small_one (wt 30 behind (omega arith) h)
decision_small op.Or behind h = small_one (wt 31 behind (omega arith) h)
decision_small o behind h = none

sets_small : (types : List Shape) (t : ℕ) (s i : Instruction) → Words (words_of s) → Words (words_of i) → AreSmall (on_sets types t s i)
sets_small types t s i g h = either_small (is_set_shape (shape_at types t)) (λ e. small_one g) (λ e. small_one h)

operation_small : (types : List Shape) (t : ℕ) (o : Operator) (line : ℕ) → size types t < 2 ^ 16 → IsLine line → AreSmall (operation types t o line)
operation_small types t op.Equal line h l = small_one (w1 16 _ (omega arith) h)
operation_small types t op.NotEqual line h l = small_one (w1 17 _ (omega arith) h)
operation_small types t op.Less line h l = small_one (w0 18 (omega arith))
operation_small types t op.LessOrEqual line h l = small_one (w0 19 (omega arith))
operation_small types t op.Greater line h l = small_one (w0 20 (omega arith))
operation_small types t op.GreaterOrEqual line h l = small_one (w0 21 (omega arith))
operation_small types t op.In line h l = small_one (w0 25 (omega arith))
operation_small types t op.Plus line h l = sets_small types t instruction.union (instruction.add line) (w0 22 (omega arith)) (w1 9 line (omega arith) l)
operation_small types t op.Minus line h l = sets_small types t instruction.minus (instruction.sub line) (w0 23 (omega arith)) (w1 10 line (omega arith) l)
operation_small types t op.Times line h l = sets_small types t instruction.meet (instruction.mul line) (w0 24 (omega arith)) (w1 11 line (omega arith) l)
operation_small types t op.Div line h l = small_one (w1 12 line (omega arith) l)
operation_small types t op.Mod line h l = small_one (w1 13 line (omega arith) l)
operation_small types t op.And line h l = none
operation_small types t op.Or line h l = none

-- the bounds and the line of a CHECK
bounds_small : (low high : ℤ) (line : ℕ) → is_integer low ≡ true → is_integer high ≡ true → IsLine line → Words (words_of (instruction.check low high line))
bounds_small low high line g h l = (omega arith, (integer_small low g, (integer_small high h, (l, tt))))

check_small : (types : List Shape) (s : Shape) (line : ℕ) → ShapeFits types s → IsLine line → AreSmall (check_code s line)
check_small types int line h l = none
check_small types char line h l = small_one (bounds_small (pos 0) (pos 127) line refl refl l)
check_small types bool line h l = small_one (bounds_small (pos 0) (pos 1) line refl refl l)
check_small types (enumeration n) line h l = let few = h.1 in small_one (bounds_small (pos 0) (pos (n - 1)) line refl (grind (arith, few)) l)
check_small types (record_of fs) line h l = none
check_small types (array_of i lo hi e) line h l = none
check_small types (set_of t) line h l = none

close_small : (kind : ClauseKind) (target : ℕ) (cs : Clauses) → target < 2 ^ 32 → AreSmall (close_code kind target cs)
close_small once target no_clause h = none
close_small once target (clause_then c cs) h = small_one (wt 28 target (omega arith) h)
close_small repeated target cs h = small_one (wt 32 target (omega arith) h)
close_small released target cs h = small_then (w0 41 (omega arith)) (small_one (wt 28 target (omega arith) h))

again_small : (quiet : Bool) (target : ℕ) → target < 2 ^ 32 → AreSmall (again_code quiet target)
again_small true target h = small_one (wt 44 target (omega arith) h)
again_small false target h = small_one (wt 40 target (omega arith) h)

-- ---- the constructs of a block, below a limit of addresses

module _ (types : List Shape) (table : IsTypeTable types) (parts : HaveParts types) (shapes : ShapesFit types) (blocks : List Block)
    (headings : ℕ → ℕ → Heading) (each : (n : ℕ) → n < length blocks → BlockFits types blocks headings n) (entry : ℕ → ℕ) (limit : ℕ) (limited : limit < 2 ^ 32)
    (entries : (n : ℕ) → n < length blocks → entry n ≤ limit) where
  pub size_word : (t : ℕ) → t < length types → size types t < 2 ^ 16
  size_word t h = let small = size-small types t table h in omega (arith, small)

  pub need_word : (n : ℕ) → n < length blocks → (block_at blocks n).need < 2 ^ 16
  need_word n h = let small = (each n h).small in omega (arith, small)

  -- a variable stands in its frame
  pub offset_word : (n v : ℕ) → n < length blocks → offset types (block_at blocks n) v < 2 ^ 16
  offset_word n v h =
      let small = (each n h).small in
      let is = (each n h).needs in
      let front = sum_by-take-le (slot_words types) (slots (block_at blocks n)) v in
      omega (arith, small, is, front)

  -- a field stands in its record
  fields_size : (s : Shape) (n : ℕ) → sum_by (size types) (take n (fields_of s)) ≤ shape_size (size types) s
  fields_size int zero = omega arith
  fields_size int (suc n) = omega arith
  fields_size char zero = omega arith
  fields_size char (suc n) = omega arith
  fields_size bool zero = omega arith
  fields_size bool (suc n) = omega arith
  fields_size (enumeration k) zero = omega arith
  fields_size (enumeration k) (suc n) = omega arith
  fields_size (record_of fs) n = sum_by-take-le (size types) fs n
  fields_size (array_of i lo hi e) zero = omega arith
  fields_size (array_of i lo hi e) (suc n) = omega arith
  fields_size (set_of t) zero = omega arith
  fields_size (set_of t) (suc n) = omega arith

  pub field_word : (t n : ℕ) → t < length types → field_offset types t n < 2 ^ 16
  field_word t n h =
      let small = size-small types t table h in
      omega (arith, small, size-is types t table h, fields_size (shape_at types t) n)

  module _ (b : ℕ) (inside : b < length blocks) where
    pub slot_word : (levels v : ℕ) → slot_offset types blocks entry b levels v < 2 ^ 16
    slot_word levels v = offset_word (outer blocks b levels) v (known.outer_inside types table parts blocks headings each b inside levels b inside)

    element_small : (s : Shape) (line : ℕ) → HasOrderedBounds s → ShapeFits types s → All (λ u. u < length types) (named_types s) → IsLine line
        → AreSmall (element_code types s line)
    element_small int line o f k l = none
    element_small char line o f k l = none
    element_small bool line o f k l = none
    element_small (enumeration n) line o f k l = none
    element_small (record_of fs) line o f k l = none
    element_small (set_of t) line o f k l = none
    element_small (array_of i lo hi e) line o f k l =
        let of = shapes i (k 0 0 (omega arith)) in
        let low = integer_small lo (ordinal_integer types (shape_at types i) lo of f.0) in
        let high = integer_small hi (ordinal_integer types (shape_at types i) hi of f.1) in
        small_one (omega arith, (low, (high, (size_word e (k 1 0 (omega arith)), (l, tt)))))

    call_small : (c : Callee) (line : ℕ) → CalleeFits blocks b c → IsLine line → AreSmall (call_code types blocks entry b c line)
    call_small (callee.Block levels n) line h l =
        let few = h.0 in
        let near = entries n h.1 in
        let far : entry n < 2 ^ 32 = omega (arith, near, limited) in
        small_one (omega arith, (omega (arith, few), (high_small (entry n) far, (low_small (entry n), (l, tt)))))
    call_small (callee.Formal levels v) line h l =
        let few = h.0 in small_one (omega arith, (omega (arith, few), (slot_word levels v, (l, tt))))

    procedure_small : (c : Callee) → CalleeFits blocks b c → AreSmall (procedure_code types blocks entry b c)
    procedure_small (callee.Block levels n) h =
        let few = h.0 in
        let near = entries n h.1 in
        let far : entry n < 2 ^ 32 = omega (arith, near, limited) in
        small_one (omega arith, (omega (arith, few), (high_small (entry n) far, (low_small (entry n), tt))))
    procedure_small (callee.Formal levels v) h =
        let few = h.0 in small_then (w2 4 levels _ (omega arith) (omega (arith, few)) (slot_word levels v)) (small_one (w1 7 3 (omega arith) (omega arith)))

    -- constants in a row
    abbrev RowWords : Option (List ℕ) → ℕ → Type 0
    RowWords ws n = IfSome ws (λ ws. Words ws × (length ws ≡ n))

    one_more : (w n : ℕ) (ws : Option (List ℕ)) → w < 2 ^ 16 → RowWords ws n → RowWords (option_map (λ ws. w ∷ ws) ws) (suc n)
    one_more w n None k h = tt
    one_more w n (Some ws) k h = let long = h.1 in ((k, h.0), omega (arith, long))

    constants_small : (es : Expressions) → ExpressionsFit types blocks headings b es → RowWords (constant_words es) (known.count_of es)
    constants_small no_expression h = (tt, refl)
    constants_small (expression_then (constant t n) es) h =
        one_more _ (known.count_of es) (constant_words es) (integer_small n (ordinal_integer types (shape_at types t) n (shapes t h.0.0) h.0.1)) (constants_small es h.1)
    constants_small (expression_then e es) h = tt

    row_small : (ws : Option (List ℕ)) (code : Code) (n long at : ℕ) → n ≤ greatest_size → RowWords ws n → (at + long ≤ limit → AreSmall code)
        → at + row_length ws long ≤ limit → AreSmall (row_code ws code)
    row_small None code n long at small h f k = f k
    row_small (Some ws) code n long at small h f k =
        let same = h.1 in small_one (omega arith, (omega (arith, small, same), h.0))

    -- one of two codes, with their lengths
    chosen_small : (test : Bool) {a c : Code} (m n at : ℕ) → (test ≡ true → at + m ≤ limit → AreSmall a) → (test ≡ false → at + n ≤ limit → AreSmall c)
        → at + (if test then m else n) ≤ limit → AreSmall (if test then a else c)
    chosen_small true m n at g h k = g refl k
    chosen_small false m n at g h k = h refl k

    mutual
      expression_small : (e : Expression) (at : ℕ) → ExpressionFits types blocks headings b e → ExpressionLines e → at + expression_length types blocks b e ≤
          limit → AreSmall (expression_code types blocks entry b at e)
      expression_small (constant t n) at h l k = small_one
          (w1 1 _ (omega arith) (integer_small n (ordinal_integer types (shape_at types t) n (shapes t h.0) h.1)))
      expression_small (load p) at h l k =
          small_append (place_small p at h l (omega (arith, k)))
          (small_one (w1 7 _ (omega arith) (size_word _ (known.place_known types table parts blocks headings each b inside p h))))
      expression_small (not_of e) at h l k = small_append (expression_small e at h.1 l (omega (arith, k))) (small_one (w0 15 (omega arith)))
      expression_small (sign_of e line) at h l k = small_append (expression_small e at h.1 l.1 (omega (arith, k))) (small_one (w1 14 line (omega arith) l.0))
      expression_small (chain e ls) at h l k =
          small_append (expression_small e at h.1 l.0 (omega (arith, k)))
          (links_small (expression_type types blocks b e) ls _ (known.expression_known types table parts blocks headings each b inside e h.1) h.2 l.1
          (omega (arith, k)))
      expression_small (make t es line) at h l k =
          chosen_small (is_set_shape (shape_at types t)) (2 + members_length types blocks b es)
          (row_length (constant_words es) (expressions_length types blocks b es)) at
          (λ q k. small_then (w1 3 8 (omega arith) (omega arith)) (members_small line es (at + 2) h.2 l.0 l.1 (omega (arith, k))))
          (λ q k.
          row_small (constant_words es) _ (known.count_of es) (expressions_length types blocks b es) at
          (known.parts_count types table parts blocks headings each b inside t es h.0 q h.1).1 (constants_small es h.2) (expressions_small es at h.2 l.1) k)
          k
      expression_small (convert t e line) at h l k =
          small_append (expression_small e at h.3 l.1 (omega (arith, k))) (check_small types (shape_at types t) line (shapes t h.0) l.0)
      expression_small (apply_of c xs line) at h l k =
          small_append (arguments_small xs _ at h.2 l.1 (omega (arith, k))) (call_small c line h.0 l.0)

      expressions_small : (es : Expressions) (at : ℕ) → ExpressionsFit types blocks headings b es → ExpressionsLines es → at + expressions_length types blocks
          b es ≤ limit → AreSmall (expressions_code types blocks entry b at es)
      expressions_small no_expression at h l k = none
      expressions_small (expression_then e es) at h l k =
          small_append (expression_small e at h.0 l.0 (omega (arith, k))) (expressions_small es _ h.1 l.1 (omega (arith, k)))

      members_small : (line : ℕ) (es : Expressions) (at : ℕ) → ExpressionsFit types blocks headings b es → IsLine line → ExpressionsLines es
          → at + members_length types blocks b es ≤ limit → AreSmall (members_code types blocks entry b at line es)
      members_small line no_expression at h i l k = none
      members_small line (expression_then e es) at h i l k =
          small_append (expression_small e at h.0 l.0 (omega (arith, k)))
          (small_then (w1 26 line (omega arith) i) (members_small line es _ h.1 i l.1 (omega (arith, k))))

      links_small : (t : ℕ) (ls : Links) (at : ℕ) → t < length types → LinksFit types blocks headings b t ls → LinksLines ls → at + links_length types blocks
          b t ls ≤ limit → AreSmall (links_code types blocks entry b at t ls)
      links_small t no_link at i h l k = none
      links_small t (link_then (link o e line) ls) at i h l k =
          let right = at + code_length (decision o 0) in
          let behind = right + expression_length types blocks b e + code_length (operation types t o line) in
          small_append (decision_small o behind (omega (arith, k, limited)))
          (small_append (expression_small e right h.1 l.1 (omega (arith, k)))
          (small_append (operation_small types t o line (size_word t i) l.0)
          (links_small (operator_type o t) ls behind (known.operator_known types table parts o t i) h.2 l.2 (omega (arith, k)))))

      place_small : (p : Place) (at : ℕ) → PlaceFits types blocks headings b p → PlaceLines p → at + place_length types blocks b p ≤ limit
          → AreSmall (place_code types blocks entry b at p)
      place_small (place levels v ps) at h l k =
          small_append (variable_small levels _ (slot_at blocks b levels v) h.0 (slot_word levels v))
          (parts_small (slot_type (slot_at blocks b levels v)) ps _ (known.root_known types table parts blocks headings each b inside levels v h.1) h.2 l
          (omega (arith, k)))

      parts_small : (t : ℕ) (ps : Parts) (at : ℕ) → t < length types → PartsFit types blocks headings b t ps → PartsLines ps → at + parts_length types blocks
          b t ps ≤ limit → AreSmall (parts_code types blocks entry b at t ps)
      parts_small t no_part at i h l k = none
      parts_small t (part_then p ps) at i h l k =
          small_append (part_small t p at i h.0 l.0 (omega (arith, k)))
          (parts_small (part_type types t p) ps _ (known.part_known types table parts blocks headings each b inside t p i) h.1 l.1 (omega (arith, k)))

      part_small : (t : ℕ) (p : Part) (at : ℕ) → t < length types → PartFits types blocks headings b t p → PartLines p → at + part_length types blocks b t p ≤
          limit → AreSmall (part_code types blocks entry b at t p)
      part_small t (field n) at i h l k = small_one (w1 5 _ (omega arith) (field_word t n i))
      part_small t (index e line) at i h l k =
          small_append (expression_small e at h.1 l.1 (omega (arith, k)))
          (element_small (shape_at types t) line (table.declared t i).ordered (shapes t i) (known.names_known types table parts t i) l.0)

      arguments_small : (xs : Arguments) (fs : Formals) (at : ℕ) → ArgumentsFit types blocks headings b xs fs → ArgumentsLines xs
          → at + arguments_length types blocks b xs ≤ limit → AreSmall (arguments_code types blocks entry b at xs)
      arguments_small no_argument fs at h l k = none
      arguments_small (argument_then (by_value e) xs) (value_then t fs) at h l k =
          small_append (expression_small e at h.1 l.0 (omega (arith, k))) (arguments_small xs fs _ h.2 l.1 (omega (arith, k)))
      arguments_small (argument_then (by_variable p) xs) (variable_then t fs) at h l k =
          small_append (place_small p at h.1 l.0 (omega (arith, k))) (arguments_small xs fs _ h.2 l.1 (omega (arith, k)))
      arguments_small (argument_then (by_procedure c) xs) (procedure_then hd fs) at h l k =
          small_append (procedure_small c h.1) (arguments_small xs fs _ h.2 l.1 (omega (arith, k)))
      arguments_small (argument_then (by_value e) xs) no_formal at h l k = absurd h
      arguments_small (argument_then (by_value e) xs) (variable_then t fs) at h l k = absurd h
      arguments_small (argument_then (by_value e) xs) (procedure_then hd fs) at h l k = absurd h
      arguments_small (argument_then (by_variable p) xs) no_formal at h l k = absurd h
      arguments_small (argument_then (by_variable p) xs) (value_then t fs) at h l k = absurd h
      arguments_small (argument_then (by_variable p) xs) (procedure_then hd fs) at h l k = absurd h
      arguments_small (argument_then (by_procedure c) xs) no_formal at h l k = absurd h
      arguments_small (argument_then (by_procedure c) xs) (value_then t fs) at h l k = absurd h
      arguments_small (argument_then (by_procedure c) xs) (variable_then t fs) at h l k = absurd h

    branches_small : (bs : List ℕ) → All (BranchFits types blocks headings b) bs
        → Words (branch_words (map (λ n. record { need = (block_at blocks n).need; address = entry n }) bs))
    branches_small [] h = tt
    branches_small (n ∷ bs) h =
        let there = (h 0 n (omega arith)).0 in
        let near = entries n there in
        let far : entry n < 2 ^ 32 = omega (arith, near, limited) in
        (need_word n there, (high_small (entry n) far, (low_small (entry n), branches_small bs (λ i d l. h (suc i) d (omega (arith, l))))))

    mutual
      act_small : (s : Act) (at : ℕ) → ActFits types blocks headings b s → ActLines s → at + act_length types blocks b s ≤ limit
          → AreSmall (act_code types blocks entry b at s)
      act_small skip at h l k = none
      act_small (assign p e) at h l k =
          small_append (place_small p at h.1 l.0 (omega (arith, k)))
          (small_append (expression_small e _ h.2 l.1 (omega (arith, k)))
          (small_one (w1 8 _ (omega arith) (size_word _ (known.place_known types table parts blocks headings each b inside p h.1)))))
      act_small (call c xs line) at h l k = small_append (arguments_small xs _ at h.2 l.1 (omega (arith, k))) (call_small c line h.0 l.0)
      act_small (halt line) at h l k = small_one (w1 38 line (omega arith) l)
      act_small (if_act cs) at h l k = clauses_small once cs _ at h l (omega (arith, k, limited)) k
      act_small (while_act cs) at h l k = clauses_small repeated cs at at h l (omega (arith, k, limited)) k
      act_small (when_act cs line) at h l k =
          small_then (w1 39 line (omega arith) l.0)
          (small_append (clauses_small released cs _ _ h l.1 (omega (arith, k, limited)) (omega (arith, k)))
          (again_small (is_quiet cs) _ (omega (arith, k, limited))))
      act_small (cobegin bs line) at h l k =
          let branch : ℕ → Branch = λ n. record { need = (block_at blocks n).need; address = entry n } in
          let long = length-map bs branch in
          let few = h.1 in
          small_one (omega arith, (omega (arith, long, few), (l, branches_small bs h.2)))

      pub acts_small : (s : Acts) (at : ℕ) → ActsFit types blocks headings b s → ActsLines s → at + acts_length types blocks b s ≤ limit
          → AreSmall (acts_code types blocks entry b at s)
      acts_small no_act at h l k = none
      acts_small (act_then s ss) at h l k = small_append (act_small s at h.0 l.0 (omega (arith, k))) (acts_small ss _ h.1 l.1 (omega (arith, k)))

      clause_small : (c : Clause) (next at : ℕ) → ClauseFits types blocks headings b c → ClauseLines c → next < 2 ^ 32 → at + clause_length types blocks b c ≤
          limit → AreSmall (clause_code types blocks entry b at next c)
      clause_small (clause e s) next at h l i k =
          small_append (expression_small e at h.1 l.0 (omega (arith, k))) (small_then (wt 29 next (omega arith) i) (acts_small s _ h.2 l.1 (omega (arith, k))))

      clauses_small : (kind : ClauseKind) (cs : Clauses) (target at : ℕ) → ClausesFit types blocks headings b cs → ClausesLines cs → target < 2 ^ 32
          → at + clauses_length types blocks b kind cs ≤ limit → AreSmall (clauses_code types blocks entry b kind target at cs)
      clauses_small kind no_clause target at h l i k = none
      clauses_small kind (clause_then c cs) target at h l i k =
          small_append (clause_small c _ at h.0 l.0 (omega (arith, k, limited)) (omega (arith, k)))
          (small_append (close_small kind target cs i) (clauses_small kind cs target _ h.1 l.1 i (omega (arith, k))))
