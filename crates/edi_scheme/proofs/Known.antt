-- What a unit that fits names: types of at least one word and at most 65,535, and blocks that need at least five.
use Rattle.std.proofs.Common.{◌≡◌, ℕ, zero, suc, ◌+◌, ◌<◌, ◌≤◌, ℤ, pos, negsuc, ◌+ℤ◌, ◌-ℤ◌, ◌≤ℤ◌, true, false, List, [], ◌∷◌, ◌++◌, length, map, All, Option}
use Rattle.std.proofs.Common.{Some, None, IsTrue, IfSome, refl, sym, ap, ◌∙◌, arith, replicate, sum_by, option_map, option_to_list}
use Rattle.std.proofs.lemmas.Bool.{false≢true}
use Rattle.std.proofs.lemmas.List.{length-replicate}
use Rattle.std.proofs.lemmas.List.Sums.{sum_by-cons, sum_by-append}
use Rattle.std.proofs.Math.Nat.{le-mul_of_pos_right}
use Rattle.edi_unit.specs.declared.expressions.Operator.{Operator}
use Rattle.edi_unit.specs.declared.expressions.Callee.{Callee}
use Rattle.edi_unit.specs.declared.expressions.Callee.TheVariants as callee
use Rattle.edi_unit.specs.declared.units.Parameter.TheVariants as slot
use Rattle.edi_unit.specs.Types.{Shape, int, char, bool, enumeration, record_of, array_of, set_of, shape_at, is_ordinal_of, natural, element_count}
use Rattle.edi_unit.specs.Types.{shape_size, size, is_set_shape, greatest_size}
use Rattle.edi_unit.specs.TypeTables.{named_types, IsTypeTable, HasOrderedBounds}
use Rattle.edi_unit.specs.Tree.{Expression, constant, load, not_of, sign_of, chain, make, convert, apply_of, Expressions, no_expression, expression_then}
use Rattle.edi_unit.specs.Tree.{link, Links, no_link, link_then, Place, place, Part, field, index, Parts, no_part, part_then, Block}
use Rattle.edi_unit.specs.Need.{block_at, outer, slots, slot_at, slot_type, slot_words, part_type, parts_type, operator_type, links_type, callee_result}
use Rattle.edi_unit.specs.Need.{place_type, expression_type, variable_words}
use Rattle.edi_unit.specs.Fits.{ShapeFits, is_variable, CalleeFits, HaveTypes, MakesValue, ExpressionFits, PlaceFits, SlotIsKnown, BlockFits}
use Rattle.edi_unit.specs.Headings.{Heading}
pub use Rattle.edi_unit.proofs.Known.{all_some}
use Rattle.edi_unit.proofs.Known as unit
use Rattle.edi_unit.proofs.Tables.{size-is, size-small, length-before}
use Rattle.edi_target.specs.Op.{is_integer}
use Rattle.edi_scheme.specs.Pieces.{constant_words, result_words}
use Rattle.edi_scheme.specs.Laws.{HasPart, HaveParts}

-- ---- lists

-- a sum of positive numbers is at least their number
at_least_one : (f : ℕ → ℕ) (ts : List ℕ) → All (λ t. 1 ≤ f t) ts → length ts ≤ sum_by f ts
at_least_one f [] all = omega arith
at_least_one f (t ∷ ts) all =
    let first = all 0 0 (omega arith) in
    omega (arith, first, sum_by-cons f t ts, at_least_one f ts (λ k d h. all (suc k) d (omega arith)))

-- ---- ordinals

natural_positive : (z : ℤ) → pos 1 ≤ℤ z → 1 ≤ natural z
natural_positive (pos n) h = grind (arith, h)
natural_positive (negsuc n) h = grind (arith, h)

some_elements : (lo hi : ℤ) → lo ≤ℤ hi → 1 ≤ element_count lo hi
some_elements lo hi h = natural_positive ((hi -ℤ lo) +ℤ pos 1) (grind (arith, h))

-- each ordinal of a type is one of `int`
pub ordinal_integer : (types : List Shape) (s : Shape) (n : ℤ) → ShapeFits types s → IsTrue (is_ordinal_of s n) → is_integer n ≡ true
ordinal_integer types int (pos n) f h = grind (arith, h)
ordinal_integer types int (negsuc n) f h = grind (arith, h)
ordinal_integer types char (pos n) f h = grind (arith, h)
ordinal_integer types char (negsuc n) f h = grind (arith, h)
ordinal_integer types bool (pos n) f h = grind (arith, h)
ordinal_integer types bool (negsuc n) f h = grind (arith, h)
ordinal_integer types (enumeration k) (pos n) f h = let few = f.1 in grind (arith, h, few)
ordinal_integer types (enumeration k) (negsuc n) f h = grind (arith, h)
ordinal_integer types (record_of fs) n f h = absurd (false≢true h)
ordinal_integer types (array_of i lo hi e) n f h = absurd (false≢true h)
ordinal_integer types (set_of t) n f h = absurd (false≢true h)

-- ---- rows of constants

abbrev pub count_of : Expressions → ℕ
count_of no_expression = 0
count_of (expression_then e es) = suc (count_of es)

one_more : (w n : ℕ) (ws : Option (List ℕ)) → IfSome ws (λ ws. length ws ≡ n) → IfSome (option_map (λ ws. w ∷ ws) ws) (λ ws. length ws ≡ suc n)
one_more w n None h = tt
one_more w n (Some ws) h = omega (arith, h)

pub constants_count : (es : Expressions) → IfSome (constant_words es) (λ ws. length ws ≡ count_of es)
constants_count no_expression = refl
constants_count (expression_then (constant t n) es) = one_more _ (count_of es) (constant_words es) (constants_count es)
constants_count (expression_then e es) = tt

-- ---- blocks

module _ (types : List Shape) where
  sum_values : (ts : List ℕ) → sum_by (slot_words types) (map slot.Value ts) ≡ sum_by (size types) ts
  sum_values [] = refl
  sum_values (t ∷ ts) = sum_by-cons (slot_words types) (slot.Value t) (map slot.Value ts) ∙ ap (λ n. size types t + n) (sum_values ts)
      ∙ sym (sum_by-cons (size types) t ts)

  sum_result : (r : Option ℕ) → sum_by (slot_words types) (map slot.Value (option_to_list r)) ≡ result_words types r
  sum_result None = refl
  sum_result (Some t) = omega (arith, sum_by-cons (slot_words types) (slot.Value t) [])

  -- the words of the variables are those of the result, of the parameters and of the declared ones
  pub words_sum : (block : Block) → variable_words types block ≡ result_words types block.result + sum_by (slot_words types) block.parameters + sum_by
      (size types) block.variables
  words_sum block =
      omega (
        arith,
        sum_by-append (slot_words types) (map slot.Value (option_to_list block.result)) (block.parameters ++ map slot.Value block.variables),
        sum_by-append (slot_words types) block.parameters (map slot.Value block.variables),
        sum_values block.variables,
        sum_result block.result,
      )

-- ---- types

module _ (types : List Shape) (table : IsTypeTable types) (parts : HaveParts types) where
  -- a type names earlier types
  named_before : (t : ℕ) → t < length types → All (λ u. u < t) (named_types (shape_at types t))
  named_before t h = λ k d i.
      let below = (table.declared t h).known k d i in
      let long = length-before types t h in
      omega (arith, below, long)

  pub names_known : (t : ℕ) → t < length types → All (λ u. u < length types) (named_types (shape_at types t))
  names_known t h = λ k d i. let before = named_before t h k d i in omega (arith, before, h)

  shape_positive : (s : Shape) → HasPart s → HasOrderedBounds s → All (λ u. 1 ≤ size types u) (named_types s) → 1 ≤ shape_size (size types) s
  shape_positive int p o all = omega arith
  shape_positive char p o all = omega arith
  shape_positive bool p o all = omega arith
  shape_positive (enumeration k) p o all = omega arith
  shape_positive (record_of fs) p o all = omega (arith, p, at_least_one (size types) fs all)
  shape_positive (array_of i lo hi e) p o all =
      let some = some_elements lo hi o in
      let one = all 1 0 (omega arith) in
      omega (arith, some, le-mul_of_pos_right (element_count lo hi) one)
  shape_positive (set_of t) p o all = omega arith

  positive_below : (n t : ℕ) → t < n → t < length types → 1 ≤ size types t
  positive_below zero t less h = absurd (omega (arith, less))
  positive_below (suc n) t less h =
      let named : All (λ u. 1 ≤ size types u) (named_types (shape_at types t)) = λ k d i.
      let before = named_before t h k d i in
      positive_below n _ (omega (arith, before, less)) (omega (arith, before, h)) in
      let shape = shape_positive (shape_at types t) (parts t h) (table.declared t h).ordered named in
      omega (arith, size-is types t table h, shape)

  -- a value takes at least one word
  pub size_positive : (t : ℕ) → t < length types → 1 ≤ size types t
  size_positive t h = positive_below (suc t) t (omega arith) h

  pub operator_known : (o : Operator) (t : ℕ) → t < length types → operator_type o t < length types
  operator_known o t h = unit.operator_known types table.three o t h

  -- ---- expressions of a block

  module _ (blocks : List Block) (headings : ℕ → ℕ → Heading) (each : (n : ℕ) → n < length blocks → BlockFits types blocks headings n) (b : ℕ)
      (inside : b < length blocks) where
    up_inside : (n : ℕ) → n < length blocks → (block_at blocks n).up < length blocks
    up_inside zero h = let up = (each 0 h).outermost refl in omega (arith, up, h)
    up_inside (suc n) h = let up = (each (suc n) h).inner (omega arith) in omega (arith, up, h)

    pub outer_inside : (levels n : ℕ) → n < length blocks → outer blocks n levels < length blocks
    outer_inside zero n h = h
    outer_inside (suc levels) n h = outer_inside levels (block_at blocks n).up (up_inside n h)

    pub slot_known : (levels v : ℕ) → IfSome (slot_at blocks b levels v) (SlotIsKnown types)
    slot_known levels v =
        all_some (SlotIsKnown types) (slots (block_at blocks (outer blocks b levels))) v (each _ (outer_inside levels b inside)).known

    result_known : (c : Callee) → CalleeFits blocks b c → IfSome (callee_result blocks b c) (λ t. t < length types)
    result_known (callee.Block levels n) h = unit.first_known types (block_at blocks n).result _ (each n h.1).known
    result_known (callee.Formal levels v) h = unit.formal_known types (slot_at blocks b levels v) (slot_known levels v)

    pub part_known : (t : ℕ) (p : Part) → t < length types → part_type types t p < length types
    part_known t (field n) h = unit.field_known types table.three (shape_at types t) n (names_known t h)
    part_known t (index e line) h = unit.element_known types table.three (shape_at types t) (names_known t h)

    parts_known : (t : ℕ) (ps : Parts) → t < length types → parts_type types t ps < length types
    parts_known t no_part h = h
    parts_known t (part_then p ps) h = parts_known (part_type types t p) ps (part_known t p h)

    pub root_known : (levels v : ℕ) → IsTrue (is_variable (slot_at blocks b levels v)) → slot_type (slot_at blocks b levels v) < length types
    root_known levels v h = unit.type_known types (slot_at blocks b levels v) h (slot_known levels v)

    pub place_known : (p : Place) → PlaceFits types blocks headings b p → place_type types blocks b p < length types
    place_known (place levels v ps) h = parts_known (slot_type (slot_at blocks b levels v)) ps (root_known levels v h.1)

    links_known : (t : ℕ) (ls : Links) → t < length types → links_type t ls < length types
    links_known t no_link h = h
    links_known t (link_then (link o e line) ls) h = links_known (operator_type o t) ls (operator_known o t h)

    pub expression_known : (e : Expression) → ExpressionFits types blocks headings b e → expression_type types blocks b e < length types
    expression_known (constant t n) h = h.0
    expression_known (load p) h = place_known p h
    expression_known (not_of e) h = unit.standard_known types table.three 2 (omega arith)
    expression_known (sign_of e line) h = unit.standard_known types table.three 0 (omega arith)
    expression_known (chain e ls) h = links_known (expression_type types blocks b e) ls (expression_known e h.1)
    expression_known (make t es line) h = h.0
    expression_known (convert t e line) h = h.0
    expression_known (apply_of c xs line) h = unit.found_known types table.three (callee_result blocks b c) (result_known c h.0)

    -- ---- the parts of a record or an array

    count_types : (es : Expressions) (ts : List ℕ) → HaveTypes types blocks headings b es ts → count_of es ≡ length ts
    count_types no_expression [] h = refl
    count_types no_expression (t ∷ ts) h = absurd h
    count_types (expression_then e es) [] h = absurd h
    count_types (expression_then e es) (t ∷ ts) h = omega (arith, count_types es ts h.1)

    -- they are at least one, and no more than the words of the value
    shape_count : (s : Shape) (es : Expressions) → is_set_shape s ≡ false → HasPart s → HasOrderedBounds s → All (λ u. u < length types) (named_types s)
        → MakesValue types blocks headings b s es → (1 ≤ count_of es) × (count_of es ≤ shape_size (size types) s)
    shape_count int es q p o all h = absurd h
    shape_count char es q p o all h = absurd h
    shape_count bool es q p o all h = absurd h
    shape_count (enumeration k) es q p o all h = absurd h
    shape_count (record_of fs) es q p o all h =
        let count = count_types es fs h in
        let sizes = at_least_one (size types) fs (λ k d i. size_positive _ (all k d i)) in
        (omega (arith, count, p), omega (arith, count, sizes))
    shape_count (array_of i lo hi e) es q p o all h =
        let count = count_types es (replicate (element_count lo hi) e) h in
        let long = length-replicate {A = ℕ} (element_count lo hi) e in
        let some = some_elements lo hi o in
        let one = size_positive e (all 1 0 (omega arith)) in
        (omega (arith, count, long, some), omega (arith, count, long, le-mul_of_pos_right (element_count lo hi) one))
    shape_count (set_of t) es q p o all h = absurd (false≢true (sym q))

    pub parts_count : (t : ℕ) (es : Expressions) → t < length types → is_set_shape (shape_at types t) ≡ false → MakesValue types blocks headings b
        (shape_at types t) es → (1 ≤ count_of es) × (count_of es ≤ greatest_size)
    parts_count t es h q m =
        let n = shape_count (shape_at types t) es q (parts t h) (table.declared t h).ordered (names_known t h) m in
        let same = size-is types t table h in
        let small = size-small types t table h in
        (n.0, omega (arith, n.1, same, small))
