-- The loops that put variables one behind another.
use Rattle.std.proofs.Common.{◌≡◌, ℕ, zero, suc, ◌+◌, List, [], ◌∷◌, ◌++◌, length, take, slice_get, drop, Option, Some, None, refl, sym, ap, subst, ◌∙◌, arith, append_assoc}
use Rattle.std.proofs.Math.Seq.{take-nil}
use Rattle.std.proofs.lemmas.List.Sums.{sum_by-cons}
use Rattle.std.specs.Global.{Vec}
use Rattle.std.specs.Prelude.{map, sum_by, option_to_list}
use Rattle.edi_unit.specs.declared.units.Parameter.{Parameter}
use Rattle.edi_unit.specs.declared.units.Parameter.TheVariants as slot
use Rattle.edi_unit.specs.Types.{Shape, fields_of, shape_at, size}
use Rattle.edi_unit.specs.Tree.{Block}
use Rattle.edi_unit.specs.Need.{block_at, slots, slot_words}
use Rattle.edi_scheme.specs.Pieces.{field_offset, is_address, offset, result_words}
use Rattle.edi_code.specs.Stored.{AreFields, AreVariables, item_at, stored_at, stored_from}
use Rattle.edi_code.specs.declared.stored.Stored.{Stored}

module _ (types : List Shape) where
  pub parameters_behind : (items : List Parameter) (i : ℕ) (x : Parameter) (first out after : List Stored) (at here behind : ℕ) →
      drop i items ≡ x ∷ drop (i + 1) items →
      here + sum_by (slot_words types) (drop i items) ≡ at + sum_by (slot_words types) items →
      out ++ stored_from types (drop i items) here ≡ first ++ stored_from types items at →
      behind ≡ here + slot_words types x → after ≡ out ++ record { offset = here; is_place = is_address (Some x) } ∷ [] →
      (behind + sum_by (slot_words types) (drop (i + 1) items) ≡ at + sum_by (slot_words types) items)
      × (after ++ stored_from types (drop (i + 1) items) behind ≡ first ++ stored_from types items at)
  parameters_behind items i x first out after at here behind cut room put place found =
      let rest : List Parameter = drop (i + 1) items in
      let sum : here + sum_by (slot_words types) (x ∷ rest) ≡ at + sum_by (slot_words types) items =
      subst (λ l. here + sum_by (slot_words types) l ≡ at + sum_by (slot_words types) items) cut room in
      let all : out ++ stored_from types (x ∷ rest) here ≡ first ++ stored_from types items at =
      subst (λ l. out ++ stored_from types l here ≡ first ++ stored_from types items at) cut put in
      let one : Stored = record { offset = here; is_place = is_address (Some x) } in (
        omega (arith, sum, place, sum_by-cons (slot_words types) x rest),
        (λ j. found j ++ stored_from types rest (place j)) ∙ append_assoc out (one ∷ []) (stored_from types rest (here + slot_words types x)) ∙ all,
      )

  pub declared_behind : (items : List ℕ) (i x : ℕ) (first out after : List Stored) (at here behind : ℕ) →
      drop i items ≡ x ∷ drop (i + 1) items →
      here + sum_by (size types) (drop i items) ≡ at + sum_by (size types) items →
      out ++ stored_from types (map slot.Value (drop i items)) here ≡ first ++ stored_from types (map slot.Value items) at →
      behind ≡ here + size types x → after ≡ out ++ record { offset = here; is_place = is_address (Some (slot.Value x)) } ∷ [] →
      (behind + sum_by (size types) (drop (i + 1) items) ≡ at + sum_by (size types) items)
      × (after ++ stored_from types (map slot.Value (drop (i + 1) items)) behind ≡ first ++ stored_from types (map slot.Value items) at)
  declared_behind items i x first out after at here behind cut room put place found =
      let rest : List ℕ = drop (i + 1) items in
      let sum : here + sum_by (size types) (x ∷ rest) ≡ at + sum_by (size types) items =
      subst (λ l. here + sum_by (size types) l ≡ at + sum_by (size types) items) cut room in
      let all : out ++ stored_from types (map slot.Value (x ∷ rest)) here ≡ first ++ stored_from types (map slot.Value items) at =
      subst (λ l. out ++ stored_from types (map slot.Value l) here ≡ first ++ stored_from types (map slot.Value items) at) cut put in
      let one : Stored = record { offset = here; is_place = is_address (Some (slot.Value x)) } in (
        omega (arith, sum, place, sum_by-cons (size types) x rest),
        (λ j. found j ++ stored_from types (map slot.Value rest) (place j))
            ∙ append_assoc out (one ∷ []) (stored_from types (map slot.Value rest) (here + size types x)) ∙ all,
      )

  -- slots, one list behind another
  pub stored_append : (ps qs : List Parameter) (at : ℕ) → stored_from types (ps ++ qs) at ≡ stored_from types ps at
      ++ stored_from types qs (at + sum_by (slot_words types) ps)
  stored_append [] qs at = ap (stored_from types qs) (omega arith)
  stored_append (p ∷ ps) qs at =
      ap (λ l. record { offset = at; is_place = is_address (Some p) } ∷ l)
      (stored_append ps qs (at + slot_words types p)
      ∙ ap (λ n. stored_from types ps (at + slot_words types p) ++ stored_from types qs n) (omega (arith, sum_by-cons (slot_words types) p ps)))

  result_sum : (r : Option ℕ) → sum_by (slot_words types) (map slot.Value (option_to_list r)) ≡ result_words types r
  result_sum None = refl
  result_sum (Some t) = omega (arith, sum_by-cons (slot_words types) (slot.Value t) [])

  -- the slots of a block: its result, its parameters, its declared variables
  pub slots_stored : (r : Option ℕ) (ps : List Parameter) (vs : List ℕ) (first one two three : List Stored) (offset middle : ℕ) → first ≡ [] →
      one ≡ first ++ stored_from types (map slot.Value (option_to_list r)) 5 → offset ≡ 5 + result_words types r →
      two ≡ one ++ stored_from types ps offset → middle ≡ offset + sum_by (slot_words types) ps →
      three ≡ two ++ stored_from types (map slot.Value vs) middle →
      three ≡ stored_from types (map slot.Value (option_to_list r) ++ (ps ++ map slot.Value vs)) 5
  slots_stored r ps vs first one two three offset middle none a i b j c =
      let here : offset ≡ 5 + sum_by (slot_words types) (map slot.Value (option_to_list r)) = omega (arith, i, result_sum r) in
      let result : one ≡ stored_from types (map slot.Value (option_to_list r)) 5 =
      a ∙ ap (λ l. l ++ stored_from types (map slot.Value (option_to_list r)) 5) none in
      c ∙ (λ k. b k ++ stored_from types (map slot.Value vs) (j k))
      ∙ append_assoc one (stored_from types ps offset) (stored_from types (map slot.Value vs) (offset + sum_by (slot_words types) ps))
      ∙ ap (λ l. one ++ l) (sym (stored_append ps (map slot.Value vs) offset))
      ∙ (λ k. result k ++ stored_from types (ps ++ map slot.Value vs) (here k))
      ∙ sym (stored_append (map slot.Value (option_to_list r)) (ps ++ map slot.Value vs) 5)

-- the variable with a number
pub stored_some : (types : List Shape) (ps : List Parameter) (at v : ℕ) (x : Stored) → slice_get (stored_from types ps at) v ≡ Some x →
    (x.offset ≡ at + sum_by (slot_words types) (take v ps)) × (x.is_place ≡ is_address (slice_get ps v))
stored_some types [] at v x e = absurd (cc)
stored_some types (p ∷ ps) at zero x e =
    let same : record { offset = at; is_place = is_address (Some p) } ≡ x = some_stored e in
    (ap (λ (y : Stored). y.offset) (sym same) ∙ omega arith, ap (λ (y : Stored). y.is_place) (sym same))
  where
    some_stored : {a b : Stored} → Some a ≡ Some b → a ≡ b
    some_stored e = cc
stored_some types (p ∷ ps) at (suc v) x e =
    let r = stored_some types ps (at + slot_words types p) v x e in
    (r.0 ∙ omega (arith, sum_by-cons (slot_words types) p (take v ps)), r.1)

pub stored_none : (types : List Shape) (ps : List Parameter) (at v : ℕ) → slice_get (stored_from types ps at) v ≡ None → slice_get ps v ≡ None
stored_none types [] at v e = refl
stored_none types (p ∷ ps) at zero e = absurd (cc)
stored_none types (p ∷ ps) at (suc v) e = stored_none types ps (at + slot_words types p) v e

-- one item more, of which the same is true
pub each_more : {A : Type 0} (P : ℕ → A → Type 0) (xs : List A) (v : A) → ((b : ℕ) (x : A) → slice_get xs b ≡ Some x → P b x) → P (length xs) v →
    (b : ℕ) (x : A) → slice_get (xs ++ v ∷ []) b ≡ Some x → P b x
each_more P [] v h p zero x e = subst (P zero) (some_same e) p
  where
    some_same : {B : Type 0} {a b : B} → Some a ≡ Some b → a ≡ b
    some_same e = cc
each_more P [] v h p (suc b) x e = absurd (cc)
each_more P (y ∷ xs) v h p zero x e = h zero x e
each_more P (y ∷ xs) v h p (suc b) x e = each_more (λ n. P (suc n)) xs v (λ b x e. h (suc b) x e) p b x e

-- ---- rows, one for each block or type

module _ (types : List Shape) where
  -- the row of one block more
  pub variables_more : (blocks : List Block) (rows : List (Vec Stored)) (row : Vec Stored) (b : ℕ) → AreVariables types blocks rows → length rows ≡ b →
      row.items ≡ stored_from types (slots (block_at blocks b)) 5 → AreVariables types blocks (rows ++ row ∷ [])
  variables_more blocks rows row b known many one = record {
    each = each_more (λ n (r : Vec Stored). r.items ≡ stored_from types (slots (block_at blocks n)) 5) rows row known.each
        (subst (λ n. row.items ≡ stored_from types (slots (block_at blocks n)) 5) (sym many) one);
  }

  -- the row of one type more
  pub fields_more : (rows : List (Vec Stored)) (row : Vec Stored) (t : ℕ) → AreFields types rows → length rows ≡ t →
      row.items ≡ stored_from types (map slot.Value (fields_of (shape_at types t))) 0 → AreFields types (rows ++ row ∷ [])
  fields_more rows row t known many one = record {
    each = each_more (λ n (r : Vec Stored). r.items ≡ stored_from types (map slot.Value (fields_of (shape_at types n))) 0) rows row known.each
        (subst (λ n. row.items ≡ stored_from types (map slot.Value (fields_of (shape_at types n))) 0) (sym many) one);
  }

  pub no_variables : (blocks : List Block) → AreVariables types blocks []
  no_variables blocks = record { each = λ b row e. absurd (cc) }

  pub no_fields : AreFields types []
  no_fields = record { each = λ t row e. absurd (cc) }

  -- what a row has at an index
  in_row : (row : Option (Vec Stored)) (ps : List Parameter) (at i : ℕ) (x : Stored) → ((r : Vec Stored) → row ≡ Some r → r.items ≡ stored_from types ps at) →
      item_at row i ≡ Some x → x.offset ≡ at + sum_by (slot_words types) (take i ps)
  in_row None ps at i x known e = absurd (cc)
  in_row (Some r) ps at i x known e = (stored_some types ps at i x (ap (λ l. slice_get l i) (sym (known r refl)) ∙ e)).0

  -- a variable that has its place in a row stands there
  pub variable_stored : (blocks : List Block) (rows : List (Vec Stored)) (b v : ℕ) (x : Stored) → AreVariables types blocks rows →
      stored_at rows b v ≡ Some x → x.offset ≡ offset types (block_at blocks b) v
  variable_stored blocks rows b v x known e = in_row (slice_get rows b) (slots (block_at blocks b)) 5 v x (known.each b) e

  -- fields have the words of variables of their types
  fields_sum : (ts : List ℕ) (n : ℕ) → sum_by (slot_words types) (take n (map slot.Value ts)) ≡ sum_by (size types) (take n ts)
  fields_sum [] n = omega (arith, ap (sum_by (slot_words types)) (take-nil n), ap (sum_by (size types)) (take-nil n))
  fields_sum (t ∷ ts) zero = refl
  fields_sum (t ∷ ts) (suc n) =
      omega (
        arith,
        sum_by-cons (slot_words types) (slot.Value t) (take n (map slot.Value ts)),
        sum_by-cons (size types) t (take n ts),
        fields_sum ts n,
      )

  -- so does a field
  pub field_stored : (rows : List (Vec Stored)) (t n : ℕ) (x : Stored) → AreFields types rows → stored_at rows t n ≡ Some x →
      x.offset ≡ field_offset types t n
  field_stored rows t n x known e =
      let there = in_row (slice_get rows t) (map slot.Value (fields_of (shape_at types t))) 0 n x (known.each t) e in
      omega (arith, there, fields_sum (fields_of (shape_at types t)) n)
