-- What stands in a table of types, and what variables and operators name there, is a type of the table.
use Rattle.std.proofs.Common.{ℕ, zero, suc, ◌<◌, ◌≤◌, List, [], ◌∷◌, ◌++◌, length, map, All, Option, Some, None, IsTrue, IfSome, unwrap_or, arith}
use Rattle.std.specs.Prelude.{slice_get, option_to_list}
use Rattle.std.proofs.lemmas.Bool.{false≢true}
use Rattle.edi_unit.specs.declared.expressions.Operator.{Operator}
use Rattle.edi_unit.specs.declared.expressions.Operator.TheVariants as op
use Rattle.edi_unit.specs.declared.units.Parameter.{Parameter}
use Rattle.edi_unit.specs.declared.units.Parameter.TheVariants as slot
use Rattle.edi_unit.specs.Types.{Shape, record_of, array_of, shape_at, int_type, fields_of}
use Rattle.edi_unit.specs.TypeTables.{named_types, AreDeclared}
use Rattle.edi_unit.specs.Need.{slot_type, slot_result, element_type, operator_type}
use Rattle.edi_unit.specs.Fits.{is_variable, SlotIsKnown}
use Rattle.edi_unit.proofs.Tables.{length-before}

pub all_some : {X : Type 0} (P : X → Type 0) (xs : List X) (v : ℕ) → All P xs → IfSome (slice_get xs v) P
all_some P [] v all = tt
all_some P (x ∷ xs) zero all = all 0 x (omega arith)
all_some P (x ∷ xs) (suc v) all = all_some P xs v (λ k d h. all (suc k) d (omega arith))

module _ (types : List Shape) where
  pub type_known : (o : Option Parameter) → IsTrue (is_variable o) → IfSome o (SlotIsKnown types) → slot_type o < length types
  type_known None h k = absurd (false≢true h)
  type_known (Some (slot.Value t)) h k = k
  type_known (Some (slot.Var t)) h k = k
  type_known (Some (slot.Formal r)) h k = absurd (false≢true h)

  pub formal_known : (o : Option Parameter) → IfSome o (SlotIsKnown types) → IfSome (slot_result o) (λ t. t < length types)
  formal_known None k = tt
  formal_known (Some (slot.Value t)) k = tt
  formal_known (Some (slot.Var t)) k = tt
  formal_known (Some (slot.Formal None)) k = tt
  formal_known (Some (slot.Formal (Some t))) k = k

  pub first_known : (r : Option ℕ) (rest : List Parameter) → All (SlotIsKnown types) (map slot.Value (option_to_list r) ++ rest)
      → IfSome r (λ t. t < length types)
  first_known None rest k = tt
  first_known (Some t) rest k = k 0 (slot.Value t) (omega arith)

  pub names_known : AreDeclared types → (t : ℕ) → t < length types → All (λ u. u < length types) (named_types (shape_at types t))
  names_known declared t h = λ k d i.
      let below = (declared t h).known k d i in
      let long = length-before types t h in
      omega (arith, below, long, h)

  module _ (three : 3 ≤ length types) where
    pub standard_known : (t : ℕ) → t ≤ 2 → t < length types
    standard_known t h = omega (arith, h, three)

    pub element_known : (s : Shape) → All (λ u. u < length types) (named_types s) → element_type s < length types
    element_known (array_of i lo hi e) h = h 1 0 (omega arith)
    element_known s h = standard_known 0 (omega arith)

    pub found_known : (o : Option ℕ) → IfSome o (λ u. u < length types) → unwrap_or o int_type < length types
    found_known None h = standard_known 0 (omega arith)
    found_known (Some t) h = h

    pub field_known : (s : Shape) (n : ℕ) → All (λ u. u < length types) (named_types s) → unwrap_or (slice_get (fields_of s) n) int_type < length types
    field_known (record_of fs) n h = found_known (slice_get fs n) (all_some (λ u. u < length types) fs n h)
    field_known s n h = standard_known 0 (omega arith)

    pub operator_known : (o : Operator) (t : ℕ) → t < length types → operator_type o t < length types
    operator_known op.Equal t h = standard_known 2 (omega arith)
    operator_known op.NotEqual t h = standard_known 2 (omega arith)
    operator_known op.Less t h = standard_known 2 (omega arith)
    operator_known op.LessOrEqual t h = standard_known 2 (omega arith)
    operator_known op.Greater t h = standard_known 2 (omega arith)
    operator_known op.GreaterOrEqual t h = standard_known 2 (omega arith)
    operator_known op.In t h = standard_known 2 (omega arith)
    operator_known o t h = h
