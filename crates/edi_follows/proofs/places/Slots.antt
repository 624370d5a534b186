-- Variables in their frames: where they stand, and what they hold.
use Rattle.std.proofs.Common.{◌≡◌, ℕ, zero, suc, ◌+◌, ◌<◌, ◌≤◌, List, [], ◌∷◌, take, length, Some, refl, arith}
use Rattle.std.specs.Prelude.{sum_by, slice_get}
use Rattle.std.proofs.lemmas.List.Sums.{sum_by-cons}
use Rattle.std.proofs.lemmas.Option.{slice_get_within}
use Rattle.edi_unit.specs.declared.units.Parameter.{Parameter}
use Rattle.edi_unit.specs.declared.units.Parameter.TheVariants as slot
use Rattle.edi_unit.specs.Need.{slots, slot_words}
use Rattle.edi_unit.specs.Values.{Value, IsOf}
use Rattle.edi_unit.specs.Headings.{Heading}
use Rattle.edi_meaning.specs.Store.{Spot, Location, Closure, Cell, value, location, procedure, Shape}
use Rattle.edi_follows.specs.places.Coded.{Coded, block, slot_in, slots_of, words_in, offset}
use Rattle.edi_follows.specs.places.Spots.{Holds, Leads, IsMeantBy}
use Rattle.edi_meaning.specs.Store.{Older}

sums_apart : (g : Coded) (ps : List Parameter) (v u : ℕ) → v < u → u ≤ length ps →
    sum_by (slot_words g.unit.types) (take v ps) + words_in g (slice_get ps v) ≤ sum_by (slot_words g.unit.types) (take u ps)
sums_apart g ps v zero h k = absurd (omega (arith, h))
sums_apart g [] v (suc u) h k = absurd (omega (arith, k))
sums_apart g (p ∷ ps) zero (suc u) h k = omega (arith, sum_by-cons (slot_words g.unit.types) p (take u ps))
sums_apart g (p ∷ ps) (suc v) (suc u) h k =
    omega (
      arith,
      sum_by-cons (slot_words g.unit.types) p (take v ps),
      sum_by-cons (slot_words g.unit.types) p (take u ps),
      sums_apart g ps v u (omega (arith, h)) (omega (arith, k)),
    )

-- of two variables of a block the first ends before the second
pub slots_apart : (g : Coded) (b v u : ℕ) → v < u → u < slots_of g b → offset g b v + words_in g (slot_in g b v) ≤ offset g b u
slots_apart g b v u h k = omega (arith, sums_apart g (slots (block g b)) v u h (omega (arith, k)))

pub slot_is_in : (g : Coded) (b v : ℕ) (p : Parameter) → slot_in g b v ≡ Some p → v < slots_of g b
slot_is_in g b v p e = slice_get_within (slots (block g b)) v p e

-- ---- what a variable holds

module _ (g : Coded) (F : Shape) (s : Spot) (h : Heading) where
  -- a value, where the variable holds values of a type
  pub record HasValue (t : ℕ) (c : Cell) : Type 0 where
    pub of : Value
    pub is : c ≡ value of
    pub typed : IsOf g.unit.types of t

  pub value_cell : (t : ℕ) (c : Cell) → Holds g F s h (Some (slot.Value t)) c → HasValue t c
  value_cell t (value x) k = record { of = x; is = refl; typed = k }
  value_cell t (location l) k = absurd k
  value_cell t (procedure c) k = absurd k

  pub record HasLocation (t : ℕ) (c : Cell) : Type 0 where
    pub at : Location
    pub is : c ≡ location at
    pub leads : Leads g F at t
    pub older : Older at.spot s

  pub location_cell : (t : ℕ) (c : Cell) → Holds g F s h (Some (slot.Var t)) c → HasLocation t c
  location_cell t (value x) k = absurd k
  location_cell t (location l) k = record { at = l; is = refl; leads = k.0; older = k.1 }
  location_cell t (procedure c) k = absurd k

  pub record HasProcedure (c : Cell) : Type 0 where
    pub of : Closure
    pub is : c ≡ procedure of
    pub answers : IsMeantBy g F s h of

  pub procedure_cell : (r : _) (c : Cell) → Holds g F s h (Some (slot.Formal r)) c → HasProcedure c
  procedure_cell r (value x) k = absurd k
  procedure_cell r (location l) k = absurd k
  procedure_cell r (procedure c) k = record { of = c; is = refl; answers = k }
