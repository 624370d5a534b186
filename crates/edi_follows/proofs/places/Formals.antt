-- What a procedure parameter means where it is called or passed on.
use Rattle.std.proofs.Common.{◌≡◌, ℕ, ◌<◌, List, Option, Some, None, refl, sym, subst, ap, ◌∙◌}
use Rattle.std.specs.Prelude.{IsTrue}
use Rattle.edi_unit.specs.declared.expressions.Callee.TheVariants as callee
use Rattle.edi_unit.specs.declared.units.Parameter.{Parameter}
use Rattle.edi_unit.specs.declared.units.Parameter.TheVariants as slot
use Rattle.edi_unit.specs.Need.{slot_at, slot_result}
use Rattle.edi_unit.specs.Fits.{callee_heading, CalleeFits, is_procedure}
use Rattle.edi_unit.specs.Headings.{Heading}
use Rattle.edi_meaning.specs.Store.{Spot, Closure, system_procedure, block_procedure, procedure_in, Shape, shape, reached, now, cell, Older}
use Rattle.edi_meaning.specs.Evaluation.{World}
use Rattle.edi_meaning.specs.Whole.{meant}
use Rattle.edi_meaning.proofs.References.{older_all}
use Rattle.edi_scheme.specs.Code.{slot_offset}
use Rattle.edi_follows.specs.places.Coded.{Coded, entry, slot_in, slots_of, offset, heading_of}
use Rattle.edi_follows.specs.places.Spots.{block_at, IsMeantBy, Holds}
use Rattle.edi_follows.specs.places.Scene.{Scene, here, Stands}
use Rattle.edi_follows.specs.places.Instructions.{Reaches}
use Rattle.edi_follows.proofs.places.Slots.{slot_is_in, HasProcedure, procedure_cell}
use Rattle.edi_follows.proofs.places.Variables.{levels_reach}

-- a procedure parameter with this result
formal_slot : (o : Option Parameter) → IsTrue (is_procedure o) → o ≡ Some (slot.Formal (slot_result o))
formal_slot None never = absurd (cc)
formal_slot (Some (slot.Value t)) never = absurd (cc)
formal_slot (Some (slot.Var t)) never = absurd (cc)
formal_slot (Some (slot.Formal r)) is = refl

-- what an instance may mean, each that may mean the instance itself may mean too
pub answers_nearer : (g : Coded) (F : Shape) (far near : Spot) (h : Heading) (c : Closure) → Older far near → IsMeantBy g F far h c → IsMeantBy g F near h c
answers_nearer g F far near h (system_procedure number) older answers = answers
answers_nearer g F far near h (block_procedure number parent) older answers =
    (answers.0, answers.1, answers.2, answers.3, older_all parent far near answers.4 older, answers.5)

module _
    (g : Coded) (s : Scene) (F : Shape) (w : World) (m : List ℕ) (h : Stands g s F w m) (levels v : ℕ)
    (fits : CalleeFits g.unit.blocks (here g s F) (callee.Formal levels v)) where
  -- the instance whose parameter it is
  abbrev pub far : Spot
  far = reached F levels (now F s.name)

  pub reaches : Reaches g s F levels far
  reaches = levels_reach g s F w m levels h

  abbrev pub result : Option ℕ
  result = slot_result (slot_at g.unit.blocks (here g s F) levels v)

  abbrev pub head : Heading
  head = callee_heading g.fits.headings g.unit.blocks (here g s F) (callee.Formal levels v)

  pub far_slot : slot_in g (block_at g F far) v ≡ Some (slot.Formal result)
  far_slot = ap (λ b. slot_in g b v) reaches.block_is ∙ formal_slot (slot_at g.unit.blocks (here g s F) levels v) fits.1

  pub far_below : v < slots_of g (block_at g F far)
  far_below = slot_is_in g (block_at g F far) v (slot.Formal result) far_slot

  -- it holds a procedure with its heading
  pub far_holds : HasProcedure g F far head (cell w.store far v)
  far_holds =
      procedure_cell g F far head result (cell w.store far v)
      (subst (λ b. Holds g F far (heading_of g b v) (Some (slot.Formal result)) (cell w.store far v)) reaches.block_is
      (subst (λ o. Holds g F far (heading_of g (block_at g F far) v) o (cell w.store far v)) far_slot
      (h.typed.holds far v reaches.lives far_below)))

  seen : shape w.store ≡ F
  seen = λ i y. h.shaped.each y i

  -- which is what it means
  pub means : meant g.unit s.name (s.size s.name) (callee.Formal levels v) w ≡ far_holds.of
  means = (λ i. procedure_in (cell w.store (reached (seen i) levels (now (seen i) s.name)) v)) ∙ ap procedure_in far_holds.is

  -- it stands where the code has it
  pub stands_at : slot_offset g.unit.types g.unit.blocks (entry g) (here g s F) levels v ≡ offset g (block_at g F far) v
  stands_at = ap (λ b. offset g b v) (sym reaches.block_is)
