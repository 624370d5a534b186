-- A call of the system by a procedure parameter does what it means.
use Rattle.std.proofs.Common.{◌≡◌, ℕ, ◌+◌, ◌≤◌, ◌⊎◌, inl, inr, List, length, sym, subst, ap, ◌∙◌, arith}
use Rattle.edi_unit.specs.declared.expressions.Callee.TheVariants as callee
use Rattle.edi_unit.specs.Tree.{Acts}
use Rattle.edi_unit.specs.Fits.{CalleeFits, IsCall}
use Rattle.edi_unit.specs.Headings.{Formals, heading_formals}
use Rattle.edi_meaning.specs.Store.{system_procedure, block_procedure, Cell, procedure, Shape, shape, reached, now, cell}
use Rattle.edi_meaning.specs.Evaluation.{World, Evaluation}
use Rattle.edi_meaning.specs.Whole.{system_call, meant}
use Rattle.edi_target.specs.Op as op
use Rattle.edi_target.specs.Effect.{Effect}
use Rattle.edi_target.specs.Perform as machine
use Rattle.edi_target.specs.Mach.{effect_at, is_first}
use Rattle.edi_scheme.specs.Code.{slot_offset}
use Rattle.edi_scheme.specs.Stands as code
use Rattle.edi_follows.specs.places.Coded.{Coded, entry}
use Rattle.edi_follows.specs.places.Spots.{frames_end, cells_words, IsMeantBy}
use Rattle.edi_follows.specs.places.Scene.{Scene, here, Stands, Able, Does, local_at}
use Rattle.edi_follows.specs.places.Claims.{Passed, Ran, SystemClaim}
use Rattle.edi_follows.proofs.places.Formals.{far, result, head, far_slot, far_holds, means, stands_at}
use Rattle.edi_follows.proofs.places.Slots.{HasProcedure}
use Rattle.edi_follows.proofs.places.Variables.{calls_formal}
use Rattle.edi_scheme.proofs.Calls.{is_number}
use Rattle.edi_follows.proofs.calls.Fed.{Silent, Answering, fed}
use Rattle.edi_follows.proofs.calls.Asking.{silent_asks, answering_asks}
use Rattle.edi_follows.proofs.calls.Answered.{silent_does, answering_does}

module _
    (g : Coded) (s : Scene) (F : Shape) (w : World) (m : List ℕ) (h : Stands g s F w m) (levels v : ℕ)
    (fits : CalleeFits g.unit.blocks (here g s F) (callee.Formal levels v)) where
  abbrev found : HasProcedure g F (far g s F w m h levels v fits) (head g s F w m h levels v fits) (cell w.store (far g s F w m h levels v fits) v)
  found = far_holds g s F w m h levels v fits

  abbrev asks_for : Formals
  asks_for = heading_formals (head g s F w m h levels v fits)

  -- a call of the system by it
  module _ (number : ℕ) (is : meant g.unit s.name (s.size s.name) (callee.Formal levels v) w ≡ system_procedure number) where
    same : found.of ≡ system_procedure number
    same = sym (means g s F w m h levels v fits) ∙ is

    is_asked : IsCall g.unit.types number asks_for
    is_asked = (subst (λ c. IsMeantBy g F (far g s F w m h levels v fits) (head g s F w m h levels v fits) c) same found.answers).0

    abbrev o : ℕ
    o = slot_offset g.unit.types g.unit.blocks (entry g) (here g s F) levels v

    -- what the instruction there does
    abbrev done_at : (pc top held : ℕ) → Effect
    done_at pc top held = effect_at g.fetched (g.fetched pc) s.count (is_first s.name) (local_at s F m pc top held)

    does_ask : (line pc to top held : ℕ) → code.InstructionStands g.fetched pc (op.call_p levels o line) to →
        done_at pc top held ≡ machine.system_call number line to (local_at s F m pc top held)
    does_ask line pc to top held at =
        ap (λ f. effect_at g.fetched f s.count (is_first s.name) (local_at s F m pc top held)) at
        ∙ calls_formal g s F w m levels v o line to pc top held (result g s F w m h levels v fits) (system_procedure number) h
        (far_slot g s F w m h levels v fits) (stands_at g s F w m h levels v fits) (found.is ∙ ap procedure same)

    module _ (cells : List Cell) (line pc to t held : ℕ)
        (at : code.InstructionStands g.fetched pc (op.call_p levels o line) to)
        (able : Able g s F w m t 0 held)
        (passed : Passed g s F asks_for pc t cells m pc (t + length (cells_words g s.first F cells))) where
      high : t ≤ frames_end s.first F s.name
      high = omega (arith, able.high)

      abbrev top : ℕ
      top = t + length (cells_words g s.first F cells)

      done : Does g s F pc top t held w m (Ran g s to t) (system_call number cells line w)
      done = go (fed g s F cells number asks_for passed.cells_fit is_asked)
        where
          ten : (1 ≤ number) × (number ≤ 10)
          ten = is_number g.unit.types number asks_for is_asked

          asked : done_at pc top held ≡ machine.system_call number line to (local_at s F m pc top held)
          asked = does_ask line pc to top held at

          go : Silent g s F cells number asks_for ⊎ Answering g s F cells number asks_for →
              Does g s F pc top t held w m (Ran g s to t) (system_call number cells line w)
          go (inl k) =
              silent_does g s F w m h cells number asks_for pc t held line to high is_asked k
              (asked ∙ silent_asks g s F cells number asks_for m pc t held line to ten.0 ten.1 able.low passed.words k)
          go (inr k) =
              answering_does g s F w m h cells number asks_for pc t held line to high is_asked k
              (asked ∙ answering_asks g s F cells number asks_for m pc t held line to ten.0 ten.1 able.low passed.words k)

-- A CALL OF THE SYSTEM DOES WHAT IT MEANS
pub system_does : (g : Coded) (s : Scene) (deeper : Acts → World → Evaluation (Unit {0})) (bound : ℕ) → SystemClaim g s deeper bound
system_does g s deeper bound (callee.Block levels n) line cells number F pc to t held w m turns at fits none able passed is =
    let never : block_procedure n (reached (shape w.store) levels (now (shape w.store) s.name)) ≡ system_procedure number = is in absurd (cc)
system_does g s deeper bound (callee.Formal levels v) line cells number F pc to t held w m turns at fits none able passed is =
    done g s F w m able.stands levels v fits number is cells line pc to t held at able passed
