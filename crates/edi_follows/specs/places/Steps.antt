-- Helper. The steps that change the frames of a process: a call, and the end of a procedure.
use Rattle.std.specs.Prelude.{◌≡◌, ◌⊎◌, ℕ, ◌+◌, ◌-◌, ◌<◌, ◌≤◌, Bool, List, ◌∷◌, length, None}
use Rattle.edi_unit.specs.declared.expressions.Callee.{Callee}
use Rattle.edi_unit.specs.Need.{callee_result}
use Rattle.edi_unit.specs.Fits.{callee_heading, CalleeFits}
use Rattle.edi_unit.specs.Headings.{heading_formals}
use Rattle.edi_meaning.specs.Store.{Cell, Store, Shape, now}
use Rattle.edi_meaning.specs.Evaluation.{World, gives}
use Rattle.edi_meaning.specs.Whole.{meant, left}
use Rattle.edi_meaning.specs.Step.{Work, procedure_end, goes, called}
use Rattle.edi_meaning.proofs.Frames.{HasShape}
use Rattle.edi_target.specs.Memory.{word}
use Rattle.edi_target.specs.Mach.{is_first}
use Rattle.edi_scheme.specs.Code.{call_code}
use Rattle.edi_scheme.specs.Stands as code
use Rattle.edi_follows.specs.places.Coded.{Coded, entry}
use Rattle.edi_follows.specs.places.Spots.{cells_words, IsOther}
use Rattle.edi_follows.specs.places.Walks.{Walker}
use Rattle.edi_follows.specs.places.Scene.{Scene, alone, here, base_of, Stands, gets}
use Rattle.edi_follows.specs.places.Claims.{Passed}
use Rattle.edi_follows.specs.places.Located.{Matches}
use Rattle.edi_follows.specs.places.Follows.{Follows}

module _ (g : Coded) (s : Scene) where
  -- the work stands here, where the process has these frames
  abbrev pub work_at : Shape → List ℕ → List Work → ℕ → Type 0
  work_at F m ws pc = Matches g (is_first s.name) (s.first s.name) (F s.name) m ws pc (length (F s.name) - 1)

  -- outside the segment only variables have changed that the newest instance may mean
  abbrev pub KeepsOutside : Shape → List ℕ → List ℕ → Type 0
  KeepsOutside F m m' = (a : ℕ) → (a < s.first s.name) ⊎ (s.first s.name + s.size s.name ≤ a) → IsOther g s.first F (now F s.name) a → word m' a ≡ word m a

  -- A CALL AS A STEP. Its arguments stand above the variables, behind the stretch that evaluated them, which began with this store
  -- and memory: a block is entered, and its body and its end come first; a call of the system is executed whole
  abbrev pub CalledClaim : Type 0
  CalledClaim =
      (c : Callee) (line : ℕ) (cells : List Cell) (ws : List Work) (F : Shape) (pc to : ℕ) (w : World) (m : List ℕ) (store : Store) (from : List ℕ)
      (r : Walker) (cleared : Bool) →
      code.AreInstructions g.fetched (call_code g.unit.types g.unit.blocks (entry g) (here g s F) c line) pc to →
      CalleeFits g.unit.blocks (here g s F) c → callee_result g.unit.blocks (here g s F) c ≡ None →
      Stands g s F w m →
      Passed g s F (heading_formals (callee_heading g.fits.headings g.unit.blocks (here g s F) c)) pc (base_of g s F) cells m pc
      (base_of g s F + length (cells_words g s.first F cells)) →
      work_at F m ws to →
      gets g s r (alone s F m pc (base_of g s F + length (cells_words g s.first F cells)) 0 w) cleared → HasShape F store → KeepsOutside F from m →
      Follows g s store from r (called g.unit s.name (s.size s.name) (meant g.unit s.name (s.size s.name) c w) cells line ws w)

  -- THE END OF A PROCEDURE AS A STEP: the process is behind the call, with the work that was left
  abbrev pub ReturnedClaim : Type 0
  ReturnedClaim =
      (line : ℕ) (ws : List Work) (F : Shape) (pc : ℕ) (w : World) (m : List ℕ) → Stands g s F w m → work_at F m (procedure_end line ∷ ws) pc →
      Follows g s w.store m (alone s F m pc (base_of g s F) 0 w) (left g.unit s.name (s.size s.name) w (gives (goes ws)))
