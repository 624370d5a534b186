-- Entries and ends of blocks in the code, against the frames that stand for them.
use Rattle.std.proofs.Common.{◌≡◌, ℕ, ◌≤◌, List, sym, ap, ◌∙◌, Result, Ok, Err}
use Rattle.edi_calls.specs.Outcome as outcome
use Rattle.edi_calls.specs.State.{Traced}
use Rattle.edi_unit.specs.declared.expressions.Callee.{Callee}
use Rattle.edi_unit.specs.Need.{block_at}
use Rattle.edi_unit.specs.View.{unit_of}
use Rattle.edi_meaning.specs.Store.{Spot, block_procedure, Cell}
use Rattle.edi_meaning.specs.Evaluation.{World, Evaluation, gives, ends, ◌>>=◌}
use Rattle.edi_meaning.specs.Store.{shrunk}
use Rattle.edi_meaning.specs.Evaluation.{turn_from}
use Rattle.edi_meaning.specs.Whole.{left, meant}
use Rattle.edi_walk.specs.declared.evaluation.Evaluation as code
use Rattle.edi_walk.specs.declared.stop.Stop.{Stop}
use Rattle.edi_walk.specs.declared.stop.Stop.TheVariants as stop
use Rattle.edi_walk.specs.Frames.{Given, nothing, Frame, some_cells, performs, calls_function, calls_procedure, ends_function, ends_procedure}
use Rattle.edi_walk.specs.Machine.{given_of, deeper_of, rest_of, next_of, world_of, Entered, Left, LeavesBlock, Follows}
use Rattle.edi_walk.proofs.FrameSteps.{two}
use Rattle.edi_walk.proofs.ActSteps.{function_enters, procedure_enters}
use Rattle.edi_walk.proofs.Arms.{above}

module _ (levels : ℕ) (system : Traced) (old new : code.Evaluation) (number : ℕ) (parent : Spot) (cells : List Cell) (entered : Entered number parent cells old new)
    (enough : old.turns ≤ levels) where
  -- frames over the state that was entered
  body_over : (end : Frame) (h : Given) →
      two (unit_of old.unit.now) old.name.items old.size (deeper_of levels old) (rest_of levels old)
      (performs (block_at (unit_of old.unit.now).blocks number).body) end h (world_of (record old { memory = new.memory; turns = new.turns }) system)
      ≡ above levels system (performs (block_at (unit_of old.unit.now).blocks number).body) new (next_of levels new end)
  body_over end h =
      ap (λ e. above levels system (performs (block_at (unit_of old.unit.now).blocks number).body) e (next_of levels e end)) (sym entered.others)

  pub function_entered : (c : Callee) (line : ℕ) → meant (unit_of old.unit.now) old.name.items old.size c (world_of old system) ≡ block_procedure number parent →
      next_of levels old (calls_function c line) (some_cells cells) (world_of old system)
      ≡ above levels system (performs (block_at (unit_of old.unit.now).blocks number).body) new (next_of levels new ends_function)
  function_entered c line means =
      function_enters (unit_of old.unit.now) old.name.items old.size levels (rest_of levels old) number parent c cells line new.turns (given_of old.given)
      (world_of old system) means entered.fits entered.turns enough
      ∙ ap (λ s. two (unit_of old.unit.now) old.name.items old.size (deeper_of levels old) (rest_of levels old)
      (performs (block_at (unit_of old.unit.now).blocks number).body) ends_function (given_of old.given) (record { store = s; system = system; turns = new.turns }))
      (sym entered.store)
      ∙ body_over ends_function (given_of old.given)

  pub procedure_entered : (c : Callee) (line : ℕ) → meant (unit_of old.unit.now) old.name.items old.size c (world_of old system) ≡ block_procedure number parent →
      next_of levels old (calls_procedure c line) (some_cells cells) (world_of old system)
      ≡ above levels system (performs (block_at (unit_of old.unit.now).blocks number).body) new (next_of levels new ends_procedure)
  procedure_entered c line means =
      procedure_enters (unit_of old.unit.now) old.name.items old.size levels (rest_of levels old) number parent c cells line new.turns (given_of old.given)
      (world_of old system) means entered.fits entered.turns enough
      ∙ ap (λ s. two (unit_of old.unit.now) old.name.items old.size (deeper_of levels old) (rest_of levels old)
      (performs (block_at (unit_of old.unit.now).blocks number).body) ends_procedure (given_of old.given) (record { store = s; system = system; turns = new.turns }))
      (sym entered.store)
      ∙ body_over ends_procedure (given_of old.given)

-- ---- ends

-- behind the turn of an end this is given
pub left_over : (levels : ℕ) (system : Traced) (old new : code.Evaluation) (h : Given) → Left old new →
    (left (unit_of old.unit.now) old.name.items old.size (world_of old system) (gives h) >>= rest_of levels old) ≡ rest_of levels new h (world_of new system)
left_over levels system old new h l =
    ap (λ n. turn_from n (world_of old system) (λ w. gives h (record w { store = shrunk old.name.items w.store })) >>= rest_of levels old) l.turns
    ∙ ap (λ s. rest_of levels old h (record { store = s; system = system; turns = new.turns })) (sym l.store)
    ∙ ap (λ e. rest_of levels e h (world_of new system)) (sym l.others)

-- no turn is left for it
no_turn : (system : Traced) (old new : code.Evaluation) (h : Given) (go : Given → World → Evaluation Given) → old.turns ≡ 0 → new.turns ≡ 0 →
    (left (unit_of old.unit.now) old.name.items old.size (world_of old system) (gives h) >>= go) ≡ ends outcome.turns system new.turns
no_turn system old new h go none none' =
    ap (λ n. turn_from n (world_of old system) (λ w. gives h (record w { store = shrunk old.name.items w.store })) >>= go) none
    ∙ ap (ends outcome.turns system) (none ∙ sym none')

pub procedure_left : (levels : ℕ) (system : Traced) (old new : code.Evaluation) (result : Result (Unit {0}) Stop) (g : Given) → LeavesBlock result old new →
    given_of old.given ≡ nothing → Follows levels result new system (next_of levels old ends_procedure g (world_of old system))
procedure_left levels system old new (Ok x) g l none =
    left_over levels system old new nothing l
    ∙ ap (λ h. rest_of levels new h (world_of new system)) (sym none ∙ ap (λ (e : code.Evaluation). given_of e.given) (sym l.others))
procedure_left levels system old new (Err stop.Turns) g l none = no_turn system old new nothing (rest_of levels old) l.0 l.1
procedure_left levels system old new (Err stop.NoMemory) g l none = tt
procedure_left levels system old new (Err stop.Done) g l none = absurd l
procedure_left levels system old new (Err (stop.Halted line)) g l none = absurd l
procedure_left levels system old new (Err (stop.Failed c line)) g l none = absurd l
procedure_left levels system old new (Err (stop.Fault number)) g l none = absurd l
