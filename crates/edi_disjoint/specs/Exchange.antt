-- Words of contracts. Steps of two processes that may be exchanged.
use Rattle.std.specs.Prelude.{◌≡◌, ◌<◌, ℕ, true, List, [], ◌∷◌, length, Some}
use Rattle.edi_calls.specs.Names.{Name, find}
use Rattle.edi_calls.specs.State.{State}
use Rattle.edi_unit.specs.Tree.{ProgramUnit}
use Rattle.edi_unit.specs.Fits.{Fits}
use Rattle.edi_meaning.specs.Store.{instances, shape, frame_at}
use Rattle.edi_meaning.specs.Step.{ready, Process, Processes, start}
use Rattle.edi_meaning.specs.Permitted.{is_running, at, permitted}
use Rattle.edi_disjoint.specs.Footprints.{Disjoint}

-- two states are the same: the same processes by their names, with the same instances, the same system and as many turns.
-- Tables are finite maps here: in which order they hold the names is not compared.
pub record IsSame (s t : Processes) : Type 0 where
  pub live : (r : Name) → find s.live r ≡ find t.live r
  pub number : length s.live ≡ length t.live
  pub instances : (r : Name) → instances s.world.store r ≡ instances t.world.store r
  pub system : s.world.system ≡ t.world.system
  pub turns : s.world.turns ≡ t.world.turns

-- p is a process of branch block b, which is its oldest instance, and it is ready: it does not stand at a `when`, and does
-- not wait
pub record IsReadyIn (s : Processes) (p : Name) (b : ℕ) : Type 0 where
  pub process : Process
  pub found : find s.live p ≡ Some process
  pub standing : process.standing ≡ ready
  pub some : 0 < length (instances s.world.store p)
  pub block : (frame_at (shape s.world.store) (p, 0)).block ≡ b

-- p is a process of branch block b and may step: it is ready, or stands at its `when`
pub record MayStepIn (s : Processes) (p : Name) (b : ℕ) : Type 0 where
  pub process : Process
  pub found : find s.live p ≡ Some process
  pub runs : is_running process.standing ≡ true
  pub some : 0 < length (instances s.world.store p)
  pub block : (frame_at (shape s.world.store) (p, 0)).block ≡ b

-- THE EXCHANGE: in every state that permitted steps reach from the start, let p and q be two different processes that are
-- ready, p of branch block a and q of branch block b. Where a step of p and then one of q, and a step of q and then one of
-- p, both leave the run going, they lead to the same state.
abbrev pub Exchanges : ProgramUnit → (a b : ℕ) → Type 0
Exchanges unit a b =
    (system : State) (bound : ℕ) (order : List Name) (s : Processes) (p q : Name) →
    permitted unit order (start unit system bound) ≡ at s →
    IsReadyIn s p a → IsReadyIn s q b → (p ≡ q → ⊥) →
    (one other : Processes) → permitted unit (p ∷ q ∷ []) s ≡ at one → permitted unit (q ∷ p ∷ []) s ≡ at other → IsSame one other

-- so it is of each two disjoint branch blocks of a program that fits
abbrev pub DisjointExchange : Type 0
DisjointExchange = (unit : ProgramUnit) → Fits unit → (a b : ℕ) → Disjoint unit a b → Exchanges unit a b

-- and so it is where one of them, or each, stands at its `when`: attempts may be exchanged too
abbrev pub AttemptsToo : Type 0
AttemptsToo =
    (unit : ProgramUnit) → Fits unit → (a b : ℕ) → Disjoint unit a b →
    (system : State) (bound : ℕ) (order : List Name) (s : Processes) (p q : Name) →
    permitted unit order (start unit system bound) ≡ at s →
    MayStepIn s p a → MayStepIn s q b → (p ≡ q → ⊥) →
    (one other : Processes) → permitted unit (p ∷ q ∷ []) s ≡ at one → permitted unit (q ∷ p ∷ []) s ≡ at other → IsSame one other
