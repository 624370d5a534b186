-- Where an evaluation that was given up, or that an object outside has failed, stands among the states of the whole.
use Rattle.std.proofs.Common.{ℕ, sym, subst, ap, ◌∙◌}
use Rattle.edi_calls.specs.Names.{Name}
use Rattle.edi_calls.specs.State.{State, Traced, after_call}
use Rattle.edi_unit.specs.Tree.{ProgramUnit}
use Rattle.edi_meaning.specs.Laws.{GoesFrom}
use Rattle.edi_meaning.specs.Evaluation.{World, Evaluation, ◌>>=◌}
use Rattle.edi_meaning.specs.Whole.{answer_in, answered_by}
use Rattle.edi_meaning.proofs.Lasting.{Gives}
use Rattle.edi_walk.specs.Frames.{Given, nothing, makes_within}
use Rattle.edi_walk.specs.Runs.{IsFailed, IsGivenUp}
use Rattle.edi_walk.proofs.Grows.{makes_grow}

-- of what is made and of an end of the program alike
abbrev pub Both : {A : Type 0} → (Traced → ℕ → Type 0) → Evaluation A → Type 0
Both P = Gives (λ a w. P w.system w.turns) (λ e system turns. P system turns)

-- what was given up would have gone on from a world with this system
pub up_goes : (unit : ProgramUnit) (p : Name) (size levels : ℕ) (from : Traced) (m : Evaluation Given) (now : State) (u : IsGivenUp unit p size levels from m now) →
    Both (GoesFrom u.world) m
up_goes unit p size levels from m now u = subst (Both (GoesFrom u.world)) (sym u.is) (makes_grow unit p size levels u.frames u.given u.world u.enough)

-- what has failed would have come through the state in which that call was to leave the system
abbrev pub behind : {number : ℕ} {unit : ProgramUnit} {p : Name} {size levels : ℕ} {from : Traced} {m : Evaluation Given} {now : State} → IsFailed number unit p size levels from m now → World
behind f = record { store = answer_in f.cells f.words f.world.store; system = after_call f.next f.world.system; turns = f.world.turns }

pub failed_goes : (number : ℕ) (unit : ProgramUnit) (p : Name) (size levels : ℕ) (from : Traced) (m : Evaluation Given) (now : State)
    (f : IsFailed number unit p size levels from m now) →
    Both (GoesFrom (behind f)) m
failed_goes number unit p size levels from m now f =
    subst (Both (GoesFrom (behind f)))
    (sym (f.is ∙ ap (λ r. answered_by r f.cells f.line f.world >>= λ _ w. makes_within unit p size levels f.frames nothing w) f.answers))
    (makes_grow unit p size levels f.frames nothing (behind f) f.enough)
