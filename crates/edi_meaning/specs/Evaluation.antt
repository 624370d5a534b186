-- Definition. Runs: what an evaluation gives and the world after it, or the end of the whole program.
use Rattle.std.specs.Prelude.{ℕ, zero, suc}
use Rattle.edi_calls.specs.declared.kinds.Cause.{Cause}
use Rattle.edi_calls.specs.State.{Traced}
use Rattle.edi_calls.specs.Outcome as outcome
use Rattle.edi_calls.specs.Outcome.{Ending}
use Rattle.edi_meaning.specs.Store.{Store}

-- the variables of all processes, the system, and the turns that are left
pub record World : Type 0 where
  pub store : Store
  pub system : Traced
  pub turns : ℕ

pub data Evaluation (A : Type 0) : Type 0 where
  gives : A → World → Evaluation A
  ends : Ending → Traced → (turns : ℕ) → Evaluation A

infixl 10 ◌>>=◌
abbrev pub ◌>>=◌ : {A B : Type 0} → Evaluation A → (A → World → Evaluation B) → Evaluation B
(gives a w) >>= f = f a w
(ends e system turns) >>= f = ends e system turns

abbrev pub stops : {A : Type 0} → Ending → World → Evaluation A
stops e w = ends e w.system w.turns

-- a failure at a line
abbrev pub fails : {A : Type 0} → Cause → (line : ℕ) → World → Evaluation A
fails cause line w = stops (outcome.failed cause line) w

-- a turn that is due: the program ends where none is left
abbrev pub turn_from : {A : Type 0} → ℕ → World → (World → Evaluation A) → Evaluation A
turn_from zero w go = stops outcome.turns w
turn_from (suc n) w go = go (record w { turns = n })

abbrev pub turn : {A : Type 0} → World → (World → Evaluation A) → Evaluation A
turn w go = turn_from w.turns w go
