-- Words of contracts. What a part of a step of one process leaves, whatever it makes.
use Rattle.std.specs.Borrow.{Bor}
use Rattle.std.specs.Prelude.{◌≡◌, ℕ, Bool, List, map, Option, Some, None, Result, Ok, Err, ⊤}
use Rattle.edi_calls.specs.Calls.{answered, call}
use Rattle.edi_calls.specs.Ends.{IsTorn}
use Rattle.edi_calls.specs.Outcome as outcome
use Rattle.edi_calls.specs.Outcome.{Ending}
use Rattle.edi_calls.specs.State.{State, Traced, after_call}
use Rattle.edi_meaning.specs.Laws.{GoesFrom, Grows}
use Rattle.edi_meaning.specs.Evaluation.{World, Evaluation, gives, ends}
use Rattle.edi_walk.specs.declared.evaluation.Evaluation as code_evaluation
use Rattle.edi_walk.specs.declared.stop.Stop.{Stop}
use Rattle.edi_walk.specs.declared.stop.Stop.TheVariants as stop
use Rattle.edi_unit.specs.Tree.{Acts, Clauses, Expression}
use Rattle.edi_unit.specs.View.{act_of, acts, unit_of}
use Rattle.edi_unit.specs.declared.statements.Act as code_act
use Rattle.edi_meaning.specs.Step.{chosen}
use Rattle.edi_meaning.specs.Whole.{whole_condition}
use Rattle.edi_walk.specs.Frames.{Frame, resume}
use Rattle.edi_walk.specs.Machine.{deeper_of, given_of, world_of}
use Rattle.edi_walk.specs.Runs.{RunsTo}

-- it goes on from this world, to what it gives or to an end of the program
abbrev pub Continues : {A : Type 0} → World → Evaluation A → Type 0
Continues w (gives a v) = GoesFrom w v.system v.turns
Continues w (ends e system turns) = GoesFrom w system turns

-- it gives this, where the system is so
pub record Makes {A : Type 0} (from : Traced) (R : A → Type 0) (new : code_evaluation.Evaluation) (now : State) (m : Evaluation A) : Type 0 where
  pub value : A
  pub related : R value
  pub system : Traced
  pub system_is : system.now ≡ now
  pub grew : Grows from system
  pub is : m ≡ gives value (world_of new system)

-- it ends the program
pub record Ended {A : Type 0} (ending : Ending) (new : code_evaluation.Evaluation) (now : State) (m : Evaluation A) : Type 0 where
  pub system : Traced
  pub system_is : system.now ≡ now
  pub is : m ≡ ends ending system new.turns

-- an object outside failed in a call of this number that was to lead from the world before it to the next state
pub record Failed {A : Type 0} (number : ℕ) (from : Traced) (now : State) (m : Evaluation A) : Type 0 where
  pub before : Traced
  pub grew : Grows from before
  pub next : State
  pub arguments : List ℕ
  pub answer : List ℕ
  pub answers : call number arguments before.now ≡ answered answer next
  pub torn : IsTorn before.now next now
  pub world : World
  pub world_is : world.system ≡ after_call next before
  pub goes : Continues world m

-- it was given up in a world with this system
pub record GivenUp {A : Type 0} (from : Traced) (now : State) (m : Evaluation A) : Type 0 where
  pub world : World
  pub grew : Grows from world.system
  pub system_is : world.system.now ≡ now
  pub goes : Continues world m

abbrev pub StopsSo : {A : Type 0} → (from : Traced) → Stop → (new : code_evaluation.Evaluation) → (now : State) → Evaluation A → Type 0
StopsSo from stop.Done new now m = Ended outcome.done new now m
StopsSo from (stop.Halted line) new now m = Ended (outcome.halted line) new now m
StopsSo from (stop.Failed c line) new now m = Ended (outcome.failed c line) new now m
StopsSo from stop.Turns new now m = Ended outcome.turns new now m
StopsSo from (stop.Fault number) new now m = Failed number from now m
StopsSo from stop.NoMemory new now m = GivenUp from now m

-- what the code gives stands for what is given; or it goes no further
abbrev pub MakesSo : {A T : Type 0} → (from : Traced) → (R : T → A → Type 0) → Result T Stop → (new : code_evaluation.Evaluation) → (now : State) →
    Evaluation A → Type 0
MakesSo from R (Ok x) new now m = Makes from (R x) new now m
MakesSo from R (Err s) new now m = StopsSo from s new now m

-- a frame alone, with as many levels as turns are left
abbrev pub Wholly : Frame → Result (Unit {0}) Stop → (old new : code_evaluation.Evaluation) → (before now : State) → Type 0
Wholly f result old new before now =
    (system : Traced) → system.now ≡ before →
    RunsTo old.turns system result new now
    (resume (unit_of old.unit.now) old.name.items old.size (deeper_of old.turns old) f (given_of old.given) (world_of old system))

-- a condition
abbrev pub Condition : Expression → Result Bool Stop → (old new : code_evaluation.Evaluation) → (before now : State) → Type 0
Condition e result old new before now =
    (system : Traced) → system.now ≡ before →
    MakesSo system (λ b a. a ≡ b) result new now (whole_condition (unit_of old.unit.now) old.name.items old.size e (world_of old system))

-- a chosen list stands for one of the definition, whatever its number
abbrev pub IsChosen : Option (Bor (List code_act.Act)) → Option (Acts × ℕ) → Type 0
IsChosen None None = ⊤
IsChosen (Some s) (Some c) = c.0 ≡ acts (map act_of s.now)
IsChosen _ _ = ⊥

-- the first list whose condition is true
abbrev pub Chosen : Clauses → Result (Option (Bor (List code_act.Act))) Stop → (old new : code_evaluation.Evaluation) → (before now : State) → Type 0
Chosen cs result old new before now =
    (system : Traced) → system.now ≡ before → (n : ℕ) →
    MakesSo system IsChosen result new now (chosen (unit_of old.unit.now) old.name.items old.size cs n (world_of old system))
