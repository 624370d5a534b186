-- Definition. THE MOVES OF AN EXECUTION: the stints in it that another one follows, without the attempts that fail and mark their process. A stint
-- is what one process does from when it is taken until the next one is taken; only an attempt whose conditions call no function marks, since it
-- changes nothing but the turns.
use Rattle.std.specs.Prelude.{ℕ, zero, suc, Bool, true, false, if◌then◌else◌, List, [], ◌∷◌, ◌++◌, length}
use Rattle.edi_calls.specs.State.{State}
use Rattle.edi_calls.specs.Choice.{Choices}
use Rattle.edi_calls.specs.Names.{Name}
use Rattle.edi_calls.specs.Outcome.{Outcome}
use Rattle.edi_calls.specs.Ready.{Next, stays, joins, Taking, nobody, taking, take_next}
use Rattle.edi_unit.specs.Tree.{ProgramUnit}
use Rattle.edi_meaning.specs.Step.{Processes, Stepped, went, ended, step, start}
use Rattle.edi_meaning.specs.Select.{marked, is_standstill, Select}

-- one move more, unless the process has only failed an attempt that marks it
abbrev pub counted : (quiet : Bool) → ℕ → ℕ
counted true n = n
counted false n = suc n

abbrev pub moves_on : Taking → (Name → List Name → ℕ → ℕ) → ℕ
moves_on nobody more = 0
moves_on (taking p others drawn) more = more p others drawn

abbrev pub moves_next : Choices → (Name → List Name → ℕ → ℕ) → Name → List Name → ℕ → (quiet : Bool) → Next → ℕ
moves_next choices more p others drawn quiet stays = more p others drawn
moves_next choices more p others drawn quiet (joins ps) = counted quiet (moves_on (take_next choices drawn (others ++ ps)) more)

abbrev pub moves_after : Choices → (Processes → List Name → Name → List Name → ℕ → ℕ) → Name → List Name → List Name → ℕ → Stepped → ℕ
moves_after choices more p others marks drawn (ended ending system turns) = 0
moves_after choices more p others marks drawn (went s next quiet) =
    let marks = marked quiet p marks in
    if is_standstill quiet marks (p ∷ others) then 0 else moves_next choices (more s marks) p others drawn quiet next

-- in at most n steps from here, where p is taken, the others are ready, and these are marked
abbrev pub moves : ProgramUnit → Choices → ℕ → Processes → List Name → Name → List Name → ℕ → ℕ
moves unit choices zero s marks p others drawn = 0
moves unit choices (suc n) s marks p others drawn =
    moves_after choices (moves unit choices n) p others marks drawn (step unit s p)

-- MOVES: in at most n steps from the start
abbrev pub moves_of : ProgramUnit → State → (bound : ℕ) → Choices → ℕ → ℕ
moves_of unit system bound choices n = moves unit choices n (start unit system bound) [] [] [] 0

-- those of the execution that the choices select: in as many steps as it has
abbrev pub moves_selected : (unit : ProgramUnit) (system : State) (bound : ℕ) (choices : Choices) (outcome : Outcome) → Select unit system bound choices outcome → ℕ
moves_selected unit system bound choices outcome s = moves_of unit system bound choices (length s.4)
