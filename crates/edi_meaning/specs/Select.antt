-- Definition. The execution that the choices select among the permitted ones. A process goes on until it arrives at a `when`, fails
-- an attempt, forks or ends; then the next is taken.
use Rattle.std.specs.Prelude.{◌≡◌, ℕ, zero, suc, ◌-◌, Bool, true, false, ◌&&◌, if◌then◌else◌, List, [], ◌∷◌, ◌++◌, Contains}
use Rattle.edi_calls.specs.State.{State, Traced, moments_of}
use Rattle.edi_calls.specs.Choice.{Choices}
use Rattle.edi_calls.specs.Names.{Name}
use Rattle.edi_calls.specs.Outcome as outcome
use Rattle.edi_calls.specs.Outcome.{Ending, Outcome, outcome_of}
use Rattle.edi_calls.specs.Ready.{all_marked, Next, stays, joins, Taking, nobody, taking, take_next}
use Rattle.edi_unit.specs.Tree.{ProgramUnit}
use Rattle.edi_meaning.specs.Step.{Processes, Stepped, went, ended, step, start}

-- the end of a selection: how, with which system, with how many turns left and choices drawn, and who stepped, one after another
pub data Selected : Type 0 where
  unfinished : Selected
  finished : Ending → Traced → (turns drawn : ℕ) → (order : List Name) → Selected

-- who steps first
abbrev pub stepped_first : Name → Selected → Selected
stepped_first p unfinished = unfinished
stepped_first p (finished ending system turns drawn order) = finished ending system turns drawn (p ∷ order)

-- the processes whose last attempts failed since anything else happened; only the attempt of a `when` none of whose
-- conditions calls a function marks its process, and every other step empties the marks
abbrev pub marked : Bool → Name → List Name → List Name
marked true p marks = p ∷ marks
marked false p marks = []

-- where every process that is ready or at its `when` is marked, nothing can happen any more
abbrev pub is_standstill : Bool → List Name → List Name → Bool
is_standstill quiet marks ready = quiet && all_marked marks ready

-- where nobody is ready nothing can happen any more either
abbrev pub go_on : Taking → (Name → List Name → ℕ → Selected) → Processes → ℕ → Selected
go_on nobody more s drawn = finished outcome.standstill s.world.system s.world.turns drawn []
go_on (taking p others drawn) more s before = more p others drawn

abbrev pub after_next : Choices → (Name → List Name → ℕ → Selected) → Processes → Name → List Name → ℕ → Next → Selected
after_next choices more s p others drawn stays = more p others drawn
after_next choices more s p others drawn (joins ps) = go_on (take_next choices drawn (others ++ ps)) more s drawn

abbrev pub after_step : Choices → (Processes → List Name → Name → List Name → ℕ → Selected) → Name → List Name → List Name → ℕ → Stepped → Selected
after_step choices more p others marks drawn (ended ending system turns) = finished ending system turns drawn []
after_step choices more p others marks drawn (went s next quiet) =
    let marks = marked quiet p marks in
    if is_standstill quiet marks (p ∷ others)
    then finished outcome.standstill s.world.system s.world.turns drawn []
    else after_next choices (more s marks) s p others drawn next

-- at most n steps from here, where p is taken, the others are ready, and these are marked
abbrev pub select : ProgramUnit → Choices → ℕ → Processes → List Name → Name → List Name → ℕ → Selected
select unit choices zero s marks p others drawn = unfinished
select unit choices (suc n) s marks p others drawn =
    stepped_first p (after_step choices (select unit choices n) p others marks drawn (step unit s p))

-- at most n steps from the start
abbrev pub select_from_start : ProgramUnit → State → ℕ → Choices → ℕ → Selected
select_from_start unit system bound choices n = select unit choices n (start unit system bound) [] [] [] 0

-- SELECT: the selection from the start ends so, after some number of steps
abbrev pub Ends : ProgramUnit → State → ℕ → Choices → Ending → Traced → (turns drawn : ℕ) → (order : List Name) → Type 0
Ends unit system bound choices ending end turns drawn order =
    (n : ℕ) × (select_from_start unit system bound choices n ≡ finished ending end turns drawn order)

-- its outcome
abbrev pub Select : ProgramUnit → State → ℕ → Choices → Outcome → Type 0
Select unit system bound choices outcome =
    (ending : Ending) × (end : Traced) × (turns : ℕ) × (drawn : ℕ) × (order : List Name)
    × Ends unit system bound choices ending end turns drawn order
    × (outcome ≡ outcome_of end.now ending (bound - turns) drawn)

-- it comes through this state of the system: the first one, or one behind a system call
abbrev pub ComesThrough : ProgramUnit → State → ℕ → Choices → (moment : State) → Type 0
ComesThrough unit system bound choices moment =
    (ending : Ending) × (end : Traced) × (turns : ℕ) × (drawn : ℕ) × (order : List Name)
    × Ends unit system bound choices ending end turns drawn order × Contains (moments_of system end.past) moment
