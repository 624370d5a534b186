-- Words of contracts. The dump of a program that stands still tells the state of the meaning: who stands where, and what the variables hold.
use Rattle.std.specs.Prelude.{◌≡◌, ℕ, zero, suc, ◌-◌, nat_eq, Bool, true, false, if◌then◌else◌, List, [], ◌∷◌, ◌++◌, codes, flat_map, length, slice_get, Some}
use Rattle.std.specs.Prelude.{Contains}
use Rattle.std.specs.Fmt.{decimal}
use Rattle.edi_calls.specs.Choice.{Choices}
use Rattle.edi_calls.specs.Names.{Name, find}
use Rattle.edi_calls.specs.Outcome as outcome
use Rattle.edi_calls.specs.State.{State, Traced, fresh}
use Rattle.edi_lex.specs.Symbols.{symbols_of}
use Rattle.edi_sights.specs.named.Naming.{Named, named_at}
use Rattle.edi_unit.specs.Need.{block_at, slots}
use Rattle.edi_unit.specs.Tree.{ProgramUnit}
use Rattle.edi_meaning.specs.Places.{call_lines}
use Rattle.edi_meaning.specs.Select as selection
use Rattle.edi_meaning.specs.Step.{Process, Processes, Standing, at_when, ready, waiting}
use Rattle.edi_meaning.specs.Store.{Spot, Store, frame_at, shape}
use Rattle.edi_follows.specs.Theorem.{CanBeCoded}
use Rattle.edi_texts.specs.Texts.{IsUnit}
use Rattle.edi_timed.specs.on.Timelines.{text}
use Rattle.edi_timeline.specs.Stints.{when_line}
use Rattle.edi_timeline.specs.Text.{ending_text, process_text}
use Rattle.edi_waits.specs.Ends.{is_before}
use Rattle.edi_dump.specs.Frames.{Program, name_line}
use Rattle.edi_dump.specs.Text.{branches_text, call_word, in_text}
use Rattle.edi_dumped.specs.Dumps.{HasProgram, IsDumpOf}
use Rattle.edi_dumped.specs.Instances.{instance_text}
use Rattle.edi_dumped.specs.Standing.{StandsIn}

-- the newest instance of a process
abbrev pub newest : Store → Name → ℕ
newest store p = length (shape store p) - 1

-- of a program whose variables hold what this store has
module _ (program : Program) (store : Store) where
  -- what is named of the block of an instance
  abbrev pub named_of : Spot → Named
  named_of z = named_at program.names.blocks (frame_at (shape store) z).block

  -- the lines of an instance: the name of its block, and of each variable its name and the text of what it holds
  abbrev pub instance_lines : Spot → List ℕ
  instance_lines z =
      name_line (named_of z).name
      ++ instance_text program.unit.types program.names.constants store z 0 (named_of z).variables
      (slots (block_at program.unit.blocks (frame_at (shape store) z).block))

  -- those of the first instances of a process, from the newest of them to the oldest
  abbrev pub lines_down : Name → ℕ → List ℕ
  lines_down p zero = []
  lines_down p (suc d) = instance_lines (p, d) ++ lines_down p d

  -- those of all its instances
  abbrev pub process_lines : Name → List ℕ
  process_lines p = lines_down p (length (shape store p))

  -- a line of the block of an instance: `15 in take`
  abbrev pub line_in : (line : ℕ) → Spot → List ℕ
  line_in line z = decimal line ++ in_text (named_of z).name

  -- the calls that lead to instance d of a process, from the newest: `, called on line 28 in philosopher, on line 35 in dine`
  abbrev pub calls_told : (first : Bool) → Name → (lines : List ℕ) → (d : ℕ) → List ℕ
  calls_told first p [] d = []
  calls_told first p (line ∷ lines) zero = []
  calls_told first p (line ∷ lines) (suc d) = call_word first ++ (line_in line (p, d) ++ calls_told false p lines d)

  -- how it stands, after so many forks
  abbrev pub stands_told : Name → Standing → (forks : ℕ) → List ℕ
  stands_told p ready forks = if nat_eq forks 0 then codes " has not begun" else codes " goes on after its branches"
  stands_told p (at_when cs position) forks = codes " is at the when of line " ++ line_in (when_line program.unit position) (p, newest store p)
  stands_told p (waiting n) forks = codes " waits for " ++ branches_text n

  -- A PROCESS: how it stands, the calls that lead there, and the lines of its instances
  abbrev pub process_told : Name × Process → List ℕ
  process_told x =
      process_text x.0
      ++ ((stands_told x.0 x.1.standing x.1.forks ++ calls_told true x.0 (call_lines x.1.work) (newest store x.0))
      ++ (codes "\n" ++ process_lines x.0))

-- these are the processes of the state, each once, a parent before its branches
pub record AreProcesses (s : Processes) (xs : List (Name × Process)) : Type 0 where
  pub each : (x : Name × Process) → Contains xs x → find s.live x.0 ≡ Some x.1
  pub all : (p : Name) (q : Process) → find s.live p ≡ Some q → Contains xs (p, q)
  pub order : (i : ℕ) (x y : Name × Process) → slice_get xs i ≡ Some x → slice_get xs (suc i) ≡ Some y → is_before x.0 y.0 ≡ true

-- THIS TEXT TELLS THE STATE in which the execution of a text stands still: the ending, and each process. Nothing of the machine is in it.
pub record TellsStandstill (bytes : List ℕ) (system : State) (bound : ℕ) (choices : Choices) (drawn : ℕ) (told : List ℕ) : Type 0 where
  pub program : Program
  pub has : HasProgram (symbols_of bytes) program
  pub state : Processes
  pub stands : StandsIn program.unit (fresh system) bound choices state drawn
  pub processes : List (Name × Process)
  pub are : AreProcesses state processes
  pub text_is : told ≡ ending_text outcome.standstill ++ (codes "\n" ++ flat_map (process_told program state.world.store) processes)

-- THE DUMP OF A STANDSTILL IS AS MEANT. Where the execution of an accepted text stands still, each dump of it tells the state in which it does. Of
-- each process it tells how it stands, the line of its `when` and those of the calls that lead there, with the names of their procedures. Then come
-- its instances, from the newest to the oldest, and of each variable its name and the text of what it holds: for a `var` parameter that of the variable
-- that it means. What procedure parameters mean is not told.
abbrev pub DumpsAreAsMeant : Type 0
DumpsAreAsMeant =
    (bytes : List ℕ) (unit : ProgramUnit) → IsUnit bytes unit → CanBeCoded unit → (system : State) (bound : ℕ) (choices : Choices) (told : List ℕ) →
    IsDumpOf (text bytes) system bound choices told → (end : Traced) (turns drawn : ℕ) (order : List Name) →
    selection.Ends unit (fresh system) bound choices outcome.standstill end turns drawn order → TellsStandstill bytes system bound choices drawn told
