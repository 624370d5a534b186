-- Definition. A system with its course: the states through which it went. Each byte that is taken, shown or printed, each change
-- of the files and each system call of a program is one step. So the states at which an object outside may fail are those of its
-- course: an output only where a byte is shown or printed, the input only where one is taken.
use Rattle.std.specs.Prelude.{◌≡◌, ◌⊎◌, ℕ, List, [], ◌∷◌, ◌++◌, Option, Contains, ⊤}
use Rattle.edi_calls.specs.declared.ends.Outside.{Outside}
use Rattle.edi_calls.specs.declared.ends.Outside.TheVariants as outside
use Rattle.edi_calls.specs.State.{File, State, fresh, moments_of}

-- the newest state of the past stands first
pub record Course : Type 0 where
  pub now : State
  pub past : List State

abbrev pub states_of : Course → List State
states_of c = c.now ∷ c.past

abbrev pub starts_in : State → Course
starts_in state = record { now = state; past = [] }

abbrev pub becomes : State → Course → Course
becomes next c = record { now = next; past = states_of c }

-- byte by byte
abbrev pub shows : List ℕ → Course → Course
shows [] c = c
shows (byte ∷ bytes) c = shows bytes (becomes (record c.now { shown = c.now.shown ++ byte ∷ [] }) c)

abbrev pub prints : List ℕ → Course → Course
prints [] c = c
prints (byte ∷ bytes) c = prints bytes (becomes (record c.now { printed = c.now.printed ++ byte ∷ [] }) c)

-- these bytes are left of the input
abbrev pub leaves_input : List ℕ → Course → Course
leaves_input input c = becomes (record c.now { input = input }) c

-- the files change, and no file is open behind that
abbrev pub has_slots : List (Option File) → Course → Course
has_slots slots c = becomes (record (fresh c.now) { slots = slots }) c

-- A program was executed, from the state with no file open. It came to this state, and this was its past, the states behind its
-- system calls, the last one first.
abbrev pub executed : State → List State → Course → Course
executed after past c = record { now = after; past = moments_of (fresh c.now) past ++ states_of c }

-- ---- where an object outside may fail

-- of these states, the newest of which stands first, the one is followed by the other
pub record IsFollowedBy (states : List State) (before next : State) : Type 0 where
  pub later : List State
  pub earlier : List State
  pub is : states ≡ later ++ next ∷ before ∷ earlier

-- one more byte is shown, or printed, and all else is the same
abbrev pub ShowsByte : (before next : State) → Type 0
ShowsByte before next = (byte : ℕ) × (next ≡ record before { shown = before.shown ++ byte ∷ [] })

abbrev pub PrintsByte : (before next : State) → Type 0
PrintsByte before next = (byte : ℕ) × (next ≡ record before { printed = before.printed ++ byte ∷ [] })

-- the next byte of the input is taken, and all else is the same
abbrev pub TakesByte : (before next : State) → Type 0
TakesByte before next = (byte : ℕ) × (before.input ≡ byte ∷ next.input) × (next ≡ record before { input = next.input })

-- among these states two follow one another so, and the moment is the first of them, or the second: what fails may have taken the byte
pub record IsAtByte (Puts : (before next : State) → Type 0) (states : List State) (moment : State) : Type 0 where
  pub before : State
  pub next : State
  pub follows : IsFollowedBy states before next
  pub puts : Puts before next
  pub at : (moment ≡ before) ⊎ (moment ≡ next)

-- an output is at a byte of its own; the input is before one that is taken
abbrev pub IsAtItsByte : Outside → (states : List State) → (moment : State) → Type 0
IsAtItsByte outside.Terminal states moment = IsAtByte ShowsByte states moment
IsAtItsByte outside.Printer states moment = IsAtByte PrintsByte states moment
IsAtItsByte outside.Drive states moment = ⊤
IsAtItsByte outside.Input states moment = (next : State) × IsFollowedBy states moment next × TakesByte moment next

-- WHERE AN OBJECT MAY FAIL in a course with these states: the drive at each state, the terminal only where a byte is shown, the printer only
-- where one is printed, and the input only right before one is taken
pub record MayFail (failed : Outside) (states : List State) (moment : State) : Type 0 where
  pub there : Contains states moment
  pub byte : IsAtItsByte failed states moment
