-- Words of contracts. A system, as the shell works on it.
use Rattle.std.specs.Prelude.{◌≡◌, ◌⊎◌, ℕ, ◌-◌, ◌*◌, ◌≤◌, min, List, Option, Some, None, IfSome, Result, Ok, Err, Bool, true, false}
use Rattle.edi_told.specs.Faults.{CountRose}
use Rattle.edi_host.specs.declared.source.Next.{Next}
use Rattle.edi_host.specs.declared.source.Next.TheVariants as next
use Rattle.edi_calls.specs.declared.ends.Outside.{Outside}
use Rattle.edi_calls.specs.declared.ends.Outside.TheVariants as outside
use Rattle.edi_calls.specs.State.{State, fresh}
use Rattle.edi_catalog.specs.declared.ends.CatEnd.{CatEnd}
use Rattle.edi_catalog.specs.declared.ends.CatEnd.TheVariants as cat
use Rattle.edi_system.specs.AsCalls.{references_in, IsBehind, IsDueSince}
use Rattle.edi_system.specs.State.{failed_in, faults_of, state_of}
use Rattle.edi_system.specs.declared.system.System.{System}
use Rattle.edi_session.specs.declared.end.SessionEnd.{SessionEnd}
use Rattle.edi_session.specs.declared.end.SessionEnd.TheVariants as end

-- ---- where a system stands

-- the contents that are told are those of the state, but for the files that a program has open
abbrev pub HasState : Option State → State → Type 0
HasState told state = IfSome told (λ now. fresh now ≡ fresh state)

-- Besides, the bytes behind so many, which were shown before the session, tell whether a line is due.
pub record StandsAt {D S T P : Type 0} (contents : D → Option (List (List ℕ))) (left : S → Option (List ℕ)) (shown : T → Option (List ℕ))
    (printed : P → Option (List ℕ)) (system : System D S T P) (state : State) (shown_before : ℕ) : Type 0 where
  pub has : HasState (state_of contents left shown printed system) state
  pub due : IsDueSince shown system shown_before

-- This object has failed, and the system stands there.
pub record FailsAt {D S T P : Type 0} (contents : D → Option (List (List ℕ))) (left : S → Option (List ℕ)) (shown : T → Option (List ℕ))
    (printed : P → Option (List ℕ)) (system : System D S T P) (failed : Outside) (state : State) : Type 0 where
  pub blamed : failed_in system ≡ Some failed
  pub has : HasState (state_of contents left shown printed system) state

-- ---- what every call keeps

-- What calls in a row leave of a system whatever they answer. The objects are the same ones, no count of faults falls, and an object
-- that has failed now had failed before, or its count rose.
pub record SystemLasts {D S T P : Type 0} (contents : D → Option (List (List ℕ))) (count : D → ℕ) (left : S → Option (List ℕ)) (shown : T → Option (List ℕ))
    (printed : P → Option (List ℕ)) (drive : D → ℕ) (input : S → ℕ) (terminal : T → ℕ) (printer : P → ℕ) (before after : System D S T P) : Type 0 where
  pub behind : IsBehind contents count left shown printed before after
  pub references : references_in after ≡ references_in before
  pub later : (outside : Outside) → faults_of drive input terminal printer before outside ≤ faults_of drive input terminal printer after outside
  pub blame : (outside : Outside) → failed_in after ≡ Some outside →
      (failed_in before ≡ Some outside) ⊎ CountRose (faults_of drive input terminal printer before outside)
      (faults_of drive input terminal printer after outside)

-- ---- how its answers are told

-- the next byte of the input, or none, or the fault of the input
abbrev pub taken_by : Next → Result (Option ℕ) SessionEnd
taken_by (next.Byte b) = Ok (Some b)
taken_by next.End = Ok None
taken_by next.Failed = Err end.InputFault

-- the bytes were shown or printed, or this is the fault
abbrev pub put_by : Bool → SessionEnd → Result (Unit {0}) SessionEnd
put_by true fault = Ok tt
put_by false fault = Err fault

-- so many bytes were read, or there is no such file, or the drive has failed
abbrev pub read_by : Result ℕ CatEnd → Result (Option ℕ) SessionEnd
read_by (Ok n) = Ok (Some n)
read_by (Err cat.NoSuch) = Ok None
read_by (Err why) = Err end.DriveFault

-- the same of a page with so many bytes
abbrev pub page_by : (size : ℕ) → Result (Unit {0}) CatEnd → Result (Option ℕ) SessionEnd
page_by size (Ok done) = Ok (Some size)
page_by size (Err cat.NoSuch) = Ok None
page_by size (Err why) = Err end.DriveFault

-- how many bytes of a file of this length its page i has
abbrev pub page_size : (i length : ℕ) → ℕ
page_size i length = min (length - 512 * i) 512

-- the end of a session in which this object has failed
abbrev pub fault_by : Outside → SessionEnd
fault_by outside.Drive = end.DriveFault
fault_by outside.Input = end.InputFault
fault_by outside.Terminal = end.TerminalFault
fault_by outside.Printer = end.PrinterFault
