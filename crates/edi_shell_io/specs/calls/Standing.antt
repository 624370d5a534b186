-- Words of contracts. Where an object stands on which the shell works, told by the shells of the definition of a session.
use Rattle.std.specs.Prelude.{◌≡◌, ◌*◌, ℕ, List, [], ◌∷◌, drop, take, Option, Some, None, Result, Ok, Err, ⊤}
use Rattle.edi_calls.specs.declared.ends.Outside.{Outside}
use Rattle.edi_calls.specs.declared.ends.Outside.TheVariants as outside
use Rattle.edi_calls.specs.Choice.{Choices}
use Rattle.edi_calls.specs.Outcome as outcome
use Rattle.edi_calls.specs.State.{File, State, fresh}
use Rattle.edi_catalog.specs.declared.ends.CatEnd.{CatEnd}
use Rattle.edi_catalog.specs.declared.ends.CatEnd.TheVariants as cat
use Rattle.edi_kernel.specs.declared.ends.Ending.{Ending}
use Rattle.edi_kernel.specs.Kernel.{EndsAs}
use Rattle.edi_target.specs.Check.{CodeParts}
use Rattle.edi_target.specs.Fetch.{fetch}
use Rattle.edi_target.specs.Mach.{Machine}
use Rattle.edi_target.specs.Moments.{EndsThrough}
use Rattle.edi_session.specs.declared.end.SessionEnd.{SessionEnd}
use Rattle.edi_session.specs.declared.end.SessionEnd.TheVariants as end
use Rattle.edi_session.specs.Course.{MayFail, has_slots, states_of}
use Rattle.edi_session.specs.Shell.{Shell, state_in, took_byte}
use Rattle.edi_session.specs.Session.{behind}

-- ---- ends of calls

-- the object that has failed, where a session ends by a fault
abbrev pub failed_by : SessionEnd → Option Outside
failed_by end.Halted = None
failed_by end.InputEnd = None
failed_by end.Limit = None
failed_by end.DriveFault = Some outside.Drive
failed_by end.InputFault = Some outside.Input
failed_by end.TerminalFault = Some outside.Terminal
failed_by end.PrinterFault = Some outside.Printer

-- a call ended by the fault of an object
abbrev pub IsFault : SessionEnd → Type 0
IsFault end.Halted = ⊥
IsFault end.InputEnd = ⊥
IsFault end.Limit = ⊥
IsFault end.DriveFault = ⊤
IsFault end.InputFault = ⊤
IsFault end.TerminalFault = ⊤
IsFault end.PrinterFault = ⊤

module _ {C : Type 0} (ready : C → Type 0) (failed : C → Option Outside) where
  -- behind a call a further one may be made, or the object that it names has failed
  abbrev pub IsLeft : {X : Type 0} → Result X SessionEnd → C → Type 0
  IsLeft (Ok x) c = ready c
  IsLeft (Err e) c = IsFault e × (failed c ≡ failed_by e)

  -- so behind a call of the catalogue
  abbrev pub IsLeftBy : {X : Type 0} → Result X CatEnd → C → Type 0
  IsLeftBy (Err cat.Fault) c = failed c ≡ Some outside.Drive
  IsLeftBy _ c = ready c

-- the object stands at this shell
abbrev pub At : {C : Type 0} → (at : C → State → ℕ → Type 0) → C → Shell → Type 0
At at c s = at c (state_in s) s.shown_before

-- An object outside has failed, and it stands at a state through which this shell came and at which that object may fail.
pub record StandsIn {C : Type 0} (stands : C → Outside → State → Type 0) (s : Shell) (c : C) : Type 0 where
  pub failed : Outside
  pub moment : State
  pub there : MayFail failed (states_of s.system) moment
  pub is : stands c failed moment

-- The input has failed at its next byte: the object stands at a state through which the shell came that has taken that byte.
abbrev pub FailsAtByte : {C : Type 0} → (stands : C → Outside → State → Type 0) → Shell → C → Type 0
FailsAtByte stands s c = (byte : ℕ) × (left : List ℕ) × ((state_in s).input ≡ byte ∷ left) × StandsIn stands (took_byte left s) c

-- so many bytes of these are those of the file, if there is one
abbrev pub HasRead : Option ℕ → Option File → (part : List ℕ → List ℕ) → (into : List ℕ) → Type 0
HasRead (Some n) (Some file) part into = take n into ≡ part file.bytes
HasRead None None part into = ⊤
HasRead _ _ part into = ⊥

-- the files become these
abbrev pub with_slots : List (Option File) → Shell → Shell
with_slots slots s = record s { system = has_slots slots s.system }

-- An execution of code has this end, and left this shell.
pub record HasRun (code : CodeParts) (bound : ℕ) (choices : Choices) (ending_ : outcome.Ending) (drawn : ℕ) (s after : Shell) : Type 0 where
  pub machine : Machine
  pub past : List State
  pub ends : EndsThrough (fetch code.words) code.entry code.calls (fresh (state_in s)) bound choices s.drawn ending_ machine drawn past
  pub is : after ≡ behind machine.system past drawn s

module _ {C : Type 0} (at : C → State → ℕ → Type 0) (stands : C → Outside → State → Type 0) where
  -- a call leads to this shell, or a fault on the way there
  abbrev pub Leads : {X : Type 0} → Result X SessionEnd → Shell → C → Type 0
  Leads (Ok x) s c = At at c s
  Leads (Err e) s c = StandsIn stands s c

  -- the next byte of the input is taken, or there is none, or the input has failed at it
  abbrev pub Takes : Result (Option ℕ) SessionEnd → Shell → C → Type 0
  Takes (Ok (Some byte)) s c = (left : List ℕ) × ((state_in s).input ≡ byte ∷ left) × At at c (took_byte left s)
  Takes (Ok None) s c = ((state_in s).input ≡ []) × At at c s
  Takes (Err e) s c = FailsAtByte stands s c

  abbrev pub ReadsFile : Result (Option ℕ) SessionEnd → Option File → (into : List ℕ) → Shell → C → Type 0
  ReadsFile (Ok read) file into s c = HasRead read file (λ bytes. bytes) into × At at c s
  ReadsFile (Err e) file into s c = StandsIn stands s c

  abbrev pub ReadsPage : Result (Option ℕ) SessionEnd → Option File → (i : ℕ) → (into : List ℕ) → Shell → C → Type 0
  ReadsPage (Ok read) file i into s c = HasRead read file (λ bytes. take 512 (drop (512 * i) bytes)) into × At at c s
  ReadsPage (Err e) file i into s c = StandsIn stands s c

  -- A call of the catalogue is refused exactly for the first reason against it; else the files become the wanted ones.
  abbrev pub Answers : Result (Unit {0}) CatEnd → (refusal : Option CatEnd) → (wanted : List (Option File)) → Shell → C → Type 0
  Answers (Ok x) refusal wanted s c = (refusal ≡ None) × At at c (with_slots wanted s)
  Answers (Err cat.Fault) refusal wanted s c = (refusal ≡ None) × StandsIn stands (with_slots wanted s) c
  Answers (Err why) refusal wanted s c = (refusal ≡ Some why) × At at c s

  pub record RunsTo (code : CodeParts) (bound : ℕ) (choices : Choices) (e : Ending) (drawn : ℕ) (s : Shell) (c : C) : Type 0 where
    pub ending_ : outcome.Ending
    pub same : EndsAs ending_ e
    pub after : Shell
    pub runs : HasRun code bound choices ending_ drawn s after
    pub at_ : At at c after

  -- an object failed in the midst of the execution
  pub record RunBreaks (code : CodeParts) (bound : ℕ) (choices : Choices) (s : Shell) (c : C) : Type 0 where
    pub ending_ : outcome.Ending
    pub drawn : ℕ
    pub after : Shell
    pub runs : HasRun code bound choices ending_ drawn s after
    pub in_ : StandsIn stands after c

  abbrev pub Runs : CodeParts → (bound : ℕ) → Choices → Result Ending SessionEnd → (drawn : ℕ) → Shell → C → Type 0
  Runs code bound choices (Ok e) drawn s c = RunsTo code bound choices e drawn s c
  Runs code bound choices (Err fault) drawn s c = RunBreaks code bound choices s c
