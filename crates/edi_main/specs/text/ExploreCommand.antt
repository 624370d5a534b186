-- Words of contracts. What the steps of `explore` answer: its program, its input, what is found, and how it ends.
use Rattle.std.specs.Prelude.{◌≡◌, ◌<◌, ◌⊎◌, ℕ, Bool, true, false, List, ◌++◌, length, Option, None, is_some, Result, Ok, Err}
use Rattle.std.specs.Global.{Vec}
use Rattle.edi_told.specs.Told.{WhereTold}
use Rattle.edi_host.specs.declared.files.KeepEnd.{KeepEnd}
use Rattle.edi_host.specs.declared.files.KeepEnd.TheVariants as keep
use Rattle.edi_host.specs.Contents.{Contents}
use Rattle.edi_unit.specs.Tree.{ProgramUnit}
use Rattle.edi_scheme.specs.Laws.{parts_of}
use Rattle.edi_compile.specs.Compiled.{IsFrontOf}
use Rattle.edi_texts.specs.declared.kind.RefusalKind.{RefusalKind}
use Rattle.edi_texts.specs.Texts.{IsRefused}
use Rattle.edi_runs.specs.declared.explore.input.InputFault.{InputFault}
use Rattle.edi_runs.specs.declared.explore.input.InputFault.TheVariants as fault
use Rattle.edi_runs.specs.explore.Explorations.{Findings, IsExplorationOf}
use Rattle.edi_runs.specs.explore.Input.{names_accept}
use Rattle.edi_runs.specs.explore.Keeping.{KeepsInTurn, is_kept}
use Rattle.edi_runs.specs.explore.Lines.{report_text, summary_of}
use Rattle.edi_runs.specs.explore.Openness.{IsOpenness}
use Rattle.edi_runs.specs.explore.Records.{records_of}
use Rattle.edi_runs.specs.explore.Told.{findings_of}
use Rattle.edi_statuses.specs.declared.ended.Ended.{Ended}
use Rattle.edi_statuses.specs.declared.status.Status.{Status}
use Rattle.edi_statuses.specs.declared.status.Status.TheVariants as status
use Rattle.edi_statuses.specs.Explored.{FailsIn, IsTooLong, LosesSome, TakesAll, status_of_summary}
use Rattle.edi_statuses.specs.Fronts.{IsFront}
use Rattle.edi_statuses.specs.Outside.{IsSomeFile, Outside, outside_with}
use Rattle.edi_statuses.specs.Showing.{due_behind}
use Rattle.edi_statuses.specs.Steps.{Fetches, goes, stops}
use Rattle.edi_statuses.specs.Commands.{TextSteps}
use Rattle.edi_main.specs.declared.text.explore.programs.Explorable.{Explorable}
use Rattle.edi_main.specs.declared.text.explore.reports.Explored.{Explored}

-- ---- the program

-- the code of a text's unit, whether its program names `accept`, and what its branches use outside critical phases
pub record IsExplorable (text : List ℕ) (unit : ProgramUnit) (p : Explorable) : Type 0 where
  pub front : IsFrontOf text unit
  pub code_is : p.code ≡ parts_of unit
  pub asks_is : p.asks ≡ names_accept unit
  pub open_is : IsOpenness text unit p.openly

-- so of a text, or the text is refused; memory may run out at any text
abbrev pub ReadsProgram : (text : List ℕ) → Result Explorable Status → Type 0
ReadsProgram text (Ok p) = (unit : ProgramUnit) × IsExplorable text unit p
ReadsProgram text (Err s) =
    (s ≡ status.NoMemory) ⊎ ((kind : RefusalKind) × (line : ℕ) × (s ≡ status.Refused kind line) × IsRefused text kind line)

-- so of the text in a file; memory may run out at any file, and one that is there may fail
abbrev pub GivesProgram : Outside → (name : List ℕ) → Result Explorable Status → Type 0
GivesProgram o name (Ok p) = (text : List ℕ) × Fetches o name (goes text) × ReadsProgram text (Ok p)
GivesProgram o name (Err s) = (s ≡ status.NoMemory) ⊎ (((s ≡ status.FileFault) × IsSomeFile o name) ⊎ TextSteps o name (stops s))

-- ---- the input

-- the status of a command whose input was not read
abbrev pub input_status : InputFault → Status
input_status fault.TooLong = status.InputLimit
input_status fault.Failed = status.InputFault
input_status fault.NoMemory = status.NoMemory

-- the outside of which only the input is looked at
abbrev pub input_only : Option (List ℕ) → Outside
input_only input = outside_with None None input None None

-- All of an input is taken, where the program asks for it; or it is too long, has failed, or there is no memory for it.
abbrev pub TakesInput : (asks : Bool) → Result (Vec ℕ) Status → (old new : Option (List ℕ)) → Type 0
TakesInput asks (Ok bytes) old new = TakesAll asks bytes.items (input_only old) (input_only new)
TakesInput asks (Err status.InputLimit) old new = (asks ≡ true) × WhereTold old new IsTooLong
TakesInput asks (Err status.InputFault) old new = (asks ≡ true) × WhereTold old new FailsIn
TakesInput asks (Err status.NoMemory) old new = (asks ≡ true) × WhereTold old new LosesSome
TakesInput asks (Err s) old new = ⊥

-- ---- what is found

-- It is found of the text with this input, and the lines tell it. Output is looked at or not, and choices are kept under this name or not.
pub record IsExplored (text input : List ℕ) (states turns : ℕ) (shown : Option ℕ) (name : Option (List ℕ)) (e : Explored) : Type 0 where
  pub is : IsExplorationOf text input states turns shown (findings_of e.exploration)
  pub lines_are : e.lines.items ≡ report_text (is_some shown) name (findings_of e.exploration)

-- ---- the end

-- the status of a command whose records were kept, or were not
abbrev pub kept_status : Findings → KeepEnd → Status
kept_status f keep.Ok = status_of_summary (summary_of f)
kept_status f keep.Failed = status.FileFault
kept_status f keep.NoMemory = status.NoMemory

-- The records are kept one after another, where they are asked for, till one is not. There is one then.
pub record KeepsTill (name : Option (List ℕ)) (f : Findings) (s : Status) (old new : Option Contents) : Type 0 where
  pub end : KeepEnd
  pub status_is : s ≡ kept_status f end
  pub keeps : WhereTold old new (KeepsInTurn end (records_of name f.endings))
  pub some : is_kept end ≡ false → 0 < length (records_of name f.endings)

-- The lines are shown, and then the records are kept; or a first part of the lines is shown, where the output has failed.
abbrev pub EndsAs : (name : Option (List ℕ)) → Findings → Status → (front lines : List ℕ) → (old new : Option Contents) → Type 0
EndsAs name f s front lines old new =
    ((s ≡ status.OutputFault) × IsFront front lines × WhereTold old new (λ a b. b ≡ a)) ⊎ ((front ≡ lines) × KeepsTill name f s old new)

-- the terminal has taken them, and a line feed is due behind them, or not
pub record EndsExploring (name : Option (List ℕ)) (f : Findings) (lines : List ℕ) (ended : Ended) (taken takes : Option (List ℕ))
    (old new : Option Contents) : Type 0 where
  pub front : List ℕ
  pub ends : EndsAs name f ended.status front lines old new
  pub shows : WhereTold taken takes (λ a b. b ≡ a ++ front)
  pub due_is : ended.due ≡ due_behind false front
