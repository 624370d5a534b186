-- Words of contracts. What the commands on texts that are not run answer, by the steps of commands.
use Rattle.std.specs.Prelude.{◌≡◌, ◌⊎◌, ℕ, List, Result, Ok, Err}
use Rattle.edi_scheme.specs.Laws.{parts_of}
use Rattle.edi_target.specs.File.{code_bytes}
use Rattle.edi_unit.specs.Tree.{ProgramUnit}
use Rattle.edi_disjoint.specs.Report.{IsReport}
use Rattle.edi_texts.specs.declared.kind.RefusalKind.{RefusalKind}
use Rattle.edi_texts.specs.Texts.{IsRefused, IsUnit}
use Rattle.edi_texts.specs.Run.{IsCodeFor}
use Rattle.edi_statuses.specs.declared.status.Status.{Status}
use Rattle.edi_statuses.specs.declared.status.Status.TheVariants as status
use Rattle.edi_statuses.specs.Outside.{Outside, IsSomeFile}
use Rattle.edi_statuses.specs.Steps.{goes, stops, Fetches}
use Rattle.edi_statuses.specs.Commands.{IsShownOf, TextSteps}
use Rattle.edi_main.specs.steps.OnTerminal.{GivesBytes}

-- ---- `compile`

-- the bytes of the text's code, or the text is refused; memory may run out at any text
abbrev pub CodesText : {V : Type 0} → (V → List ℕ) → (text : List ℕ) → Result V Status → Type 0
CodesText items text (Ok v) =
    (unit : ProgramUnit) × IsUnit text unit × IsCodeFor text (parts_of unit) × (items v ≡ code_bytes (parts_of unit))
CodesText items text (Err s) =
    (s ≡ status.NoMemory) ⊎ ((kind : RefusalKind) × (line : ℕ) × (s ≡ status.Refused kind line) × IsRefused text kind line)

-- so of the text in a file; want of memory may come at any file, and a fault at one that is there
abbrev pub CodesFile : {V : Type 0} → (V → List ℕ) → Outside → (name : List ℕ) → Result V Status → Type 0
CodesFile items o name (Ok v) = (text : List ℕ) × Fetches o name (goes text) × CodesText items text (Ok v)
CodesFile items o name (Err s) = (s ≡ status.NoMemory) ⊎ (((s ≡ status.FileFault) × IsSomeFile o name) ⊎ TextSteps o name (stops s))

-- ---- `check`

-- the report on the branches of the text's unit, or the text is refused; memory may run out at any text
abbrev pub ReportsText : {V : Type 0} → (V → List ℕ) → (text : List ℕ) → Result V Status → Type 0
ReportsText items text (Ok v) = (unit : ProgramUnit) × IsUnit text unit × IsReport unit (items v)
ReportsText items text (Err s) =
    (s ≡ status.NoMemory) ⊎ ((kind : RefusalKind) × (line : ℕ) × (s ≡ status.Refused kind line) × IsRefused text kind line)

-- the report on a text's unit
abbrev pub IsReportOf : List ℕ × ProgramUnit → List ℕ → Type 0
IsReportOf a bytes = IsReport a.1 bytes

-- so of the text in a file
abbrev pub ReportsFile : {V : Type 0} → (V → List ℕ) → Outside → (name : List ℕ) → Result V Status → Type 0
ReportsFile items o name result = GivesBytes items (λ o. TextSteps o name) IsReportOf o name result

-- ---- `explain`

-- What is shown of a text, and the status with which the command ends then. Memory may run out at any text.
abbrev pub ExplainsText : {V : Type 0} → (ends : V → Status) → (items : V → List ℕ) → (text : List ℕ) → Result V Status → Type 0
ExplainsText ends items text (Ok v) = IsShownOf text (ends v) (items v)
ExplainsText ends items text (Err s) = s ≡ status.NoMemory

-- such a status with such bytes
abbrev pub IsShownWith : List ℕ → Status × List ℕ → Type 0
IsShownWith text told = IsShownOf text told.0 told.1

-- so of the text in a file
abbrev pub ExplainsFile : {V : Type 0} → (ends : V → Status) → (items : V → List ℕ) → Outside → (name : List ℕ) → Result V Status → Type 0
ExplainsFile ends items o name result = GivesBytes (λ v. (ends v, items v)) (λ o. Fetches o name) IsShownWith o name result
