-- Words of contracts. What the steps on files of the host answer, by the steps of commands.
use Rattle.std.specs.Prelude.{◌≡◌, ◌≤◌, ◌⊎◌, ℕ, List, take, Option, None, Result, Ok, Err, IfErr, IsSome, ⊤}
use Rattle.edi_told.specs.Faults.{CountRose}
use Rattle.edi_told.specs.Told.{WhereTold}
use Rattle.edi_host.specs.Contents.{Contents}
use Rattle.edi_trace.specs.Drawn.{Drawn}
use Rattle.edi_trace.specs.Lines.{read_of}
use Rattle.edi_words.specs.Words.{ChoicesFrom}
use Rattle.edi_statuses.specs.declared.status.Status.{Status}
use Rattle.edi_statuses.specs.declared.status.Status.TheVariants as status
use Rattle.edi_statuses.specs.Outside.{Outside, IsSomeFile, with_kept, without_names}
use Rattle.edi_statuses.specs.Steps.{goes, stops, Fetches, GivesChoices, ReadsChoices, ChoicesAreThere}
use Rattle.edi_statuses.specs.Executions.{record_of}
use Rattle.edi_statuses.specs.Broken.{names_in}

-- the outside of which only the files are looked at
abbrev pub files_only : Option Contents → Outside
files_only files = record { files = files; blocks = None; input = None; shown = None; printed = None }

-- The files were only read: they have what they had, their count of faults has not fallen, and it rose where a status tells their fault.
pub record OnlyReadsFiles {V F : Type 0} (contents : F → Option Contents) (faults : F → ℕ) (result : Result V Status) (before after : F) : Type 0 where
  pub unchanged : WhereTold (contents before) (contents after) (λ old new. new ≡ old)
  pub later : faults before ≤ faults after
  pub cause : IfErr result (λ s. s ≡ status.FileFault → CountRose (faults before) (faults after))

-- The first bytes of a file are fetched, or the step stops; want of memory may come at any file, and a fault at one that is there.
abbrev pub FetchStep : {V : Type 0} → (V → List ℕ) → Outside → (name : List ℕ) → (limit : ℕ) → Result V Status → Type 0
FetchStep items o name limit (Ok v) = (all : List ℕ) × Fetches o name (goes all) × (items v ≡ take limit all)
FetchStep items o name limit (Err status.NoMemory) = ⊤
FetchStep items o name limit (Err status.FileFault) = IsSomeFile o name
FetchStep items o name limit (Err s) = Fetches o name (stops s)

-- the bytes of a file of choices are read
abbrev pub FileChoices : (bytes : List ℕ) → Result Drawn Status → Type 0
FileChoices bytes (Ok choices) = (choices.drawn ≡ 0) × GivesChoices (read_of bytes) (goes choices.source)
FileChoices bytes (Err status.NoMemory) = ⊤
FileChoices bytes (Err s) = GivesChoices (read_of bytes) (stops s)

-- the choices of a run are read, and none of them is drawn; only a file of choices that is there may be a fault
abbrev pub ChoicesStep : Outside → ChoicesFrom → Result Drawn Status → Type 0
ChoicesStep o from (Ok choices) = (choices.drawn ≡ 0) × ReadsChoices o from (goes choices.source)
ChoicesStep o from (Err status.NoMemory) = ⊤
ChoicesStep o from (Err status.FileFault) = ChoicesAreThere o from
ChoicesStep o from (Err s) = ReadsChoices o from (stops s)

-- The record is kept, if one is asked for; else all files are as before, but for that of the record after a fault.
abbrev pub RecordStep : {A : Type 0} → (name : Option (List ℕ)) → Drawn → Result A Status → (before after : Option Contents) → Type 0
RecordStep name choices (Ok done) before after =
    WhereTold before after (λ old new. new ≡ with_kept (record_of name choices.source choices.drawn) old)
RecordStep name choices (Err status.NoMemory) before after = IsSome name × WhereTold before after (λ old new. new ≡ old)
RecordStep name choices (Err status.FileFault) before after =
    IsSome name × WhereTold before after (λ old new. without_names (names_in name) new ≡ without_names (names_in name) old)
RecordStep name choices (Err s) before after = ⊥

-- A command that came to this status keeps its record and ends by it, or by the status that tells why the record is not kept.
abbrev pub RecordEnd : (name : Option (List ℕ)) → Drawn → (came ends : Status) → (before after : Option Contents) → Type 0
RecordEnd name choices came ends before after =
    ((ends ≡ came) × RecordStep {A = Unit {0}} name choices (Ok tt) before after) ⊎ RecordStep {A = Unit {0}} name choices (Err ends) before after
