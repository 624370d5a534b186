-- Definition. What `explore` leaves: the endings of a text were looked for, whatever the choices are. Lines tell what was found, and the choices of
-- the endings are kept.
use Rattle.std.specs.Prelude.{◌≡◌, ◌<◌, ◌≤◌, ◌⊎◌, ℕ, suc, Bool, true, false, List, [], ◌∷◌, ◌++◌, length, drop, Option, Some, None, is_some}
use Rattle.edi_told.specs.Told.{WhereTold}
use Rattle.edi_unit.specs.Tree.{ProgramUnit}
use Rattle.edi_runs.specs.declared.explore.summary.Summary.{Summary}
use Rattle.edi_runs.specs.declared.explore.summary.Summary.TheVariants as summary
use Rattle.edi_runs.specs.explore.Explorations.{Findings, IsExplorationOf}
use Rattle.edi_runs.specs.explore.Input.{names_accept, most_input}
use Rattle.edi_runs.specs.explore.Lines.{report_text, summary_of}
use Rattle.edi_runs.specs.explore.Records.{most_records, record_names, records_of}
use Rattle.edi_words.specs.Words.{ExploreOptions}
use Rattle.edi_statuses.specs.declared.status.Status.{Status}
use Rattle.edi_statuses.specs.declared.status.Status.TheVariants as status
use Rattle.edi_statuses.specs.Fronts.{IsFront}
use Rattle.edi_statuses.specs.Outside.{Outside, Kept, Keeps, SameFiles, SameBlocks, SameInput, SamePrinted, Lent, with_kept, without_names}

-- ---- the status

-- the status by which the findings are told
abbrev pub status_of_summary : Summary → Status
status_of_summary summary.Fine = status.Ok
status_of_summary summary.Endless = status.NoEnding
status_of_summary summary.NotAll = status.NotAll
status_of_summary (summary.Found n) = status.Found n

-- ---- the input

-- A program that names `accept` is explored with all the bytes that are left of the input, which are taken. Another one is explored with none, and
-- the input is as before.
abbrev pub TakesAll : (accepts : Bool) → (input : List ℕ) → Outside → Outside → Type 0
TakesAll false input before after = (input ≡ []) × SameInput before after
TakesAll true input before after = (length input ≤ most_input) × WhereTold before.input after.input (λ old new. (old ≡ input) × (new ≡ []))

-- the input is as P says; nothing was shown, kept, printed or run, and the drive is as before
pub record OnlyTakes (P : List ℕ → List ℕ → Type 0) (before after : Outside) (shown : List ℕ) (kernel : Lent) : Type 0 where
  pub shown_ : shown ≡ []
  pub input : WhereTold before.input after.input P
  pub files : SameFiles before after
  pub blocks : SameBlocks before after
  pub printed : SamePrinted before after
  pub kernel_same : kernel.after ≡ kernel.before

-- More bytes are left of an input than it may have: the first 65,537 are taken, and no other.
abbrev pub IsTooLong : List ℕ → List ℕ → Type 0
IsTooLong old new = (most_input < length old) × (new ≡ drop (suc most_input) old)

-- Some first bytes of an input were taken, at most one more than it may have.
abbrev pub LosesSome : List ℕ → List ℕ → Type 0
LosesSome old new = (taken : ℕ) × (taken ≤ suc most_input) × (new ≡ drop taken old)

-- An input has failed at a byte that is still left, at most one more than it may have: the bytes before that byte were taken, and no other.
abbrev pub FailsIn : List ℕ → List ℕ → Type 0
FailsIn old new = (taken : ℕ) × (taken ≤ most_input) × (taken < length old) × (new ≡ drop taken old)

-- the program names `accept`, and its input is as P says, with nothing else done
abbrev pub OnlyAccepts : (P : List ℕ → List ℕ → Type 0) → ProgramUnit → Outside → Outside → (shown : List ℕ) → Lent → Type 0
OnlyAccepts P unit before after shown kernel = (names_accept unit ≡ true) × OnlyTakes P before after shown kernel

-- ---- the exploration

-- The text was explored, and this was found. The drive and the printer are as before; of the lent kernel nothing is said.
pub record Explored (bytes : List ℕ) (unit : ProgramUnit) (o : ExploreOptions) (findings : Findings) (before after : Outside) : Type 0 where
  pub input : List ℕ
  pub takes : TakesAll (names_accept unit) input before after
  pub is : IsExplorationOf bytes input o.states o.turns o.shown findings
  pub blocks : SameBlocks before after
  pub printed : SamePrinted before after

-- THE TEXT IS EXPLORED: the lines of what was found are shown, and then the choices of its endings are kept. The status tells what was found.
pub record Explores (bytes : List ℕ) (unit : ProgramUnit) (o : ExploreOptions) (s : Status) (before after : Outside) (shown : List ℕ) : Type 0 where
  pub findings : Findings
  pub explored : Explored bytes unit o findings before after
  pub status_is : s ≡ status_of_summary (summary_of findings)
  pub shown_ : shown ≡ report_text (is_some o.shown) o.record_file findings
  pub keeps : Keeps before after (records_of o.record_file findings.endings)

-- so, or the input is too long
abbrev pub ExploresText : (bytes : List ℕ) → ProgramUnit → ExploreOptions → Status → Outside → Outside → (shown : List ℕ) → Lent → Type 0
ExploresText bytes unit o s before after shown kernel =
    Explores bytes unit o s before after shown ⊎ ((s ≡ status.InputLimit) × OnlyAccepts IsTooLong unit before after shown kernel)

-- ---- where it was broken off

-- the names of the files that may be kept
abbrev pub names_of_records : Option (List ℕ) → List (List ℕ)
names_of_records None = []
names_of_records (Some name) = record_names name 1 most_records

-- Of these files the first some were kept, and the next one was not.
pub record KeepsFirst (all : List Kept) (before after : Outside) : Type 0 where
  pub first : List Kept
  pub next : Kept
  pub more : List Kept
  pub all_ : all ≡ first ++ next ∷ more
  pub keeps : Keeps before after first

-- Of these files the first some were kept. At the next one the files failed, and of this file nothing is said.
pub record LosesNext (all : List Kept) (before after : Outside) : Type 0 where
  pub first : List Kept
  pub next : Kept
  pub more : List Kept
  pub all_ : all ≡ first ++ next ∷ more
  pub files : WhereTold before.files after.files
      (λ old new. without_names (next.0 ∷ []) new ≡ without_names (next.0 ∷ []) (with_kept first old))

-- the lines were shown, and then files were to be kept, of which this is left
pub record ExploredThen (Leaves : List Kept → Outside → Outside → Type 0) (bytes : List ℕ) (unit : ProgramUnit) (o : ExploreOptions)
    (before after : Outside) (shown : List ℕ) : Type 0 where
  pub findings : Findings
  pub explored : Explored bytes unit o findings before after
  pub shown_ : shown ≡ report_text (is_some o.shown) o.record_file findings
  pub files : Leaves (records_of o.record_file findings.endings) before after

-- a first part of the lines was shown
pub record ExploredFront (bytes : List ℕ) (unit : ProgramUnit) (o : ExploreOptions) (before after : Outside) (shown : List ℕ) : Type 0 where
  pub findings : Findings
  pub explored : Explored bytes unit o findings before after
  pub front : IsFront shown (report_text (is_some o.shown) o.record_file findings)

-- the input was taken as for an exploration, and nothing was shown or kept; of the lent kernel nothing is said
pub record ExploredUnshown (unit : ProgramUnit) (before after : Outside) (shown : List ℕ) : Type 0 where
  pub input : List ℕ
  pub takes : TakesAll (names_accept unit) input before after
  pub shown_ : shown ≡ []
  pub files : SameFiles before after
  pub blocks : SameBlocks before after
  pub printed : SamePrinted before after

-- Memory ran out: while the input was read, before the lines were shown, or at a file that was to be kept.
abbrev pub ExploredInPart : (bytes : List ℕ) → ProgramUnit → ExploreOptions → Outside → Outside → (shown : List ℕ) → Lent → Type 0
ExploredInPart bytes unit o before after shown kernel =
    OnlyAccepts LosesSome unit before after shown kernel
    ⊎ (ExploredUnshown unit before after shown ⊎ ExploredThen KeepsFirst bytes unit o before after shown)
