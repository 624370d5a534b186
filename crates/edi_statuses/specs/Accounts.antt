-- Definition. What a run with an account leaves: the program is run to its ending, and then the record of its choices is kept, and the account: a timeline as
-- lines and as a picture, or a dump, the text of who stands where at the end.
use Rattle.std.specs.Prelude.{◌≡◌, ◌≤◌, ℕ, Bool, true, false, List, [], ◌∷◌, ◌++◌, Option, codes}
use Rattle.edi_told.specs.Told.{WhereTold}
use Rattle.edi_calls.specs.Choice.{Choices}
use Rattle.edi_calls.specs.Outcome.{Ending}
use Rattle.edi_dumped.specs.Dumps.{IsDumpOf}
use Rattle.edi_timeline.specs.Picture.{picture_of}
use Rattle.edi_timeline.specs.Text.{text_of}
use Rattle.edi_timeline.specs.Timelines.{Told}
use Rattle.edi_timed.specs.on.Timelines as timed
use Rattle.edi_timed.specs.on.Timelines.{IsTimelineOf, Timable}
use Rattle.edi_words.specs.Words.{Account, timeline, dump}
use Rattle.edi_statuses.specs.declared.status.Status.{Status}
use Rattle.edi_statuses.specs.Outside.{Outside, Keeps, Kept, Lent, devices_of, system_on}
use Rattle.edi_statuses.specs.Executions.{Runnable, text, code, Ran, record_of, status_of}
use Rattle.edi_statuses.specs.Explored.{KeepsFirst, LosesNext}

-- ---- the files

-- their names: of the lines and of the picture of a timeline, or of a dump
abbrev pub account_names : Account → List (List ℕ)
account_names (timeline out) = (out ++ codes ".txt") ∷ (out ++ codes ".svg") ∷ []
account_names (dump out) = out ∷ []

-- whether it is a dump
abbrev pub is_dump : Account → Bool
is_dump (timeline out) = false
is_dump (dump out) = true

-- what they hold of the timeline that is told so
abbrev pub timeline_files : (out : List ℕ) → Told → List Kept
timeline_files out told =
    (out ++ codes ".txt", text_of told.count told.ending told.stints) ∷ (out ++ codes ".svg", picture_of told.count told.ending told.stints) ∷ []

-- ---- the account

abbrev pub timable : Runnable → Timable
timable (text bytes) = timed.text bytes
timable (code parts) = timed.code parts

-- Where the devices tell their contents, this tells the stints of the execution that the choices select.
abbrev pub IsTimeline : Runnable → (bound : ℕ) → Choices → Outside → Outside → Told → Type 0
IsTimeline program bound choices before after told =
    WhereTold (devices_of before) (devices_of after) (λ d e. IsTimelineOf (timable program) (system_on d) bound choices told)

-- And this text tells who stands where at the end of the run of the program's code.
abbrev pub IsDump : Runnable → (bound : ℕ) → Choices → Outside → Outside → (told : List ℕ) → Type 0
IsDump program bound choices before after told =
    WhereTold (devices_of before) (devices_of after) (λ d e. IsDumpOf (timable program) (system_on d) bound choices told)

-- THE FILES OF AN ACCOUNT of this run, in the order in which they are kept
abbrev pub AreOf : Account → Runnable → (bound : ℕ) → Choices → Outside → Outside → List Kept → Type 0
AreOf (timeline out) program bound choices before after made =
    (told : Told) × IsTimeline program bound choices before after told × (made ≡ timeline_files out told)
AreOf (dump out) program bound choices before after made =
    (told : List ℕ) × IsDump program bound choices before after told × (made ≡ (out, told) ∷ [])

-- ---- what is left

-- The program was run to this ending, and then the record and the files of the account were to be kept, of which this is left.
pub record HasAccount (Leaves : List Kept → Outside → Outside → Type 0) (program : Runnable) (bound : ℕ) (choices : Choices) (account : Account)
    (record_file : Option (List ℕ)) (ending : Ending) (before after : Outside) (shown : List ℕ) (kernel : Lent) : Type 0 where
  pub drawn : ℕ
  pub within : drawn ≤ bound
  pub used : kernel.after.used ≤ bound
  pub ran : Ran program bound choices ending drawn before after shown kernel
  pub made : List Kept
  pub are : AreOf account program bound choices before after made
  pub files : Leaves (record_of record_file choices drawn ++ made) before after

abbrev pub KeepsAll : List Kept → Outside → Outside → Type 0
KeepsAll files before after = Keeps before after files

-- A program is run to its ending, which the status tells; the record of its choices and its account are kept.
abbrev pub RunsWith : Runnable → (bound : ℕ) → Choices → Account → (record_file : Option (List ℕ)) → Status → Outside → Outside → (shown : List ℕ)
    → Lent → Type 0
RunsWith program bound choices account record_file s before after shown kernel =
    (ending : Ending) × (s ≡ status_of ending) × HasAccount KeepsAll program bound choices account record_file ending before after shown kernel

-- A program was run to its ending. Memory ran out where the files were to be kept: the first some were, and the next one was not.
abbrev pub AccountInPart : Runnable → (bound : ℕ) → Choices → Account → (record_file : Option (List ℕ)) → Outside → Outside → (shown : List ℕ)
    → Lent → Type 0
AccountInPart program bound choices account record_file before after shown kernel =
    (ending : Ending) × HasAccount KeepsFirst program bound choices account record_file ending before after shown kernel

-- A program was run to its ending. The files failed: the first some were kept, and of the next one nothing is said.
abbrev pub AccountLost : Runnable → (bound : ℕ) → Choices → Account → (record_file : Option (List ℕ)) → Outside → Outside → (shown : List ℕ)
    → Lent → Type 0
AccountLost program bound choices account record_file before after shown kernel =
    (ending : Ending) × HasAccount LosesNext program bound choices account record_file ending before after shown kernel
