-- Words of contracts. What a status means of a command that runs a program, whatever its steps are.
use Rattle.std.specs.Prelude.{◌⊎◌, ℕ, List, Option, None}
use Rattle.edi_calls.specs.Choice.{Choices}
use Rattle.edi_words.specs.Words as words
use Rattle.edi_words.specs.Words.{Options}
use Rattle.edi_statuses.specs.declared.status.Status.{Status}
use Rattle.edi_statuses.specs.declared.status.Status.TheVariants as status
use Rattle.edi_statuses.specs.Outside.{Outside, SameBut, SameFiles, Lent}
use Rattle.edi_statuses.specs.Steps.{AfterStep}
use Rattle.edi_statuses.specs.Executions.{Runnable, BrokeRun}
use Rattle.edi_statuses.specs.Commands.{Does, IsNothing, Runs}
use Rattle.edi_statuses.specs.Broken.{AtRecord, HasBegun, RanWhole, RanUnkept, HasNotBegun, names_in}

-- The steps lead to a program and the choices of its run; `there` says that its file is there, `asks` that they have come to the drive.
abbrev pub RunMeans : {A : Type 0} → (there asks : Type 0) → (steps : AfterStep A → Type 0) → (A → Runnable) → (A → Choices) → (bound : ℕ)
    → (record_file : Option (List ℕ)) → Status → Outside → Outside → (shown : List ℕ) → Lent → Type 0
RunMeans there asks steps program choices bound name status.Words before after shown kernel = ⊥
RunMeans there asks steps program choices bound name status.NoMemory before after shown kernel =
    IsNothing before after shown kernel ⊎ AtRecord name steps (λ a. RanUnkept (program a) bound (choices a) before after shown kernel)
RunMeans there asks steps program choices bound name status.FileFault before after shown kernel =
    (SameFiles before after × there × HasNotBegun before after shown kernel)
    ⊎ (SameBut (names_in name) before after × AtRecord name steps (λ a. RanWhole (program a) bound (choices a) before after shown kernel))
RunMeans there asks steps program choices bound name status.DriveFault before after shown kernel =
    SameFiles before after
    × ((asks × HasNotBegun before after shown kernel) ⊎ HasBegun steps (λ a. BrokeRun status.DriveFault kernel.failed (program a) bound (choices a) before after shown))
RunMeans there asks steps program choices bound name status.InputFault before after shown kernel =
    SameFiles before after × HasBegun steps (λ a. BrokeRun status.InputFault kernel.failed (program a) bound (choices a) before after shown)
RunMeans there asks steps program choices bound name status.OutputFault before after shown kernel =
    SameFiles before after × HasBegun steps (λ a. BrokeRun status.OutputFault kernel.failed (program a) bound (choices a) before after shown)
RunMeans there asks steps program choices bound name s before after shown kernel =
    Does steps (λ a. Runs (program a) bound (choices a) name) s before after shown kernel

-- `replay` is `run` with the choices of a file and without a record
abbrev pub replaying : (choices : List ℕ) → (turns : ℕ) → Options
replaying choices turns = record { turns = turns; choices = words.file choices; record_file = None }
