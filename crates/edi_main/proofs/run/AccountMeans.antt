-- What a status means of a command that keeps an account, from what its code has left.
use Rattle.std.proofs.Common.{◌⊎◌, ℕ, List, Option, refl, inl, inr}
use Rattle.std.specs.Prelude.{◌++◌}
use Rattle.edi_calls.specs.Choice.{Choices}
use Rattle.edi_words.specs.Words as words
use Rattle.edi_words.specs.Words.{Account, Options}
use Rattle.edi_statuses.specs.declared.status.Status.{Status}
use Rattle.edi_statuses.specs.declared.status.Status.TheVariants as status
use Rattle.edi_statuses.specs.Outside.{Outside, IsSomeFile, SameBut, SameFiles, Lent}
use Rattle.edi_statuses.specs.Steps.{AfterStep, goes, stops, Mounts}
use Rattle.edi_statuses.specs.Executions.{Runnable, text, code, BrokeRun}
use Rattle.edi_statuses.specs.Commands.{Does, ExecSteps, IsNothing, RunSteps}
use Rattle.edi_statuses.specs.Broken.{ExecAsks, HasBegun, HasNotBegun, RunAsks, names_in}
use Rattle.edi_statuses.specs.Means.{MeansOf}
use Rattle.edi_statuses.specs.Accounts.{AccountInPart, AccountLost, RunsWith, account_names}
use Rattle.edi_main.specs.run.OnAccounts.{ProgramWith}
use Rattle.edi_main.proofs.run.Meaning.{never_words}

-- ---- what a status means of a command that keeps an account, whatever its steps are

abbrev pub WithMeans : {A : Type 0} → (there asks : Type 0) → (steps : AfterStep A → Type 0) → (A → Runnable) → (A → Choices) → (bound : ℕ)
    → Account → (record_file : Option (List ℕ)) → Status → Outside → Outside → (shown : List ℕ) → Lent → Type 0
WithMeans there asks steps program choices bound account name status.Words before after shown kernel = ⊥
WithMeans there asks steps program choices bound account name status.NoMemory before after shown kernel =
    IsNothing before after shown kernel ⊎ HasBegun steps (λ a. AccountInPart (program a) bound (choices a) account name before after shown kernel)
WithMeans there asks steps program choices bound account name status.FileFault before after shown kernel =
    (SameFiles before after × there × HasNotBegun before after shown kernel)
    ⊎ (SameBut (account_names account ++ names_in name) before after
    × HasBegun steps (λ a. AccountLost (program a) bound (choices a) account name before after shown kernel))
WithMeans there asks steps program choices bound account name status.DriveFault before after shown kernel =
    SameFiles before after
    × ((asks × HasNotBegun before after shown kernel) ⊎ HasBegun steps (λ a. BrokeRun status.DriveFault kernel.failed (program a) bound (choices a) before after shown))
WithMeans there asks steps program choices bound account name status.InputFault before after shown kernel =
    SameFiles before after × HasBegun steps (λ a. BrokeRun status.InputFault kernel.failed (program a) bound (choices a) before after shown)
WithMeans there asks steps program choices bound account name status.OutputFault before after shown kernel =
    SameFiles before after × HasBegun steps (λ a. BrokeRun status.OutputFault kernel.failed (program a) bound (choices a) before after shown)
WithMeans there asks steps program choices bound account name s before after shown kernel =
    Does steps (λ a. RunsWith (program a) bound (choices a) account name) s before after shown kernel

-- so of `run` and `replay`, and of `exec`
pub text_means : (file : List ℕ) (account : Account) (o : Options) (before after : Outside) (shown : List ℕ) (kernel : Lent) (s : Status)
    → WithMeans (IsSomeFile before file) (RunAsks before file o.choices) (RunSteps before file o.choices) (λ a. text a.0) (λ a. a.1) o.turns account
    o.record_file s before after shown kernel → MeansOf s (words.run_with file account o) before after shown kernel
text_means file account o before after shown kernel status.Words h = h
text_means file account o before after shown kernel status.NoMemory h = h
text_means file account o before after shown kernel status.FileFault h = record { uses = refl; far = h }
text_means file account o before after shown kernel status.DriveFault h = record { uses = refl; far = h }
text_means file account o before after shown kernel status.InputFault h = record { uses = tt; far = h }
text_means file account o before after shown kernel status.OutputFault h = record { uses = tt; far = h }
text_means file account o before after shown kernel s h = h

pub code_means : (file : List ℕ) (account : Account) (o : Options) (before after : Outside) (shown : List ℕ) (kernel : Lent) (s : Status)
    → WithMeans (IsSomeFile before file) (ExecAsks before file o.choices) (ExecSteps before file o.choices) (λ a. code a.0) (λ a. a.1) o.turns account
    o.record_file s before after shown kernel → MeansOf s (words.exec_with file account o) before after shown kernel
code_means file account o before after shown kernel status.Words h = h
code_means file account o before after shown kernel status.NoMemory h = h
code_means file account o before after shown kernel status.FileFault h = record { uses = refl; far = h }
code_means file account o before after shown kernel status.DriveFault h = record { uses = refl; far = h }
code_means file account o before after shown kernel status.InputFault h = record { uses = tt; far = h }
code_means file account o before after shown kernel status.OutputFault h = record { uses = tt; far = h }
code_means file account o before after shown kernel s h = h

-- ---- it has run a code

-- its steps go on if the drive is mounted, and stop where it is not
module _ {A : Type 0} (there asks_ : Type 0) (steps_ : AfterStep A → Type 0) (program_ : A → Runnable) (choices : A → Choices) (a : A) (bound : ℕ)
    (account : Account) (name : Option (List ℕ)) (before after : Outside) (shown : List ℕ) (kernel : Lent) (asked : asks_)
    (went : Mounts before (goes tt) → steps_ (goes a)) (stopped : (s : Status) → Mounts before (stops s) → steps_ (stops s)) where
  pub ran_means : (s : Status) → ProgramWith (program_ a) bound (choices a) account name s before after shown kernel
      → WithMeans there asks_ steps_ program_ choices bound account name s before after shown kernel
  ran_means status.Words h = never_words h.1.0 h.1.1
  ran_means status.NoMemory (inl h) = inl h
  ran_means status.NoMemory (inr h) = inr (a, went h.0, h.1)
  ran_means status.FileFault h = inr (h.0, (a, went h.1, h.2))
  ran_means status.DriveFault h = (
    h.0,
    elim h.1 [
      | inl none ↦ inl (asked, none)
      | inr far ↦ inr (a, went far.0, far.1)
    ],
  )
  ran_means status.InputFault h = (h.0, (a, went h.1, h.2))
  ran_means status.OutputFault h = (h.0, (a, went h.1, h.2))
  ran_means (status.BadImage broken) h = inl (stopped (status.BadImage broken) h.0, h.1)
  ran_means s h = inr (a, went h.0, h.1)
