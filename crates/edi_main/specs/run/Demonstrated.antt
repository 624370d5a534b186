-- Words of contracts. What the demonstration answers, whatever the drive and the input are.
use Rattle.std.specs.Prelude.{◌≡◌, ℕ, Bool, true, false, List, [], Option, Some, None, Result, Ok, Err}
use Rattle.edi_host.specs.Contents.{Contents}
use Rattle.edi_calls.specs.Choice.{Choices}
use Rattle.edi_lex.specs.Symbols.{symbols_of}
use Rattle.edi_utils.specs.Demo.{demo_text}
use Rattle.edi_words.specs.Words as words
use Rattle.edi_words.specs.Words.{Account, Command, Options}
use Rattle.edi_statuses.specs.declared.status.Status.{Status}
use Rattle.edi_statuses.specs.declared.status.Status.TheVariants as status
use Rattle.edi_statuses.specs.Counts.{HasCause, counts_with}
use Rattle.edi_statuses.specs.Outside.{Lent, outside_with}
use Rattle.edi_statuses.specs.Commands.{count_in}
use Rattle.edi_statuses.specs.Decided.{Came}
use Rattle.edi_statuses.specs.Executions.{Runnable, text}
use Rattle.edi_main.specs.run.OnAccounts.{IsGiven, RanWith}
use Rattle.edi_main.specs.declared.run.demonstration.Demo.{Demo}

-- ---- for callers

-- with an account, or without one
abbrev pub demo_with : (n : ℕ) → (account : Option Account) → Options → Command
demo_with n None o = words.demo n o
demo_with n (Some account) o = words.demo_with n account o

-- A command that leaves the drive and the input alone came to this status, whatever these are.
abbrev pub CameAlone : Command → Status → (due : Bool) → (old new : Option Contents) → (taken takes printed prints : Option (List ℕ)) → Lent → Type 0
CameAlone c s due old new taken takes printed prints kernel =
    (blocks : Option (List (List ℕ))) (left : Option (List ℕ))
    → Came s due (Some c) (outside_with old blocks left taken printed) (outside_with new blocks left takes prints) kernel

-- a status that tells a fault has its cause, whatever the counts of the drive and of the input are
abbrev pub HasCauseAlone : Status → (had has had_shown has_shown had_printed has_printed : ℕ) → Type 0
HasCauseAlone s had has had_shown has_shown had_printed has_printed =
    (drive input : ℕ) → HasCause s (counts_with had drive input had_shown had_printed) (counts_with has drive input has_shown has_printed)

-- ---- for the functions below

abbrev pub is_ok : Status → Bool
is_ok status.Ok = true
is_ok s = false

-- the code of the demonstration and the number of its symbols; its text is never refused, but memory may be wanting
abbrev pub DemoStep : (n : ℕ) → Result Demo Status → Type 0
DemoStep n (Ok demo) = IsGiven (Some demo.text.items) demo.code (text (demo_text n)) × (demo.symbols ≡ count_in (symbols_of (demo_text n)))
DemoStep n (Err s) = s ≡ status.NoMemory

-- The code was run without a disk and on an empty input of its own.
pub record RanAlone (account : Option Account) (IsIt : Runnable → Type 0) (bound : ℕ) (choices : Choices) (name : Option (List ℕ)) (s : Status) (due : Bool)
    (old new : Option Contents) (taken takes printed prints : Option (List ℕ)) (kernel : Lent) : Type 0 where
  pub disk : List (List ℕ)
  pub left : List ℕ
  pub ran : RanWith account IsIt bound choices name s due (outside_with old (Some []) (Some []) taken printed)
      (outside_with new (Some disk) (Some left) takes prints) kernel
