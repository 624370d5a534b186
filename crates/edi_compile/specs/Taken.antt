-- Words of contracts. The text that an intake has taken so far.
use Rattle.std.specs.Prelude.{ℕ, List}
use Rattle.edi_lex.specs.Reading as scanner
use Rattle.edi_compile.specs.declared.intake.Intake.{Intake}

-- this is the text so far, and memory has not run out
abbrev pub HasTaken : Intake → List ℕ → Type 0
HasTaken intake text = scanner.HasRead intake.scanner text

-- memory has run out
abbrev pub HasFailed : Intake → Type 0
HasFailed intake = scanner.HasFailed intake.scanner
