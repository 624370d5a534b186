-- Words of contracts. Which object is blamed where the output has failed in a command that runs a program.
use Rattle.std.specs.Prelude.{ℕ, Option}
use Rattle.edi_calls.specs.declared.ends.Outside as failing
use Rattle.edi_statuses.specs.declared.status.Status.{Status}
use Rattle.edi_statuses.specs.Counts.{IsBlamed}
use Rattle.edi_statuses.specs.Outside.{Lent, blaming}

-- This is left, and an object is blamed for it, or none. The counts are those of the terminal and of the printer.
abbrev pub Blaming : Status → (had_shown has_shown had_printed has_printed : ℕ) → (left : Lent → Type 0) → Lent → Type 0
Blaming s had_shown has_shown had_printed has_printed left kernel =
    (blamed : Option failing.Outside) × IsBlamed blamed s had_shown has_shown had_printed has_printed × left (blaming blamed kernel)
