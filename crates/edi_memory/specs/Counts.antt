-- Words of contracts. The counts of faults of a system in memory.
use Rattle.std.specs.Prelude.{ℕ}
use Rattle.edi_calls.specs.declared.ends.Outside.{Outside}
use Rattle.edi_calls.specs.declared.ends.Outside.TheVariants as outside
use Rattle.edi_memory.specs.declared.faults.Faults.{Faults}

abbrev pub count_of : Faults → Outside → ℕ
count_of faults outside.Drive = faults.drive
count_of faults outside.Input = faults.input
count_of faults outside.Terminal = faults.terminal
count_of faults outside.Printer = faults.printer
