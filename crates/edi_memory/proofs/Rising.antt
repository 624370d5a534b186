-- Counts of faults that rise.
use Rattle.std.proofs.Common.{◌≤◌}
use Rattle.edi_calls.specs.declared.ends.Outside.{Outside}
use Rattle.edi_calls.specs.declared.ends.Outside.TheVariants as outside
use Rattle.edi_memory.specs.declared.faults.Faults.{Faults}
use Rattle.edi_memory.specs.Counts.{count_of}

-- each count is as great as before, where the four are
pub each_later : (before after : Faults) (other : Outside) → before.drive ≤ after.drive → before.input ≤ after.input
    → before.terminal ≤ after.terminal → before.printer ≤ after.printer → count_of before other ≤ count_of after other
each_later before after outside.Drive drive input terminal printer = drive
each_later before after outside.Input drive input terminal printer = input
each_later before after outside.Terminal drive input terminal printer = terminal
each_later before after outside.Printer drive input terminal printer = printer
