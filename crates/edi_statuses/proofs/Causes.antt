-- The cause of a fault, behind the line of a status.
use Rattle.std.proofs.Common.{◌≡◌, ◌⊎◌, ℕ, ◌+◌, ◌≤◌, Bool, true, false, Option, Some, None, min, inl, inr, arith, subst}
use Rattle.edi_told.specs.Faults.{CountRose}
use Rattle.edi_calls.specs.declared.ends.Outside as failing
use Rattle.edi_calls.specs.declared.ends.Outside.TheVariants as object
use Rattle.edi_statuses.specs.declared.status.Status.{Status}
use Rattle.edi_statuses.specs.declared.status.Status.TheVariants as status
use Rattle.edi_statuses.specs.Counts.{Counts, HasCause, IsBlamed, OutputRose}

below : (least b c : ℕ) → least ≤ b → b ≤ c → least ≤ c
below least b c low high = omega (arith, low, high)

pub rose_then : (a b c : ℕ) → CountRose a b → b ≤ c → CountRose a c
rose_then a b c rose later = below _ b c rose later

lower : (a b c most : ℕ) → a ≤ b → min (b + 1) most ≤ c → min (a + 1) most ≤ c
lower a b c most later rose = omega (arith, later, rose)

-- a count that rose later has risen since before
pub rose_before : (a b c : ℕ) → a ≤ b → CountRose b c → CountRose a c
rose_before a b c later rose = lower a b c _ later rose

-- the cause of a status stays its cause where the terminal fails later
pub cause_later : (s : Status) (files drive input printer terminal later : ℕ) (had : Counts) → terminal ≤ later
    → HasCause s had (record { files = files; drive = drive; input = input; terminal = terminal; printer = printer })
    → HasCause s had (record { files = files; drive = drive; input = input; terminal = later; printer = printer })
cause_later status.OutputFault files drive input printer terminal later had grows (inl h) = inl (rose_then had.terminal terminal later h grows)
cause_later status.OutputFault files drive input printer terminal later had grows (inr h) = inr h
cause_later status.Ok files drive input printer terminal later had grows h = h
cause_later status.Words files drive input printer terminal later had grows h = h
cause_later status.NoMemory files drive input printer terminal later had grows h = h
cause_later (status.Refused kind line) files drive input printer terminal later had grows h = h
cause_later (status.Stopped cause line) files drive input printer terminal later had grows h = h
cause_later status.Turns files drive input printer terminal later had grows h = h
cause_later status.FileFault files drive input printer terminal later had grows h = h
cause_later status.DriveFault files drive input printer terminal later had grows h = h
cause_later status.InputFault files drive input printer terminal later had grows h = h
cause_later (status.BadImage broken) files drive input printer terminal later had grows h = h
cause_later (status.BadCode broken) files drive input printer terminal later had grows h = h
cause_later (status.BadState address) files drive input printer terminal later had grows h = h
cause_later status.Absent files drive input printer terminal later had grows h = h
cause_later (status.BadChoices line) files drive input printer terminal later had grows h = h
cause_later status.SessionLimit files drive input printer terminal later had grows h = h
cause_later status.DiskFull files drive input printer terminal later had grows h = h
cause_later status.FileLarge files drive input printer terminal later had grows h = h
cause_later status.Standstill files drive input printer terminal later had grows h = h
cause_later (status.BadPoints line) files drive input printer terminal later had grows h = h
cause_later (status.Found others) files drive input printer terminal later had grows h = h
cause_later status.NotAll files drive input printer terminal later had grows h = h
cause_later status.InputLimit files drive input printer terminal later had grows h = h
cause_later status.NoEnding files drive input printer terminal later had grows h = h

-- ---- which output it is

-- what is blamed for the output stays to be blamed where the terminal fails later
pub output_later : (seen : Bool) (blamed : Option failing.Outside) (files drive input printer terminal later : ℕ) (had : Counts) → terminal ≤ later
    → OutputRose seen blamed had (record { files = files; drive = drive; input = input; terminal = terminal; printer = printer })
    → OutputRose seen blamed had (record { files = files; drive = drive; input = input; terminal = later; printer = printer })
output_later false blamed files drive input printer terminal later had grows h = rose_then had.terminal terminal later h grows
output_later true (Some object.Terminal) files drive input printer terminal later had grows h = rose_then had.terminal terminal later h grows
output_later true (Some object.Printer) files drive input printer terminal later had grows h = h
output_later true (Some object.Drive) files drive input printer terminal later had grows (inl h) = inl (rose_then had.terminal terminal later h grows)
output_later true (Some object.Drive) files drive input printer terminal later had grows (inr h) = inr h
output_later true (Some object.Input) files drive input printer terminal later had grows (inl h) = inl (rose_then had.terminal terminal later h grows)
output_later true (Some object.Input) files drive input printer terminal later had grows (inr h) = inr h
output_later true None files drive input printer terminal later had grows (inl h) = inl (rose_then had.terminal terminal later h grows)
output_later true None files drive input printer terminal later had grows (inr h) = inr h

-- the output has its cause, and what is blamed is
pub output_rose : (blamed : Option failing.Outside) (s : Status) (had has : Counts)
    → IsBlamed blamed s had.terminal has.terminal had.printer has.printer → HasCause s had has → s ≡ status.OutputFault → OutputRose true blamed had has
output_rose blamed s had has is cause same = go blamed is where
  either : CountRose had.terminal has.terminal ⊎ CountRose had.printer has.printer
  either = subst (λ x. HasCause x had has) same cause

  go : (blamed : Option failing.Outside) → IsBlamed blamed s had.terminal has.terminal had.printer has.printer → OutputRose true blamed had has
  go (Some object.Terminal) h = h same
  go (Some object.Printer) h = h same
  go (Some object.Drive) h = either
  go (Some object.Input) h = either
  go None h = either
