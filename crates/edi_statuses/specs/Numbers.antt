-- Words of contracts. The number of each status.
use Rattle.std.specs.Prelude.{ℕ}
use Rattle.edi_statuses.specs.declared.status.Status.{Status}
use Rattle.edi_statuses.specs.declared.status.Status.TheVariants as status

-- the number of a status, with which the program ends
abbrev pub status_number : Status → ℕ
status_number status.Ok = 0
status_number status.Words = 1
status_number (status.Refused kind line) = 2
status_number (status.Stopped cause line) = 3
status_number status.Turns = 4
status_number status.NoMemory = 5
status_number status.FileFault = 6
status_number status.DriveFault = 7
status_number status.InputFault = 8
status_number status.OutputFault = 9
status_number (status.BadImage broken) = 10
status_number (status.BadCode broken) = 11
status_number (status.BadState address) = 11
status_number status.Absent = 12
status_number (status.BadChoices line) = 13
status_number status.SessionLimit = 14
status_number status.DiskFull = 15
status_number status.FileLarge = 16
status_number status.Standstill = 17
status_number (status.BadPoints line) = 18
status_number (status.Found others) = 19
status_number status.NotAll = 20
status_number status.InputLimit = 21
status_number status.NoEnding = 22
