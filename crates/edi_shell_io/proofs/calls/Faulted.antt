-- What is so of each of the four faults.
use Rattle.edi_session.specs.declared.end.SessionEnd.{SessionEnd}
use Rattle.edi_session.specs.declared.end.SessionEnd.TheVariants as end
use Rattle.edi_shell_io.specs.calls.Standing.{IsFault}

-- it is so of an end by the fault of an object
pub of_fault : (P : SessionEnd → Type 0) → P end.DriveFault → P end.InputFault → P end.TerminalFault → P end.PrinterFault → (e : SessionEnd) → IsFault e → P e
of_fault P drive input terminal printer end.Halted fault = absurd fault
of_fault P drive input terminal printer end.InputEnd fault = absurd fault
of_fault P drive input terminal printer end.Limit fault = absurd fault
of_fault P drive input terminal printer end.DriveFault fault = drive
of_fault P drive input terminal printer end.InputFault fault = input
of_fault P drive input terminal printer end.TerminalFault fault = terminal
of_fault P drive input terminal printer end.PrinterFault fault = printer
