-- What ended by a fault, and what ended otherwise.
use Rattle.std.proofs.Common.{◌≡◌, Bool, true, false}
use Rattle.edi_shell.specs.sessions.Ends.{ByFault}

pub failed_so : (fault : Bool) (Ended Failed : Type 0) → fault ≡ true → ByFault fault Ended Failed → Failed
failed_so true Ended Failed is h = h
failed_so false Ended Failed is h = absurd (cc)

pub ended_so : (fault : Bool) (Ended Failed : Type 0) → fault ≡ false → ByFault fault Ended Failed → Ended
ended_so true Ended Failed is h = absurd (cc)
ended_so false Ended Failed is h = h

pub by_fault : (fault : Bool) (Ended Failed : Type 0) → fault ≡ true → Failed → ByFault fault Ended Failed
by_fault true Ended Failed is h = h
by_fault false Ended Failed is h = absurd (cc)

pub by_end : (fault : Bool) (Ended Failed : Type 0) → fault ≡ false → Ended → ByFault fault Ended Failed
by_end true Ended Failed is h = absurd (cc)
by_end false Ended Failed is h = h

pub otherwise : (fault : Bool) (Ended Failed Ended' Failed' : Type 0) → (Ended → Ended') → (Failed → Failed') → ByFault fault Ended Failed
    → ByFault fault Ended' Failed'
otherwise true Ended Failed Ended' Failed' ended failed h = failed h
otherwise false Ended Failed Ended' Failed' ended failed h = ended h
