-- Words of contracts. The plain data for which the code's values stand.
use Rattle.std.specs.Prelude.{◌≡◌, ⊤, Result, Ok, Err}
use Rattle.edi_static.specs.declared.faults.StaticFault.{StaticFault}
use Rattle.edi_static.specs.declared.faults.StaticFault.TheVariants as fault
use Rattle.edi_static.specs.Judged.{Judged, faults}
use Rattle.edi_sights.specs.declared.awaits.Met as code_met
use Rattle.edi_sights.specs.Counted.{Met}

abbrev pub met_of : code_met.Met → Met
met_of met = record { awaits = met.awaits.items; next = met.next }

-- a fault that is answered is that of the construct; or there was no memory
abbrev pub FaultOf : {A B : Type 0} → Result B StaticFault → Judged A → Type 0
FaultOf (Ok b) judged = ⊤
FaultOf (Err (fault.At why line)) judged = judged ≡ faults why line
FaultOf (Err fault.NoMemory) judged = ⊤
