-- Faults of parts are those of the whole.
use Rattle.std.proofs.Common.{◌≡◌, ℕ, Err}
use Rattle.edi_static.specs.declared.faults.StaticKind.{StaticKind}
use Rattle.edi_static.specs.declared.faults.StaticFault.{StaticFault}
use Rattle.edi_static.specs.declared.faults.StaticFault.TheVariants as fault
use Rattle.edi_static.specs.Judged.{Judged, faults}
use Rattle.edi_sema.proofs.Answered.{Faulted}
use Rattle.edi_sights.specs.Views.{FaultOf}

-- a part has a fault, and then the whole has it
pub fault_of : {A A' : Type 0} (B : Type 0) (f : StaticFault) (m : Judged A) (part : Judged A') → Faulted f part →
    ((why : StaticKind) (line : ℕ) → part ≡ faults why line → m ≡ faults why line) → FaultOf {B = B} (Err f) m
fault_of B (fault.At why line) m part e h = h why line e
fault_of B fault.NoMemory m part e h = tt
