-- Words of contracts. What a function of the code answers for a judged construct.
use Rattle.std.specs.Prelude.{◌≡◌, ℕ, ⊤, Result, Ok, Err}
use Rattle.edi_scope.specs.declared.entity.ScopeFault.{ScopeFault}
use Rattle.edi_scope.specs.declared.entity.ScopeFault.TheVariants as scope_fault
use Rattle.edi_static.specs.declared.faults.StaticKind.TheVariants as kind
use Rattle.edi_static.specs.declared.faults.StaticFault.{StaticFault}
use Rattle.edi_static.specs.declared.faults.StaticFault.TheVariants as fault
use Rattle.edi_static.specs.Judged.{Judged, gives, faults}

-- what the construct gives, seen as plain data, or its fault; or there was no memory
abbrev pub JudgedAnswers : {A B : Type 0} → (B → A) → Result B StaticFault → Judged A → Type 0
JudgedAnswers view (Ok b) judged = judged ≡ gives (view b)
JudgedAnswers view (Err (fault.At why line)) judged = judged ≡ faults why line
JudgedAnswers view (Err fault.NoMemory) judged = ⊤

-- what an answer of the scopes is for a name on a line
abbrev pub fault_at : (line : ℕ) → Result (Unit {0}) ScopeFault → Result (Unit {0}) StaticFault
fault_at line (Ok u) = Ok u
fault_at line (Err scope_fault.Ambiguous) = Err (fault.At kind.Ambiguous line)
fault_at line (Err scope_fault.NoMemory) = Err fault.NoMemory
