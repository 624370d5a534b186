-- A code file that is loaded, by its first bytes.
use Rattle.std.proofs.Common.{◌≡◌, ◌∙◌, ℕ, List, take, Err, refl, sym, ap}
use Rattle.edi_target.specs.declared.code_fault.CodeFault.{CodeFault}
use Rattle.edi_target.specs.declared.code_fault.CodeFault.TheVariants as fault
use Rattle.edi_target.specs.Check.{CodeParts, IsFault}
use Rattle.edi_target.specs.File.{code_fault_of, code_of}
use Rattle.edi_target.specs.Limit.{most_fetched}
use Rattle.edi_target.proofs.Limited.{first_bytes_decide}
use Rattle.edi_statuses.specs.declared.status.Status.{Status}
use Rattle.edi_statuses.specs.Steps.{goes, stops, Loads}
use Rattle.edi_main.specs.steps.Loaded.{LoadStep, load_status}

-- the file is not loaded
pub load_stops : (bytes : List ℕ) (broken : CodeFault) → IsFault broken (code_fault_of bytes) → LoadStep bytes (Err (load_status broken))
load_stops bytes fault.NoMemory h = tt
load_stops bytes (fault.Short at) h = (fault.Short at, refl, h)
load_stops bytes (fault.Over at) h = (fault.Over at, refl, h)
load_stops bytes (fault.Header at found) h = (fault.Header at found, refl, h)
load_stops bytes (fault.Operation at found) h = (fault.Operation at found, refl, h)
load_stops bytes (fault.Jump at target) h = (fault.Jump at target, refl, h)

-- the first bytes decide
pub loads_all : (all bytes : List ℕ) (parts : CodeParts) → bytes ≡ take most_fetched all → Loads bytes (goes parts) → Loads all (goes parts)
loads_all all bytes parts first h =
    let decide = first_bytes_decide all in
    let none = ap code_fault_of (sym first) ∙ h.0 in
    (sym decide.0 ∙ none, h.1 ∙ ap code_of (first ∙ decide.1 none))

pub stops_all : (all bytes : List ℕ) (s : Status) → bytes ≡ take most_fetched all → Loads bytes (stops s) → Loads all (stops s)
stops_all all bytes s first h = (h.0, h.1, sym (first_bytes_decide all).0 ∙ (ap code_fault_of (sym first) ∙ h.2))
