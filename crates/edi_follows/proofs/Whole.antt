-- THE WHOLE: the lemmas for the constructs, calls, steps and kernels, tied together.
use Rattle.edi_follows.proofs.values.Lengths.{values_are_long}
use Rattle.edi_follows.proofs.values.Zeros.{zero_is_zeros}
use Rattle.edi_follows.specs.places.Coded.{Coded}
use Rattle.edi_follows.specs.places.Scene.{Scene}
use Rattle.edi_follows.specs.places.Constructs.{Constructs}
use Rattle.edi_follows.specs.places.Lands.{LocalClaim, StepClaim, StartClaim}
use Rattle.edi_follows.proofs.places.Instructed.{instructed}
use Rattle.edi_follows.proofs.values.Operands.{operands_do}
use Rattle.edi_follows.proofs.places.Placed.{places}
use Rattle.edi_follows.proofs.calls.Calls.{calls}
use Rattle.edi_follows.proofs.calls.CalledStep.{called_claim}
use Rattle.edi_follows.proofs.calls.ReturnedStep.{returned_claim}
use Rattle.edi_follows.proofs.calls.Asked.{system_does}
use Rattle.edi_follows.proofs.steps.Phases.{statements}
use Rattle.edi_follows.proofs.steps.Stepped.{local_claim}
use Rattle.edi_follows.proofs.kernel.Steps.{step_claim}
use Rattle.edi_follows.proofs.kernel.Kernels.{ends_claim}
use Rattle.edi_follows.proofs.kernel.Going.{goes_claim, arrives_claim, again_claim}
use Rattle.edi_follows.proofs.kernel.Forked.{fork_claim}
use Rattle.edi_follows.proofs.kernel.Leaving.{leave_claim}
use Rattle.edi_follows.proofs.kernel.Meaning.{steps_cohere, steps_queue}
use Rattle.edi_follows.specs.Theorem.{SameOutcome, SameMoments, CodeIsPrivate}
use Rattle.edi_follows.specs.Arrivals.{CodeArrivesAsMeant}
use Rattle.edi_follows.proofs.Coding as coding
use Rattle.edi_follows.proofs.Start.{start_claim}

-- every construct does what it means
constructs : (g : Coded) (s : Scene) → Constructs g s
constructs g s = record {
  operands = operands_do g s;
  places = places g s;
  calls = λ deeper bound. calls g values_are_long zero_is_zeros s deeper bound (system_does g s deeper bound);
  statements = statements g s;
}

-- so does each step of a process alone
local : (g : Coded) → LocalClaim g
local g = local_claim g (constructs g) (instructed g) (λ s. called_claim g values_are_long zero_is_zeros s (system_does g s)) (returned_claim g)

-- and among others
pub steps : (g : Coded) → StepClaim g
steps g = step_claim g (local g) (goes_claim g) (arrives_claim g) (again_claim g) (fork_claim g) (leave_claim g) (ends_claim g) steps_cohere

pub starts : (g : Coded) → StartClaim g
starts g = start_claim g values_are_long zero_is_zeros

-- ---- what is cited of the theorem by the compiler's laws

pub same_outcomes : SameOutcome
same_outcomes = coding.same_outcome steps starts steps_cohere steps_queue

pub same_moments : SameMoments
same_moments = coding.same_moments steps starts steps_cohere steps_queue

pub code_private : CodeIsPrivate
code_private = coding.code_is_private steps starts steps_cohere steps_queue

pub arrives_as_meant : CodeArrivesAsMeant
arrives_as_meant = coding.code_arrives_as_meant steps starts steps_cohere steps_queue
