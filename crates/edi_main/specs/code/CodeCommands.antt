-- Words of contracts. What the command on a code that is not run answers, by the steps of commands.
use Rattle.std.specs.Prelude.{◌≡◌, ◌⊎◌, ℕ, List, Result, Ok, Err}
use Rattle.edi_target.specs.Check.{CodeParts}
use Rattle.edi_utils.specs.Listing.{listing_of}
use Rattle.edi_statuses.specs.declared.status.Status.{Status}
use Rattle.edi_statuses.specs.declared.status.Status.TheVariants as status
use Rattle.edi_statuses.specs.Outside.{Outside}
use Rattle.edi_statuses.specs.Steps.{goes, stops, Loads}
use Rattle.edi_statuses.specs.Commands.{ListSteps}
use Rattle.edi_main.specs.steps.OnTerminal.{GivesBytes}

-- the listing of the code that the bytes are, or they are refused; memory may run out at any bytes
abbrev pub ListsBytes : {V : Type 0} → (V → List ℕ) → (bytes : List ℕ) → Result V Status → Type 0
ListsBytes items bytes (Ok v) = (parts : CodeParts) × Loads bytes (goes parts) × (items v ≡ listing_of parts.words)
ListsBytes items bytes (Err s) = (s ≡ status.NoMemory) ⊎ Loads bytes (stops s)

abbrev pub IsListing : CodeParts → List ℕ → Type 0
IsListing parts bytes = bytes ≡ listing_of parts.words

-- so of the code in a file
abbrev pub ListsFile : {V : Type 0} → (V → List ℕ) → Outside → (name : List ℕ) → Result V Status → Type 0
ListsFile items o name result = GivesBytes items (λ o. ListSteps o name) IsListing o name result
