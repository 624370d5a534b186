-- From a code file that was fetched to the steps of `list`.
use Rattle.std.proofs.Common.{◌≡◌, inl, inr, ℕ, List, take, Result, Ok, Err, refl}
use Rattle.edi_target.specs.Limit.{most_fetched}
use Rattle.edi_statuses.specs.declared.status.Status.{Status}
use Rattle.edi_statuses.specs.declared.status.Status.TheVariants as status
use Rattle.edi_statuses.specs.Outside.{Outside}
use Rattle.edi_statuses.specs.Steps.{Fetches, goes}
use Rattle.edi_main.specs.steps.Loaded.{LoadStep}
use Rattle.edi_main.proofs.steps.LoadedFiles.{loads_all, stops_all}
use Rattle.edi_main.specs.code.CodeCommands.{ListsBytes, ListsFile}

-- the bytes were not loaded
pub not_loaded : {V : Type 0} (items : V → List ℕ) (bytes : List ℕ) (s : Status) → LoadStep bytes (Err s) → ListsBytes items bytes (Err s)
not_loaded items bytes status.NoMemory h = inl refl
not_loaded items bytes s h = inr h

-- the first bytes of a file decide
pub file_listed : {V : Type 0} (items : V → List ℕ) (o : Outside) (name bytes all : List ℕ) → Fetches o name (goes all) → bytes ≡ take most_fetched all
    → (r : Result V Status) → ListsBytes items bytes r → ListsFile items o name r
file_listed items o name bytes all fetched front (Ok v) h = (h.0, inr (all, fetched, loads_all all bytes h.0 front h.1), h.2)
file_listed items o name bytes all fetched front (Err s) (inl none) = inl none
file_listed items o name bytes all fetched front (Err s) (inr stopped) = inr (inr (inr (all, fetched, stops_all all bytes s front stopped)))
