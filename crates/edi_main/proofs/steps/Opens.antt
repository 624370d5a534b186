-- The first two steps of a command that runs or walks through a program, one after the other.
use Rattle.std.proofs.Common.{◌≡◌, ℕ, List, take, Option, Some, Ok, Err, subst, inl, inr}
use Rattle.std.specs.FinMap as map
use Rattle.edi_told.specs.Told.{WhereTold}
use Rattle.edi_host.specs.Contents.{Contents}
use Rattle.edi_calls.specs.Choice.{Choices}
use Rattle.edi_words.specs.Words.{ChoicesFrom}
use Rattle.edi_statuses.specs.declared.status.Status.{Status}
use Rattle.edi_statuses.specs.declared.status.Status.TheVariants as status
use Rattle.edi_statuses.specs.Outside.{Outside, still_told}
use Rattle.edi_statuses.specs.Steps.{AfterStep, goes, stops, Fetches, ReadsChoices}
use Rattle.edi_statuses.proofs.Told.{just_told, still_same, till_the_last}
use Rattle.edi_main.specs.declared.steps.opening.Opened.{Opened}
use Rattle.edi_main.specs.steps.OnFiles.{ChoicesStep, FetchStep, files_only}
use Rattle.edi_main.specs.steps.Opening.{OpenStep}
use Rattle.edi_main.proofs.steps.OnFilesLemmas.{fetched_there}

-- the file was not fetched
pub not_fetched : {V : Type 0} (items : V → List ℕ) (o : Outside) (name : List ℕ) (limit : ℕ) (from : ChoicesFrom) (s : Status)
    → FetchStep items o name limit (Err s) → OpenStep o name limit from (Err s)
not_fetched items o name limit from status.NoMemory h = tt
not_fetched items o name limit from status.FileFault h = h
not_fetched items o name limit from s h = inl h

module _ (old mid new : Option Contents) (first : WhereTold old mid (λ a b. b ≡ a)) (second : WhereTold mid new (λ a b. b ≡ a)) (name : List ℕ)
    (limit : ℕ) (from : ChoicesFrom) where
  abbrev last : Outside
  last = files_only (still_told old new)

  fetched_last : (all : List ℕ) → Fetches (files_only (still_told old mid)) name (goes all) → Fetches last name (goes all)
  fetched_last all f = till_the_last (λ files. map.get files name ≡ Some all) old mid new (just_told (λ a b. b ≡ a) mid new second) f

  read_last : (r : AfterStep Choices) → ReadsChoices (files_only (still_told mid new)) from r → ReadsChoices last from r
  read_last r h =
      subst (λ files. ReadsChoices (files_only files) from r) (still_same old mid new first (just_told (λ a b. b ≡ a) mid new second)) h

  -- the choices were not read
  pub not_read : (all : List ℕ) → Fetches (files_only (still_told old mid)) name (goes all) → (s : Status)
      → ChoicesStep (files_only (still_told mid new)) from (Err s) → OpenStep last name limit from (Err s)
  not_read all f status.NoMemory h = tt
  not_read all f status.FileFault h = fetched_there last name all (fetched_last all f)
  not_read all f s h = inr (all, fetched_last all f, read_last (stops s) h)

  pub opened : (v : Opened) → ((all : List ℕ) × Fetches (files_only (still_told old mid)) name (goes all) × (v.bytes.items ≡ take limit all))
      → (v.choices.drawn ≡ 0) × ReadsChoices (files_only (still_told mid new)) from (goes v.choices.source) → OpenStep last name limit from (Ok v)
  opened v f c = ((f.0, fetched_last f.0 f.1, f.2), c.0, read_last (goes v.choices.source) c.1)
