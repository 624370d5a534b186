-- Why a file was not fetched, and the choices of one that was.
use Rattle.std.proofs.Common.{◌≡◌, ◌∙◌, ℕ, List, take, Result, Ok, Err, IfErr, refl, sym, ap, subst, inl, inr}
use Rattle.std.specs.Prelude.{◌⊎◌, IfSome, IsSome, Option, None, Some}
use Rattle.std.specs.FinMap as map
use Rattle.edi_host.specs.Contents.{Contents}
use Rattle.edi_trace.specs.Drawn.{Drawn}
use Rattle.edi_trace.specs.Limit.{most_fetched}
use Rattle.edi_trace.specs.Lines.{Reading, values, bad_line, read_of}
use Rattle.edi_trace.proofs.Limited.{first_bytes_decide}
use Rattle.edi_words.specs.Words.{ChoicesFrom, file, nowhere, seed}
use Rattle.edi_statuses.specs.declared.status.Status.{Status}
use Rattle.edi_statuses.specs.declared.status.Status.TheVariants as status
use Rattle.edi_statuses.specs.EachObject.{FitsCount}
use Rattle.edi_statuses.specs.Outside.{Outside, IsSomeFile}
use Rattle.edi_statuses.specs.Steps.{AfterStep, goes, stops, ◌>>=◌, Fetches, GivesChoices, ReadsChoices}
use Rattle.edi_main.specs.steps.OnFiles.{FetchStep, FileChoices, ChoicesStep}

-- why nothing was fetched
pub fetch_stopped : {V : Type 0} (items : V → List ℕ) (o : Outside) (name : List ℕ) (limit : ℕ) (s : Status) → FetchStep items o name limit (Err s)
    → (s ≡ status.NoMemory) ⊎ (((s ≡ status.FileFault) × IsSomeFile o name) ⊎ Fetches o name (stops s))
fetch_stopped items o name limit status.NoMemory h = inl refl
fetch_stopped items o name limit status.FileFault h = inr (inl (refl, h))
fetch_stopped items o name limit s h = inr (inr h)

-- so the first step of a command stops it
pub first_stops : {V A : Type 0} (items : V → List ℕ) (more : List ℕ → AfterStep A → Type 0) (o : Outside) (name : List ℕ) (limit : ℕ) (s : Status)
    → FetchStep items o name limit (Err s)
    → (s ≡ status.NoMemory) ⊎ (((s ≡ status.FileFault) × IsSomeFile o name) ⊎ (Fetches o name >>= more) (stops s))
first_stops items more o name limit status.NoMemory h = inl refl
first_stops items more o name limit status.FileFault h = inr (inl (refl, h))
first_stops items more o name limit s h = inr (inr (inl h))

-- what was fetched is there
pub fetched_there : (o : Outside) (name all : List ℕ) → Fetches o name (goes all) → IsSomeFile o name
fetched_there o name all f = go o.files f
  where
    go : (files : Option Contents) → IfSome files (λ contents. map.get contents name ≡ Some all) → IfSome files (λ contents. IsSome (map.get contents name))
    go None h = tt
    go (Some contents) h = subst IsSome (sym h) refl

-- the status of a step on files says nothing of the drive
pub fetch_fits : {V : Type 0} (items : V → List ℕ) (o : Outside) (name : List ℕ) (limit : ℕ) (s : Status) (count : ℕ)
    → FetchStep items o name limit (Err s) → FitsCount s count
fetch_fits items o name limit status.NoMemory count h = tt
fetch_fits items o name limit status.FileFault count h = tt
fetch_fits items o name limit s count h = subst (λ x. FitsCount x count) (sym h.0) tt

given_fits : (reading : Reading) (s : Status) (count : ℕ) → GivesChoices reading (stops s) → FitsCount s count
given_fits (values list) s count h = absurd h
given_fits (bad_line n) s count h = subst (λ x. FitsCount x count) (sym h) tt

read_fits : (o : Outside) (from : ChoicesFrom) (s : Status) (count : ℕ) → ReadsChoices o from (stops s) → FitsCount s count
read_fits o nowhere s count h = absurd h
read_fits o (seed n) s count h = absurd h
read_fits o (file name) s count (inl h) = subst (λ x. FitsCount x count) (sym h.0) tt
read_fits o (file name) s count (inr h) = given_fits (read_of h.0) s count h.2

pub choices_fit : (o : Outside) (from : ChoicesFrom) (s : Status) (count : ℕ) → ChoicesStep o from (Err s) → FitsCount s count
choices_fit o from status.NoMemory count h = tt
choices_fit o from status.FileFault count h = tt
choices_fit o from s count h = read_fits o from s count h

-- the first bytes are read as all are
same_reading : (bytes all : List ℕ) → bytes ≡ take most_fetched all → read_of bytes ≡ read_of all
same_reading bytes all e = ap read_of e ∙ (first_bytes_decide all).0

no_fault_of : (reading : Reading) → GivesChoices reading (stops status.FileFault) → ⊥
no_fault_of (values list) h = h
no_fault_of (bad_line n) h = absurd (cc)

pub file_step : (o : Outside) (name bytes all : List ℕ) (r : Result Drawn Status) → Fetches o name (goes all) → bytes ≡ take most_fetched all
    → FileChoices bytes r → ChoicesStep o (file name) r
file_step o name bytes all (Ok choices) f e h =
    (h.0, inr (all, f, subst (λ x. GivesChoices x (goes choices.source)) (same_reading bytes all e) h.1))
file_step o name bytes all (Err status.NoMemory) f e h = tt
file_step o name bytes all (Err status.FileFault) f e h = absurd (no_fault_of (read_of bytes) h)
file_step o name bytes all (Err s) f e h = inr (all, f, subst (λ x. GivesChoices x (stops s)) (same_reading bytes all e) h)

-- a file of choices that is there is no fault
pub no_fault : (bytes : List ℕ) (r : Result Drawn Status) (P : Type 0) → FileChoices bytes r → IfErr r (λ s. s ≡ status.FileFault → P)
no_fault bytes (Ok choices) P h = tt
no_fault bytes (Err s) P h = λ e. absurd (no_fault_of (read_of bytes) (subst (λ x. FileChoices bytes (Err x)) e h))
