-- The status of a run or of a session whose drive was asked fits the number of blocks, and is none of a step before that.
use Rattle.std.proofs.Common.{◌≡◌, ◌∙◌, ℕ, true, false, true≢false, List, Option, Err, refl, sym, subst, inl, inr}
use Rattle.edi_calls.specs.declared.ends.Outside as failing
use Rattle.edi_calls.specs.declared.ends.Outside.TheVariants as object
use Rattle.edi_calls.specs.Outcome as outcome
use Rattle.edi_calls.specs.Outcome.{Ending}
use Rattle.edi_catalog.specs.Counted.{IsOfCount}
use Rattle.edi_host.specs.Contents.{Contents}
use Rattle.edi_image.specs.declared.faults.MountFault.{MountFault}
use Rattle.edi_trace.specs.Drawn.{Drawn}
use Rattle.edi_statuses.specs.declared.status.Status.{Status}
use Rattle.edi_statuses.specs.declared.status.Status.TheVariants as status
use Rattle.edi_statuses.specs.EachObject.{MayBeImage, is_before_drive}
use Rattle.edi_statuses.specs.Executions.{status_of}
use Rattle.edi_statuses.specs.Showing.{ShowsFar}
use Rattle.edi_main.specs.steps.NotMounted.{mount_status}
use Rattle.edi_main.specs.steps.OnFiles.{RecordEnd, RecordStep}
use Rattle.edi_main.proofs.steps.Unmounted.{unmounted_behind, unmounted_fits}
use Rattle.edi_statuses.specs.Executions.{object_status}
use Rattle.edi_main.specs.run.OnMounted.{DriveAsked}

-- another status that is the same
pub asked_so : (s t : Status) (count : ℕ) → t ≡ s → DriveAsked s count → DriveAsked t count
asked_so s t count same = subst (λ x. DriveAsked x count) (sym same)

pub unmounted_asked : (why : MountFault) (count : ℕ) → IsOfCount count why → DriveAsked (mount_status why) count
unmounted_asked why count h = record { behind_steps = unmounted_behind why; fits = unmounted_fits why count h }

-- an object has failed
pub failed_asked : (count : ℕ) → MayBeImage count → (o : failing.Outside) → DriveAsked (object_status o) count
failed_asked count image object.Drive = record { behind_steps = refl; fits = image }
failed_asked count image object.Input = record { behind_steps = refl; fits = image }
failed_asked count image object.Terminal = record { behind_steps = refl; fits = tt }
failed_asked count image object.Printer = record { behind_steps = refl; fits = tt }

-- the run has come to its ending
pub ended_asked : (count : ℕ) → MayBeImage count → (e : Ending) → DriveAsked (status_of e) count
ended_asked count image outcome.done = record { behind_steps = refl; fits = image }
ended_asked count image (outcome.halted line) = record { behind_steps = refl; fits = image }
ended_asked count image (outcome.failed why line) = record { behind_steps = refl; fits = image }
ended_asked count image outcome.turns = record { behind_steps = refl; fits = image }
ended_asked count image outcome.standstill = record { behind_steps = refl; fits = image }
ended_asked count image (outcome.bad address) = record { behind_steps = refl; fits = image }

-- the record was not kept
unkept_asked : (count : ℕ) (name : Option (List ℕ)) (drawn : Drawn) (s : Status) (old new : Option Contents)
    → RecordStep {A = Unit {0}} name drawn (Err s) old new → DriveAsked s count
unkept_asked count name drawn status.NoMemory old new h = record { behind_steps = refl; fits = tt }
unkept_asked count name drawn status.FileFault old new h = record { behind_steps = refl; fits = tt }
unkept_asked count name drawn s old new h = absurd h

-- it was kept, or not
pub record_asked : (count : ℕ) (name : Option (List ℕ)) (drawn : Drawn) (s t : Status) (old new : Option Contents) → DriveAsked s count
    → RecordEnd name drawn s t old new → DriveAsked t count
record_asked count name drawn s t old new h (inl kept) = asked_so s t count kept.0 h
record_asked count name drawn s t old new h (inr why) = unkept_asked count name drawn t old new why

-- then the command has not stopped at a step before
pub never_early : (s : Status) → is_before_drive s ≡ false → is_before_drive s ≡ true → ⊥
never_early s behind early = true≢false (sym early ∙ behind)

-- nor where its line was shown, or a first part of it
pub shown_behind : (s : Status) (front all : List ℕ) → ShowsFar s front all → is_before_drive s ≡ false
shown_behind status.Ok front all far = refl
shown_behind status.OutputFault front all far = refl
shown_behind s front all far = absurd far
