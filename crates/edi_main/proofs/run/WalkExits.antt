-- From the steps of `walk` and what its walk has left to how it came to its status.
use Rattle.std.proofs.Common.{◌≡◌, ℕ, Bool, List, take, Option, Some, Ok, refl, sym, subst, inl, inr}
use Rattle.std.specs.Prelude.{⊤}
use Rattle.edi_told.specs.Told.{WhereTold}
use Rattle.edi_host.specs.Contents.{Contents}
use Rattle.edi_calls.specs.declared.ends.Outside as failing
use Rattle.edi_calls.specs.Choice.{Choices}
use Rattle.edi_lex.specs.Limit as texts
use Rattle.edi_texts.specs.Texts.{IsUnit}
use Rattle.edi_texts.proofs.Same.{fetched_bytes_decide}
use Rattle.edi_unit.specs.View.{unit_of}
use Rattle.edi_unit.specs.declared.units.Unit.{Unit}
use Rattle.edi_words.specs.Words as words
use Rattle.edi_words.specs.Words.{ChoicesFrom}
use Rattle.edi_statuses.specs.declared.status.Status.{Status}
use Rattle.edi_statuses.specs.declared.status.Status.TheVariants as status
use Rattle.edi_statuses.specs.Outside.{Outside, seen, still_told, KernelLeft, Lent, blaming, idle}
use Rattle.edi_statuses.specs.Steps.{AfterStep, goes, stops, Accepts, Fetches, ReadsChoices, Mounts}
use Rattle.edi_statuses.specs.Broken.{RunAsks}
use Rattle.edi_statuses.specs.Means.{MeansOf}
use Rattle.edi_statuses.specs.Decided.{Came}
use Rattle.edi_statuses.proofs.Told.{itself, just_told, still_same}
use Rattle.edi_main.specs.steps.OnFiles.{files_only}
use Rattle.edi_main.specs.run.FileSteps.{UnitStep}
use Rattle.edi_main.specs.run.OnWalked.{RanWalk, TextWalked}
use Rattle.edi_main.proofs.run.Exits.{with_files}
use Rattle.edi_main.proofs.run.Meaning.{came_of, never_words}
use Rattle.edi_main.proofs.run.Stopping.{StepsBy, StopsAs, still_fetched, still_read, stops_by}

-- the unit of the first bytes of a text is that of the text
pub unit_all : (all bytes : List ℕ) (unit : Unit) → bytes ≡ take texts.most_fetched all → UnitStep bytes (Ok unit) → IsUnit all (unit_of unit)
unit_all all bytes unit first read = (fetched_bytes_decide.there all).unit (unit_of unit) (subst (λ b. IsUnit b (unit_of unit)) first read.unit_is)

module _ (file name : List ℕ) (turns : ℕ) where
  abbrev pub command : words.Command
  command = words.walk file name turns

  abbrev from : ChoicesFrom
  from = words.file name

  abbrev pub Steps : Outside → AfterStep (List ℕ × Choices) → Type 0
  Steps = StepsBy Accepts (λ bytes unit. bytes) file from

  -- it may stop before the drive is looked at
  pub stops_as : StopsAs command file from Accepts Steps
  stops_as =
      stops_by Accepts (λ bytes unit. bytes) command file from (λ b a k n. inl n)
      (λ b a k there same begun. record { uses = refl; far = inl (same, there, begun) }) (λ s b a k h n. inl (h, n))

  -- ---- the walk

  module _ (before : Outside) (kernel : KernelLeft) (blamed : Option failing.Outside) where
    abbrev kernel_so : Lent
    kernel_so = blaming blamed (idle kernel)

    module _ (all : List ℕ) (new : Option Contents) (f : Fetches (files_only (still_told before.files new)) file (goes all)) (choices : Choices)
        (c : ReadsChoices (files_only (still_told before.files new)) from (goes choices)) (same : WhereTold before.files new (λ a b. b ≡ a))
        (unit : Unit) (is_unit : IsUnit all (unit_of unit)) (after : Outside) (files : after.files ≡ new) where
      abbrev x : Outside
      x = seen before after

      last : WhereTold new after.files (λ a b. ⊤)
      last = subst (λ found. WhereTold new found (λ a b. ⊤)) (sym files) (just_told (λ a b. b ≡ a) new new (itself new))

      got : Fetches x file (goes all)
      got = still_fetched before after new last file from all f

      there : ReadsChoices x from (goes choices)
      there = still_read before after new last file from choices c

      asked : RunAsks x file from
      asked = (unit_of unit, inr (all, got, inr (choices, there, is_unit)))

      went : Mounts x (goes tt) → Steps x (goes (all, choices))
      went m = inr (all, got, inr (choices, there, inr (unit_of unit, is_unit, inr (tt, m, refl))))

      unmounted : (s : Status) → Mounts x (stops s) → Steps x (stops s)
      unmounted s m = inr (all, got, inr (choices, there, inr (unit_of unit, is_unit, inl m)))

      walk_means : (s : Status) (shown : List ℕ) → TextWalked all turns choices s x after shown kernel_so → MeansOf s command x after shown kernel_so
      walk_means status.Words shown h = never_words h.1.ending h.1.status_is
      walk_means status.NoMemory shown (inl h) = inl h
      walk_means status.NoMemory shown (inr h) = inr ((all, choices), went h.0, h.1)
      walk_means status.FileFault shown h = absurd h
      walk_means status.DriveFault shown (inl h) = record { uses = refl; far = (h.0, inl (asked, h.1)) }
      walk_means status.DriveFault shown (inr h) = record { uses = refl; far = (h.1.files, inr ((all, choices), went h.0, h.1)) }
      walk_means status.InputFault shown h = record { uses = tt; far = (h.1.files, ((all, choices), went h.0, h.1)) }
      walk_means status.OutputFault shown h = record { uses = tt; far = (h.1.files, ((all, choices), went h.0, h.1)) }
      walk_means (status.BadImage broken) shown h = inl (unmounted (status.BadImage broken) h.0, h.1)
      walk_means s shown h = inr ((all, choices), went h.0, h.1)

      pub walk_came : (s : Status) (due : Bool) → RanWalk (unit_of unit) turns choices s due (with_files before new) after kernel_so
          → Came s due (Some command) before after kernel_so
      walk_came s due r =
          came_of command s due before after kernel_so r.shown
          (walk_means s r.shown
          (subst (λ found. TextWalked all turns choices s (record x { files = found }) after r.shown kernel_so)
          (still_same before.files new after.files same last) (r.ran all is_unit))) r.shows
          r.due_is (record { drive = λ stays. r.each.drive refl; input = r.each.input; printer = r.each.printer })
