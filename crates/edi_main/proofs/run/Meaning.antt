-- From the steps of a command and what its code has left to the meaning of its status.
use Rattle.std.proofs.Common.{◌≡◌, ℕ, Bool, List, Option, Some, None, IsSome, refl, inl, inr}
use Rattle.std.specs.Prelude.{◌⊎◌}
use Rattle.edi_calls.specs.Choice.{Choices}
use Rattle.edi_calls.specs.Outcome as outcome
use Rattle.edi_calls.specs.Outcome.{Ending}
use Rattle.edi_words.specs.Words as words
use Rattle.edi_words.specs.Words.{Command}
use Rattle.edi_statuses.specs.declared.status.Status.{Status}
use Rattle.edi_statuses.specs.declared.status.Status.TheVariants as status
use Rattle.edi_statuses.specs.Outside.{Outside, seen, Shows, Lent}
use Rattle.edi_statuses.specs.Lines.{is_due}
use Rattle.edi_statuses.specs.EachObject.{LeavesEach, Uses}
use Rattle.edi_statuses.specs.Steps.{AfterStep, goes, stops, Mounts}
use Rattle.edi_statuses.specs.Executions.{Runnable, status_of}
use Rattle.edi_statuses.specs.Facts.{Comes}
use Rattle.edi_statuses.specs.Commands.{Does, Runs}
use Rattle.edi_statuses.specs.Broken.{AtRecord}
use Rattle.edi_statuses.specs.Means.{Far, MeansOf, Wants}
use Rattle.edi_statuses.specs.Decided.{Came}
use Rattle.edi_main.specs.run.CodeRan.{CodeRan}
use Rattle.edi_main.specs.run.RunMeans.{RunMeans, replaying}

pub at_record : {A : Type 0} (name : Option (List ℕ)) (steps : AfterStep A → Type 0) (P : A → Type 0) (a : A) → IsSome name → steps (goes a) → P a
    → AtRecord name steps P
at_record None steps P a there s p = absurd (cc)
at_record (Some name) steps P a there s p = (a, s, p)

pub never_words : (e : Ending) → status.Words ≡ status_of e → ⊥
never_words outcome.done e = absurd (cc)
never_words (outcome.halted line) e = absurd (cc)
never_words (outcome.failed why line) e = absurd (cc)
never_words outcome.turns e = absurd (cc)
never_words outcome.standstill e = absurd (cc)
never_words (outcome.bad address) e = absurd (cc)

-- ---- a command that has run a code

-- its steps go on if the drive is mounted, and stop where it is not
module _ {A : Type 0} (there asks : Type 0) (steps : AfterStep A → Type 0) (program : A → Runnable) (choices : A → Choices) (a : A) (bound : ℕ) (name : Option (List ℕ))
    (before after : Outside) (shown : List ℕ) (kernel : Lent) (asked : asks)
    (went : Mounts before (goes tt) → steps (goes a))
    (stopped : (s : Status) → Mounts before (stops s) → steps (stops s)) where
  pub code_means : (s : Status) → CodeRan (program a) bound (choices a) name s before after shown kernel
      → RunMeans there asks steps program choices bound name s before after shown kernel
  code_means status.Words h = never_words h.1.ending h.1.status_is
  code_means status.NoMemory (inl h) = inl h
  code_means status.NoMemory (inr h) = inr (at_record name steps _ a h.0 (went h.1) h.2)
  code_means status.FileFault h = inr (h.1, at_record name steps _ a h.0 (went h.2) h.3)
  code_means status.DriveFault h = (
    h.0,
    elim h.1 [
      | inl none ↦ inl (asked, none)
      | inr far ↦ inr (a, went far.0, far.1)
    ],
  )
  code_means status.InputFault h = (h.0, (a, went h.1, h.2))
  code_means status.OutputFault h = (h.0, (a, went h.1, h.2))
  code_means (status.BadImage broken) h = inl (stopped (status.BadImage broken) h.0, h.1)
  code_means s h = inr (a, went h.0, h.1)

-- ---- the commands

-- A command uses all objects, and each status means of it what it means of one that runs a program, whatever its steps are.
pub means_by : {A : Type 0} (c : Command) (there asks : Type 0) (steps : AfterStep A → Type 0) (program : A → Runnable) (choices : A → Choices) (bound : ℕ)
    (name : Option (List ℕ)) (before after : Outside) (shown : List ℕ) (kernel : Lent)
    → Uses status.FileFault c → Uses status.DriveFault c
    → (RunMeans there asks steps program choices bound name status.NoMemory before after shown kernel → Wants c before after shown kernel)
    → (RunMeans there asks steps program choices bound name status.FileFault before after shown kernel → Far status.FileFault c before after shown kernel)
    → (RunMeans there asks steps program choices bound name status.DriveFault before after shown kernel → Far status.DriveFault c before after shown kernel)
    → (RunMeans there asks steps program choices bound name status.InputFault before after shown kernel → Far status.InputFault c before after shown kernel)
    → (RunMeans there asks steps program choices bound name status.OutputFault before after shown kernel
    → Far status.OutputFault c before after shown kernel)
    → ((s : Status) → Does steps (λ a. Runs (program a) bound (choices a) name) s before after shown kernel → Comes c s before after shown kernel)
    → (s : Status) → RunMeans there asks steps program choices bound name s before after shown kernel → MeansOf s c before after shown kernel
means_by c there asks steps program choices bound name before after shown kernel files drive wants f d i o comes status.Words h = h
means_by c there asks steps program choices bound name before after shown kernel files drive wants f d i o comes status.NoMemory h = wants h
means_by c there asks steps program choices bound name before after shown kernel files drive wants f d i o comes status.FileFault h =
    record { uses = files; far = f h }
means_by c there asks steps program choices bound name before after shown kernel files drive wants f d i o comes status.DriveFault h =
    record { uses = drive; far = d h }
means_by c there asks steps program choices bound name before after shown kernel files drive wants f d i o comes status.InputFault h =
    record { uses = tt; far = i h }
means_by c there asks steps program choices bound name before after shown kernel files drive wants f d i o comes status.OutputFault h =
    record { uses = tt; far = o h }
means_by c there asks steps program choices bound name before after shown kernel files drive wants f d i o comes s h = comes s h

no_record : {B : Type 0} → B ⊎ ⊥ → B
no_record (inl b) = b
no_record (inr h) = absurd h

replay_means : (file name : List ℕ) (turns : ℕ) (s : Status) (before after : Outside) (shown : List ℕ) (kernel : Lent)
    → MeansOf s (words.run file (replaying name turns)) before after shown kernel → MeansOf s (words.replay file name turns) before after shown kernel
replay_means file name turns status.Words before after shown kernel h = h
replay_means file name turns status.NoMemory before after shown kernel h = no_record h
replay_means file name turns status.FileFault before after shown kernel h = record { uses = refl; far = h.far }
replay_means file name turns status.DriveFault before after shown kernel h = record { uses = refl; far = h.far }
replay_means file name turns status.InputFault before after shown kernel h = record { uses = tt; far = h.far }
replay_means file name turns status.OutputFault before after shown kernel h = record { uses = tt; far = h.far }
replay_means file name turns s before after shown kernel h = h

-- it has come to its status
pub came_of : (c : Command) (s : Status) (due : Bool) (before after : Outside) (kernel : Lent) (shown : List ℕ)
    → MeansOf s c (seen before after) after shown kernel → Shows before after shown → due ≡ is_due shown → LeavesEach None before after
    → Came s due (Some c) before after kernel
came_of c s due before after kernel shown means shows due_is each = record {
  shown = shown;
  means = means;
  shows = shows;
  due_is = due_is;
  each = record { drive = λ stays. each.drive refl; input = each.input; printer = each.printer };
}

pub replayed : (file name : List ℕ) (turns : ℕ) (s : Status) (due : Bool) (before after : Outside) (kernel : Lent)
    → Came s due (Some (words.run file (replaying name turns))) before after kernel → Came s due (Some (words.replay file name turns)) before after kernel
replayed file name turns s due before after kernel h =
    record {
      shown = h.shown;
      means = replay_means file name turns s _ after h.shown kernel h.means;
      shows = h.shows;
      due_is = h.due_is;
      each = record { drive = λ stays. h.each.drive refl; input = h.each.input; printer = h.each.printer };
    }
