-- Definition. What `walk` leaves: the program of a text was walked through, with a choice at every step.
use Rattle.std.specs.Prelude.{◌≡◌, ℕ, List}
use Rattle.edi_told.specs.Told.{WhereTold}
use Rattle.edi_calls.specs.Choice.{Choices}
use Rattle.edi_calls.specs.Outcome.{Ending}
use Rattle.edi_calls.specs.State.{State}
use Rattle.edi_runs.specs.walk.Walks.{IsCallOfWalk, IsMomentOfWalk, IsWalkEnding, IsWalkOf}
use Rattle.edi_statuses.specs.declared.status.Status.{Status}
use Rattle.edi_statuses.specs.Outside.{Outside, Devices, DevicesAreAt, SameFiles, devices_of, system_on, Lent}
use Rattle.edi_statuses.specs.Executions.{FailedAt, StandsAt, status_of}

-- The walk of the text on the devices `d` has ended so and has left `e`, with these bytes shown.
pub record HasWalked (bytes : List ℕ) (bound : ℕ) (choices : Choices) (ending : Ending) (d e : Devices) (shown : List ℕ) : Type 0 where
  pub last : State
  pub walk : IsWalkOf bytes (system_on d) bound choices ending last
  pub leaves : DevicesAreAt last d e shown

-- The program is walked through to its ending, which the status tells. No file is kept, and the lent kernel is left alone.
pub record Walks (bytes : List ℕ) (bound : ℕ) (choices : Choices) (s : Status) (before after : Outside) (shown : List ℕ) (kernel : Lent) : Type 0 where
  pub ending : Ending
  pub ends : IsWalkEnding ending
  pub status_is : s ≡ status_of ending
  pub walked : WhereTold (devices_of before) (devices_of after) (λ d e. HasWalked bytes bound choices ending d e shown)
  pub files : SameFiles before after
  pub kernel_same : kernel.after ≡ kernel.before

-- The walk was broken off, as memory ran out. The devices are at one moment of it, at which just these bytes were shown and printed.
pub record BrokeWalk (bytes : List ℕ) (bound : ℕ) (choices : Choices) (before after : Outside) (shown : List ℕ) (kernel : Lent) : Type 0 where
  pub at : WhereTold (devices_of before) (devices_of after) (λ d e. StandsAt (IsMomentOfWalk bytes (system_on d) bound choices) d e shown)
  pub files : SameFiles before after
  pub kernel_same : kernel.after ≡ kernel.before

-- The walk was broken off in a call that the object has failed which is blamed, and whose fault this status is. The devices are as they were before that call,
-- or, unless it is the input, as it was to leave them.
pub record FailedWalk (s : Status) (bytes : List ℕ) (bound : ℕ) (choices : Choices) (before after : Outside) (shown : List ℕ) (kernel : Lent) : Type 0 where
  pub at : WhereTold (devices_of before) (devices_of after) (λ d e. FailedAt s kernel.failed (IsCallOfWalk bytes (system_on d) bound choices) d e shown)
  pub files : SameFiles before after
  pub kernel_same : kernel.after ≡ kernel.before
