-- What a status of `walk` means does not change where the terminal takes its line; and a walk has one ending and shows one thing.
use Rattle.std.proofs.Common.{◌≡◌, ◌∙◌, ℕ, List, Option, sym, ap, inl, inr}
use Rattle.std.proofs.lemmas.List.{append_cancel_left}
use Rattle.std.specs.Prelude.{◌⊎◌}
use Rattle.edi_calls.specs.Choice.{Choices}
use Rattle.edi_calls.specs.Outcome.{Ending}
use Rattle.edi_calls.specs.State.{State}
use Rattle.edi_runs.specs.walk.Walks.{IsCallOfWalk, IsMomentOfWalk}
use Rattle.edi_runs.proofs.walk.Texts.{texts_have_one_walk}
use Rattle.edi_words.specs.Words as words
use Rattle.edi_statuses.specs.declared.status.Status.{Status}
use Rattle.edi_statuses.specs.Outside.{Outside, Devices, seen, system_on, Lent}
use Rattle.edi_statuses.specs.Steps.{goes}
use Rattle.edi_statuses.specs.Executions.{FailedAt, StandsAt}
use Rattle.edi_statuses.specs.Commands.{IsNothing, RunSteps}
use Rattle.edi_statuses.specs.Broken.{HasBegun}
use Rattle.edi_statuses.specs.Walked.{BrokeWalk, FailedWalk, HasWalked, Walks}
use Rattle.edi_statuses.specs.Decided.{with_shown}
use Rattle.edi_statuses.proofs.Terminal.{Silent, StillTold, failed_silent, nothing_later, run_later, stands_silent, told_later}

module _ (b m : Outside) (y : Option (List ℕ)) (still : StillTold m.shown y) where
  abbrev before_ : Outside
  before_ = seen b m

  abbrev later_ : Outside
  later_ = with_shown y m

  abbrev seen_later : Outside
  seen_later = seen b (with_shown y m)

  walked_silent : (bytes : List ℕ) (bound : ℕ) (choices : Choices) (ending : Ending) (shown : List ℕ)
      → Silent (λ d e. HasWalked bytes bound choices ending d e shown)
  walked_silent bytes bound choices ending shown d e taken h = record {
    last = h.last;
    walk = h.walk;
    leaves = record { input = h.leaves.input; shown_ = h.leaves.shown_; printed = h.leaves.printed; disk = h.leaves.disk; count = h.leaves.count };
  }

  pub walks_later : (bytes : List ℕ) (bound : ℕ) (choices : Choices) (s : Status) (shown : List ℕ) (kernel : Lent)
      → Walks bytes bound choices s before_ m shown kernel → Walks bytes bound choices s seen_later later_ shown kernel
  walks_later bytes bound choices s shown kernel h = record {
    ending = h.ending;
    ends = h.ends;
    status_is = h.status_is;
    walked = told_later b m y still (λ d e. HasWalked bytes bound choices h.ending d e shown) (walked_silent bytes bound choices h.ending shown) h.walked;
    files = h.files;
    kernel_same = h.kernel_same;
  }

  broke_later : (bytes : List ℕ) (bound : ℕ) (choices : Choices) (shown : List ℕ) (kernel : Lent) → BrokeWalk bytes bound choices before_ m shown kernel
      → BrokeWalk bytes bound choices seen_later later_ shown kernel
  broke_later bytes bound choices shown kernel h = record {
    at = told_later b m y still (λ d e. StandsAt (IsMomentOfWalk bytes (system_on d) bound choices) d e shown)
        (stands_silent b m y still (λ d. IsMomentOfWalk bytes (system_on d) bound choices) shown) h.at;
    files = h.files;
    kernel_same = h.kernel_same;
  }

  failed_later : (bytes : List ℕ) (bound : ℕ) (choices : Choices) (shown : List ℕ) (kernel : Lent) (s : Status)
      → FailedWalk s bytes bound choices before_ m shown kernel → FailedWalk s bytes bound choices seen_later later_ shown kernel
  failed_later bytes bound choices shown kernel s h = record {
    at = told_later b m y still (λ d e. FailedAt s kernel.failed (IsCallOfWalk bytes (system_on d) bound choices) d e shown)
        (failed_silent b m y still s kernel.failed (λ d. IsCallOfWalk bytes (system_on d) bound choices) shown) h.at;
    files = h.files;
    kernel_same = h.kernel_same;
  }

  pub walked_failed : (file choices : List ℕ) (bound : ℕ) (shown : List ℕ) (kernel : Lent) (s : Status)
      → HasBegun (RunSteps before_ file (words.file choices)) (λ a. FailedWalk s a.0 bound a.1 before_ m shown kernel)
      → HasBegun (RunSteps seen_later file (words.file choices)) (λ a. FailedWalk s a.0 bound a.1 seen_later later_ shown kernel)
  walked_failed file choices bound shown kernel s h =
      (h.0, run_later b m y still file (words.file choices) (goes h.0) h.1, failed_later h.0.0 bound h.0.1 shown kernel s h.2)

  walked_broke : (file choices : List ℕ) (bound : ℕ) (shown : List ℕ) (kernel : Lent)
      → HasBegun (RunSteps before_ file (words.file choices)) (λ a. BrokeWalk a.0 bound a.1 before_ m shown kernel)
      → HasBegun (RunSteps seen_later file (words.file choices)) (λ a. BrokeWalk a.0 bound a.1 seen_later later_ shown kernel)
  walked_broke file choices bound shown kernel h =
      (h.0, run_later b m y still file (words.file choices) (goes h.0) h.1, broke_later h.0.0 bound h.0.1 shown kernel h.2)

  pub walked_wants : (file choices : List ℕ) (bound : ℕ) (shown : List ℕ) (kernel : Lent)
      → IsNothing before_ m shown kernel
      ⊎ HasBegun (RunSteps before_ file (words.file choices)) (λ a. BrokeWalk a.0 bound a.1 before_ m shown kernel)
      → IsNothing seen_later later_ shown kernel
      ⊎ HasBegun (RunSteps seen_later file (words.file choices)) (λ a. BrokeWalk a.0 bound a.1 seen_later later_ shown kernel)
  walked_wants file choices bound shown kernel (inl h) = inl (nothing_later b m y still shown kernel h)
  walked_wants file choices bound shown kernel (inr h) = inr (walked_broke file choices bound shown kernel h)

-- two walks of a text on the same devices
pub walked_same : (bytes : List ℕ) (bound : ℕ) (choices : Choices) (one other : Ending) (d e f : Devices) (shown taken : List ℕ)
    → HasWalked bytes bound choices one d e shown → HasWalked bytes bound choices other d f taken → (one ≡ other) × (shown ≡ taken)
walked_same bytes bound choices one other d e f shown taken h k =
    let same = texts_have_one_walk bytes (system_on d) bound choices one other h.last k.last h.walk k.walk in (
      same.0,
      append_cancel_left d.shown shown taken (h.leaves.shown_ ∙ ap (λ (s : State). s.shown) same.1 ∙ sym k.leaves.shown_),
    )
