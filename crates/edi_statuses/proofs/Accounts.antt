-- What a status of a run with an account means does not change where the terminal takes its line.
use Rattle.std.proofs.Common.{ℕ, List, ◌++◌, Option, inl, inr}
use Rattle.std.specs.Prelude.{◌⊎◌}
use Rattle.edi_calls.specs.Choice.{Choices}
use Rattle.edi_calls.specs.Outcome.{Ending}
use Rattle.edi_dumped.specs.Dumps.{IsDumpOf}
use Rattle.edi_timed.specs.on.Timelines.{IsTimelineOf}
use Rattle.edi_words.specs.Words.{Account, timeline, dump}
use Rattle.edi_statuses.specs.declared.status.Status.{Status}
use Rattle.edi_statuses.specs.Outside.{Kept, Outside, seen, Lent, system_on}
use Rattle.edi_statuses.specs.Steps.{AfterStep, goes}
use Rattle.edi_statuses.specs.Executions.{Runnable, BrokeRun, HasRun, record_of}
use Rattle.edi_statuses.specs.Commands.{Does, IsNothing}
use Rattle.edi_statuses.specs.Broken.{HasBegun}
use Rattle.edi_statuses.specs.Explored.{KeepsFirst, LosesNext}
use Rattle.edi_statuses.specs.Accounts.{AccountInPart, AccountLost, AreOf, HasAccount, KeepsAll, RunsWith, timable}
use Rattle.edi_statuses.specs.Decided.{with_shown}
use Rattle.edi_statuses.proofs.Terminal.{StillTold, broke_later, does_later, has_run_silent, nothing_later, told_later}

module _ (b m : Outside) (y : Option (List ℕ)) (still : StillTold m.shown y) where
  abbrev before_ : Outside
  before_ = seen b m

  abbrev later_ : Outside
  later_ = with_shown y m

  abbrev seen_later : Outside
  seen_later = seen b (with_shown y m)

  are_later : (account : Account) (program : Runnable) (bound : ℕ) (choices : Choices) (made : List Kept)
      → AreOf account program bound choices before_ m made → AreOf account program bound choices seen_later later_ made
  are_later (timeline out) program bound choices made h = (
    h.0,
    told_later b m y still (λ d e. IsTimelineOf (timable program) (system_on d) bound choices h.0) (λ d e bytes k. k) h.1,
    h.2,
  )
  are_later (dump out) program bound choices made h = (
    h.0,
    told_later b m y still (λ d e. IsDumpOf (timable program) (system_on d) bound choices h.0) (λ d e bytes k. k) h.1,
    h.2,
  )

  has_account_later : (Leaves : List Kept → Outside → Outside → Type 0) (program : Runnable) (bound : ℕ) (choices : Choices) (account : Account)
      (name : Option (List ℕ)) (ending : Ending) (shown : List ℕ) (kernel : Lent)
      → ((kept : List Kept) → Leaves kept before_ m → Leaves kept seen_later later_)
      → HasAccount Leaves program bound choices account name ending before_ m shown kernel
      → HasAccount Leaves program bound choices account name ending seen_later later_ shown kernel
  has_account_later Leaves program bound choices account name ending shown kernel leaves h = record {
    drawn = h.drawn;
    within = h.within;
    used = h.used;
    ran = told_later b m y still (λ d e. HasRun program bound choices ending h.drawn d e shown kernel.after)
        (has_run_silent b m y still program bound choices ending h.drawn shown kernel.after) h.ran;
    made = h.made;
    are = are_later account program bound choices h.made h.are;
    files = leaves (record_of name choices h.drawn ++ h.made) h.files;
  }

  all_later : (kept : List Kept) → KeepsAll kept before_ m → KeepsAll kept seen_later later_
  all_later kept h = h

  first_later : (kept : List Kept) → KeepsFirst kept before_ m → KeepsFirst kept seen_later later_
  first_later kept h = record { first = h.first; next = h.next; more = h.more; all_ = h.all_; keeps = h.keeps }

  next_later : (kept : List Kept) → LosesNext kept before_ m → LosesNext kept seen_later later_
  next_later kept h = record { first = h.first; next = h.next; more = h.more; all_ = h.all_; files = h.files }

  -- of a program
  pub runs_with_later : (program : Runnable) (bound : ℕ) (choices : Choices) (account : Account) (name : Option (List ℕ)) (s : Status) (shown : List ℕ) (kernel : Lent)
      → RunsWith program bound choices account name s before_ m shown kernel → RunsWith program bound choices account name s seen_later later_ shown kernel
  runs_with_later program bound choices account name s shown kernel h =
      (h.0, h.1, has_account_later KeepsAll program bound choices account name h.0 shown kernel all_later h.2)

  pub in_part_later : (program : Runnable) (bound : ℕ) (choices : Choices) (account : Account) (name : Option (List ℕ)) (shown : List ℕ) (kernel : Lent)
      → AccountInPart program bound choices account name before_ m shown kernel → AccountInPart program bound choices account name seen_later later_ shown kernel
  in_part_later program bound choices account name shown kernel h =
      (h.0, has_account_later KeepsFirst program bound choices account name h.0 shown kernel first_later h.1)

  pub lost_later : (program : Runnable) (bound : ℕ) (choices : Choices) (account : Account) (name : Option (List ℕ)) (shown : List ℕ) (kernel : Lent)
      → AccountLost program bound choices account name before_ m shown kernel → AccountLost program bound choices account name seen_later later_ shown kernel
  lost_later program bound choices account name shown kernel h =
      (h.0, has_account_later LosesNext program bound choices account name h.0 shown kernel next_later h.1)

  -- of a command whose steps lead to a program
  pub record WithLater {A : Type 0} (steps steps' : AfterStep A → Type 0) (program : A → Runnable) (choices : A → Choices) (bound : ℕ) (account : Account)
      (name : Option (List ℕ)) (shown : List ℕ) (kernel : Lent) : Type 0 where
    pub comes : (s : Status) → Does steps (λ v. RunsWith (program v) bound (choices v) account name) s before_ m shown kernel
        → Does steps' (λ v. RunsWith (program v) bound (choices v) account name) s seen_later later_ shown kernel
    pub wants : IsNothing before_ m shown kernel ⊎ HasBegun steps (λ v. AccountInPart (program v) bound (choices v) account name before_ m shown kernel)
        → IsNothing seen_later later_ shown kernel
        ⊎ HasBegun steps' (λ v. AccountInPart (program v) bound (choices v) account name seen_later later_ shown kernel)
    pub files : HasBegun steps (λ v. AccountLost (program v) bound (choices v) account name before_ m shown kernel)
        → HasBegun steps' (λ v. AccountLost (program v) bound (choices v) account name seen_later later_ shown kernel)
    pub broke : (s : Status) → HasBegun steps (λ v. BrokeRun s kernel.failed (program v) bound (choices v) before_ m shown)
        → HasBegun steps' (λ v. BrokeRun s kernel.failed (program v) bound (choices v) seen_later later_ shown)

  wants_later : {A : Type 0} (steps steps' : AfterStep A → Type 0) (program : A → Runnable) (choices : A → Choices) (bound : ℕ) (account : Account)
      (name : Option (List ℕ)) (shown : List ℕ) (kernel : Lent) → ((r : AfterStep A) → steps r → steps' r)
      → IsNothing before_ m shown kernel ⊎ HasBegun steps (λ v. AccountInPart (program v) bound (choices v) account name before_ m shown kernel)
      → IsNothing seen_later later_ shown kernel
      ⊎ HasBegun steps' (λ v. AccountInPart (program v) bound (choices v) account name seen_later later_ shown kernel)
  wants_later steps steps' program choices bound account name shown kernel go (inl h) = inl (nothing_later b m y still shown kernel h)
  wants_later steps steps' program choices bound account name shown kernel go (inr h) =
      inr (
        h.0,
        go (goes h.0) h.1,
        in_part_later (program h.0) bound (choices h.0) account name shown kernel h.2,
      )

  pub with_later_by : {A : Type 0} (steps steps' : AfterStep A → Type 0) (program : A → Runnable) (choices : A → Choices) (bound : ℕ) (account : Account)
      (name : Option (List ℕ)) (shown : List ℕ) (kernel : Lent) → ((r : AfterStep A) → steps r → steps' r)
      → WithLater steps steps' program choices bound account name shown kernel
  with_later_by steps steps' program choices bound account name shown kernel go = record {
    comes = λ s. does_later b m y still steps steps' (λ v. RunsWith (program v) bound (choices v) account name) (λ v. RunsWith (program v) bound (choices v) account name)
        s shown kernel go (λ v. runs_with_later (program v) bound (choices v) account name s shown kernel);
    wants = wants_later steps steps' program choices bound account name shown kernel go;
    files = λ h. (
      h.0,
      go (goes h.0) h.1,
      lost_later (program h.0) bound (choices h.0) account name shown kernel h.2,
    );
    broke = λ s h. (h.0, go (goes h.0) h.1, broke_later b m y still s kernel.failed (program h.0) bound (choices h.0) shown h.2);
  }
