-- What a status of `demo` means does not change where the terminal takes its line, with an account or without one.
use Rattle.std.proofs.Common.{ℕ, List, [], Option, inl, inr}
use Rattle.std.specs.Prelude.{◌⊎◌}
use Rattle.edi_calls.specs.Choice.{Choices}
use Rattle.edi_utils.specs.Demo.{demo_text}
use Rattle.edi_words.specs.Words.{Account, ChoicesFrom}
use Rattle.edi_statuses.specs.declared.status.Status.{Status}
use Rattle.edi_statuses.specs.declared.status.Status.TheVariants as status
use Rattle.edi_statuses.specs.Outside.{Outside, seen, SameFiles, Lent}
use Rattle.edi_statuses.specs.Executions.{Runnable, text, BrokeRun}
use Rattle.edi_statuses.specs.Steps.{goes}
use Rattle.edi_statuses.specs.Accounts.{AccountInPart, AccountLost, RunsWith}
use Rattle.edi_statuses.specs.Commands.{CommandEffect, Demonstrates, DemonstratesWith, DemoSteps, Does, IsNothing, OnItsOwn, Runs, ShowsSize, with_own}
use Rattle.edi_statuses.specs.Broken.{BrokeDemo, BrokeDemoWith, CutsSize, HasBegun, RanUnkept, RanWhole}
use Rattle.edi_statuses.specs.Decided.{with_shown}
use Rattle.edi_statuses.proofs.Terminal.{StillTold, broke_later, demo_later, does_later, nothing_later, runs_later, unkept_later, whole_later}
use Rattle.edi_statuses.proofs.Accounts.{in_part_later, lost_later, runs_with_later}

module _ (b m : Outside) (y : Option (List ℕ)) (still : StillTold m.shown y) where
  abbrev before_ : Outside
  before_ = seen b m

  abbrev later_ : Outside
  later_ = with_shown y m

  abbrev seen_later : Outside
  seen_later = seen b (with_shown y m)

  own_later : (P : Outside → Outside → Type 0)
      → ((disk : List (List ℕ)) (left : List ℕ) → P (with_own [] [] before_) (with_own disk left m) → P (with_own [] [] seen_later) (with_own disk left later_))
      → OnItsOwn P before_ m → OnItsOwn P seen_later later_
  own_later P f h = record { disk = h.disk; left = h.left; is = f h.disk h.left h.is; blocks = h.blocks; input = h.input }

  module _ (n bound : ℕ) (choices : Choices) (name : Option (List ℕ)) (kernel : Lent) where
    abbrev program : Runnable
    program = text (demo_text n)

    own_runs : (s : Status) (shown : List ℕ) → OnItsOwn (λ a c. Runs program bound choices name s a c shown kernel) before_ m
        → OnItsOwn (λ a c. Runs program bound choices name s a c shown kernel) seen_later later_
    own_runs s shown =
        own_later (λ a c. Runs program bound choices name s a c shown kernel)
        (λ disk left. runs_later (with_own [] [] b) (with_own disk left m) y still program bound choices name s shown kernel)

    pub own_whole : (shown : List ℕ) → OnItsOwn (λ a c. RanWhole program bound choices a c shown kernel) before_ m
        → OnItsOwn (λ a c. RanWhole program bound choices a c shown kernel) seen_later later_
    own_whole shown =
        own_later (λ a c. RanWhole program bound choices a c shown kernel)
        (λ disk left. whole_later (with_own [] [] b) (with_own disk left m) y still program bound choices shown kernel)

    pub own_unkept : (shown : List ℕ) → OnItsOwn (λ a c. RanUnkept program bound choices a c shown kernel) before_ m
        → OnItsOwn (λ a c. RanUnkept program bound choices a c shown kernel) seen_later later_
    own_unkept shown =
        own_later (λ a c. RanUnkept program bound choices a c shown kernel)
        (λ disk left. unkept_later (with_own [] [] b) (with_own disk left m) y still program bound choices shown kernel)

    own_broke : (shown : List ℕ) → OnItsOwn (λ a c. SameFiles a c × BrokeRun status.OutputFault kernel.failed program bound choices a c shown) before_ m
        → OnItsOwn (λ a c. SameFiles a c × BrokeRun status.OutputFault kernel.failed program bound choices a c shown) seen_later later_
    own_broke shown =
        own_later (λ a c. SameFiles a c × BrokeRun status.OutputFault kernel.failed program bound choices a c shown)
        (λ disk left h. (h.0, broke_later (with_own [] [] b) (with_own disk left m) y still status.OutputFault kernel.failed program bound choices shown h.1))

    -- an effect stays, of the program on its own
    abbrev OwnStays : CommandEffect → Type 0
    OwnStays effect =
        (s : Status) (shown : List ℕ) → OnItsOwn (λ a c. effect s a c shown kernel) before_ m → OnItsOwn (λ a c. effect s a c shown kernel) seen_later later_

    size_later : (effect : CommandEffect) → OwnStays effect → (s : Status) (shown : List ℕ) → ShowsSize n effect s before_ m shown kernel
        → ShowsSize n effect s seen_later later_ shown kernel
    size_later effect own s shown h = record { by_program = h.by_program; shown_ = h.shown_; ran = own s h.by_program h.ran }

    cut_later : (effect : CommandEffect) → OwnStays effect → (shown : List ℕ) → CutsSize n effect before_ m shown kernel
        → CutsSize n effect seen_later later_ shown kernel
    cut_later effect own shown h =
        record { by_program = h.by_program; line = h.line; front = h.front; shown_ = h.shown_; blamed = h.blamed; ran = own status.Ok h.by_program h.ran }

    pub demonstrates_later : (s : Status) (shown : List ℕ) → Demonstrates n bound choices name s before_ m shown kernel
        → Demonstrates n bound choices name s seen_later later_ shown kernel
    demonstrates_later = size_later (Runs program bound choices name) own_runs

    pub broke_demo_later : (shown : List ℕ) → BrokeDemo n bound choices name before_ m shown kernel → BrokeDemo n bound choices name seen_later later_ shown kernel
    broke_demo_later shown (inl h) = inl (own_broke shown h)
    broke_demo_later shown (inr h) = inr (cut_later (Runs program bound choices name) own_runs shown h)

    -- ---- with an account

    module _ (account : Account) where
      own_with : (s : Status) (shown : List ℕ) → OnItsOwn (λ a c. RunsWith program bound choices account name s a c shown kernel) before_ m
          → OnItsOwn (λ a c. RunsWith program bound choices account name s a c shown kernel) seen_later later_
      own_with s shown =
          own_later (λ a c. RunsWith program bound choices account name s a c shown kernel)
          (λ disk left. runs_with_later (with_own [] [] b) (with_own disk left m) y still program bound choices account name s shown kernel)

      pub own_in_part : (shown : List ℕ) → OnItsOwn (λ a c. AccountInPart program bound choices account name a c shown kernel) before_ m
          → OnItsOwn (λ a c. AccountInPart program bound choices account name a c shown kernel) seen_later later_
      own_in_part shown =
          own_later (λ a c. AccountInPart program bound choices account name a c shown kernel)
          (λ disk left. in_part_later (with_own [] [] b) (with_own disk left m) y still program bound choices account name shown kernel)

      pub own_lost : (shown : List ℕ) → OnItsOwn (λ a c. AccountLost program bound choices account name a c shown kernel) before_ m
          → OnItsOwn (λ a c. AccountLost program bound choices account name a c shown kernel) seen_later later_
      own_lost shown =
          own_later (λ a c. AccountLost program bound choices account name a c shown kernel)
          (λ disk left. lost_later (with_own [] [] b) (with_own disk left m) y still program bound choices account name shown kernel)

      pub demo_with_later : (s : Status) (shown : List ℕ) → DemonstratesWith n bound choices account name s before_ m shown kernel
          → DemonstratesWith n bound choices account name s seen_later later_ shown kernel
      demo_with_later = size_later (RunsWith program bound choices account name) own_with

      pub broke_with_later : (shown : List ℕ) → BrokeDemoWith n bound choices account name before_ m shown kernel
          → BrokeDemoWith n bound choices account name seen_later later_ shown kernel
      broke_with_later shown (inl h) = inl (own_broke shown h)
      broke_with_later shown (inr h) = inr (cut_later (RunsWith program bound choices account name) own_with shown h)

  -- of the whole command
  pub record DemoWithLater (n bound : ℕ) (from : ChoicesFrom) (account : Account) (name : Option (List ℕ)) (shown : List ℕ) (kernel : Lent) : Type 0 where
    pub comes : (s : Status) → Does (DemoSteps before_ from) (λ v. DemonstratesWith n bound v account name) s before_ m shown kernel
        → Does (DemoSteps seen_later from) (λ v. DemonstratesWith n bound v account name) s seen_later later_ shown kernel
    pub wants : IsNothing before_ m shown kernel
        ⊎ HasBegun (DemoSteps before_ from) (λ v. OnItsOwn (λ a c. AccountInPart (text (demo_text n)) bound v account name a c shown kernel) before_ m)
        → IsNothing seen_later later_ shown kernel
        ⊎ HasBegun (DemoSteps seen_later from) (λ v. OnItsOwn (λ a c. AccountInPart (text (demo_text n)) bound v account name a c shown kernel) seen_later later_)
    pub files : HasBegun (DemoSteps before_ from) (λ v. OnItsOwn (λ a c. AccountLost (text (demo_text n)) bound v account name a c shown kernel) before_ m)
        → HasBegun (DemoSteps seen_later from) (λ v. OnItsOwn (λ a c. AccountLost (text (demo_text n)) bound v account name a c shown kernel) seen_later later_)
    pub output : HasBegun (DemoSteps before_ from) (λ v. BrokeDemoWith n bound v account name before_ m shown kernel)
        → HasBegun (DemoSteps seen_later from) (λ v. BrokeDemoWith n bound v account name seen_later later_ shown kernel)

  module _ (n bound : ℕ) (from : ChoicesFrom) (account : Account) (name : Option (List ℕ)) (shown : List ℕ) (kernel : Lent) where
    with_wants : IsNothing before_ m shown kernel
        ⊎ HasBegun (DemoSteps before_ from) (λ v. OnItsOwn (λ a c. AccountInPart (text (demo_text n)) bound v account name a c shown kernel) before_ m)
        → IsNothing seen_later later_ shown kernel
        ⊎ HasBegun (DemoSteps seen_later from) (λ v. OnItsOwn (λ a c. AccountInPart (text (demo_text n)) bound v account name a c shown kernel) seen_later later_)
    with_wants (inl h) = inl (nothing_later b m y still shown kernel h)
    with_wants (inr h) = inr (h.0, demo_later b m y still from (goes h.0) h.1, own_in_part n bound h.0 name kernel account shown h.2)

    pub demo_with_by : DemoWithLater n bound from account name shown kernel
    demo_with_by =
        let go = demo_later b m y still from in
        record {
          comes = λ s. does_later b m y still (DemoSteps before_ from) (DemoSteps seen_later from) (λ v. DemonstratesWith n bound v account name)
              (λ v. DemonstratesWith n bound v account name) s shown kernel go (λ v. demo_with_later n bound v name kernel account s shown);
          wants = with_wants;
          files = λ h. (h.0, go (goes h.0) h.1, own_lost n bound h.0 name kernel account shown h.2);
          output = λ h. (h.0, go (goes h.0) h.1, broke_with_later n bound h.0 name kernel account shown h.2);
        }
