-- What a status of `explore` means does not change where the terminal takes its line.
use Rattle.std.proofs.Common.{ℕ, Bool, true, false, List, Option, inl, inr}
use Rattle.std.specs.Prelude.{◌⊎◌}
use Rattle.edi_unit.specs.Tree.{ProgramUnit}
use Rattle.edi_runs.specs.explore.Explorations.{Findings}
use Rattle.edi_runs.specs.explore.Input.{names_accept}
use Rattle.edi_runs.specs.explore.Records.{records_of}
use Rattle.edi_words.specs.Words.{ExploreOptions}
use Rattle.edi_statuses.specs.declared.status.Status.{Status}
use Rattle.edi_statuses.specs.Outside.{Outside, Kept, seen, Lent}
use Rattle.edi_statuses.specs.Steps.{goes}
use Rattle.edi_statuses.specs.Commands.{IsNothing, TextSteps}
use Rattle.edi_statuses.specs.Broken.{HasBegun}
use Rattle.edi_statuses.specs.Explored.{Explored, ExploredFront, ExploredInPart, ExploredThen, ExploresText}
use Rattle.edi_statuses.specs.Explored.{FailsIn, IsTooLong, KeepsFirst, LosesNext, LosesSome, OnlyAccepts, OnlyTakes, TakesAll}
use Rattle.edi_statuses.specs.Decided.{with_shown}
use Rattle.edi_statuses.proofs.Terminal.{StillTold, nothing_later, text_later}

module _ (b m : Outside) (y : Option (List ℕ)) (still : StillTold m.shown y) where
  abbrev before_ : Outside
  before_ = seen b m

  abbrev later_ : Outside
  later_ = with_shown y m

  abbrev seen_later : Outside
  seen_later = seen b (with_shown y m)

  takes_later : (accepts : Bool) (input : List ℕ) → TakesAll accepts input before_ m → TakesAll accepts input seen_later later_
  takes_later false input h = h
  takes_later true input h = h

  only_later : (P : List ℕ → List ℕ → Type 0) (shown : List ℕ) (kernel : Lent) → OnlyTakes P before_ m shown kernel
      → OnlyTakes P seen_later later_ shown kernel
  only_later P shown kernel h = record {
    shown_ = h.shown_;
    input = h.input;
    files = h.files;
    blocks = h.blocks;
    printed = h.printed;
    kernel_same = h.kernel_same;
  }

  explored_later : (bytes : List ℕ) (unit : ProgramUnit) (o : ExploreOptions) (findings : Findings) → Explored bytes unit o findings before_ m
      → Explored bytes unit o findings seen_later later_
  explored_later bytes unit o findings h = record {
    input = h.input;
    takes = takes_later (names_accept unit) h.input h.takes;
    is = h.is;
    blocks = h.blocks;
    printed = h.printed;
  }

  accepts_later : (P : List ℕ → List ℕ → Type 0) (unit : ProgramUnit) (shown : List ℕ) (kernel : Lent) → OnlyAccepts P unit before_ m shown kernel
      → OnlyAccepts P unit seen_later later_ shown kernel
  accepts_later P unit shown kernel h = (h.0, only_later P shown kernel h.1)

  pub explores_later : (bytes : List ℕ) (unit : ProgramUnit) (o : ExploreOptions) (s : Status) (shown : List ℕ) (kernel : Lent)
      → ExploresText bytes unit o s before_ m shown kernel → ExploresText bytes unit o s seen_later later_ shown kernel
  explores_later bytes unit o s shown kernel (inl h) = inl (record {
    findings = h.findings;
    explored = explored_later bytes unit o h.findings h.explored;
    status_is = h.status_is;
    shown_ = h.shown_;
    keeps = h.keeps;
  })
  explores_later bytes unit o s shown kernel (inr h) = inr (h.0, accepts_later IsTooLong unit shown kernel h.1)

  then_later : (Leaves : List Kept → Outside → Outside → Type 0) (bytes : List ℕ) (unit : ProgramUnit) (o : ExploreOptions) (shown : List ℕ)
      → ((kept : List Kept) → Leaves kept before_ m → Leaves kept seen_later later_) → ExploredThen Leaves bytes unit o before_ m shown
      → ExploredThen Leaves bytes unit o seen_later later_ shown
  then_later Leaves bytes unit o shown leaves h = record {
    findings = h.findings;
    explored = explored_later bytes unit o h.findings h.explored;
    shown_ = h.shown_;
    files = leaves (records_of o.record_file h.findings.endings) h.files;
  }

  keeps_later : (kept : List Kept) → KeepsFirst kept before_ m → KeepsFirst kept seen_later later_
  keeps_later kept h = record { first = h.first; next = h.next; more = h.more; all_ = h.all_; keeps = h.keeps }

  next_later : (kept : List Kept) → LosesNext kept before_ m → LosesNext kept seen_later later_
  next_later kept h = record { first = h.first; next = h.next; more = h.more; all_ = h.all_; files = h.files }

  part_later : (bytes : List ℕ) (unit : ProgramUnit) (o : ExploreOptions) (shown : List ℕ) (kernel : Lent)
      → ExploredInPart bytes unit o before_ m shown kernel → ExploredInPart bytes unit o seen_later later_ shown kernel
  part_later bytes unit o shown kernel (inl h) = inl (accepts_later LosesSome unit shown kernel h)
  part_later bytes unit o shown kernel (inr (inl h)) = inr (inl (record {
    input = h.input;
    takes = takes_later (names_accept unit) h.input h.takes;
    shown_ = h.shown_;
    files = h.files;
    blocks = h.blocks;
    printed = h.printed;
  }))
  part_later bytes unit o shown kernel (inr (inr h)) = inr (inr (then_later KeepsFirst bytes unit o shown keeps_later h))

  -- ---- where it was broken off, by the file of the text

  pub explored_wants : (file : List ℕ) (o : ExploreOptions) (shown : List ℕ) (kernel : Lent)
      → IsNothing before_ m shown kernel ⊎ HasBegun (TextSteps before_ file) (λ a. ExploredInPart a.0 a.1 o before_ m shown kernel)
      → IsNothing seen_later later_ shown kernel ⊎ HasBegun (TextSteps seen_later file) (λ a. ExploredInPart a.0 a.1 o seen_later later_ shown kernel)
  explored_wants file o shown kernel (inl h) = inl (nothing_later b m y still shown kernel h)
  explored_wants file o shown kernel (inr h) =
      inr (h.0, text_later b m y still file (goes h.0) h.1, part_later h.0.0 h.0.1 o shown kernel h.2)

  pub explored_lost : (file : List ℕ) (o : ExploreOptions) (shown : List ℕ)
      → HasBegun (TextSteps before_ file) (λ a. ExploredThen LosesNext a.0 a.1 o before_ m shown)
      → HasBegun (TextSteps seen_later file) (λ a. ExploredThen LosesNext a.0 a.1 o seen_later later_ shown)
  explored_lost file o shown h =
      (h.0, text_later b m y still file (goes h.0) h.1, then_later LosesNext h.0.0 h.0.1 o shown next_later h.2)

  pub explored_took : (file : List ℕ) (shown : List ℕ) (kernel : Lent)
      → HasBegun (TextSteps before_ file) (λ a. OnlyAccepts FailsIn a.1 before_ m shown kernel)
      → HasBegun (TextSteps seen_later file) (λ a. OnlyAccepts FailsIn a.1 seen_later later_ shown kernel)
  explored_took file shown kernel h = (h.0, text_later b m y still file (goes h.0) h.1, accepts_later FailsIn h.0.1 shown kernel h.2)

  front_later : (bytes : List ℕ) (unit : ProgramUnit) (o : ExploreOptions) (shown : List ℕ) → ExploredFront bytes unit o before_ m shown
      → ExploredFront bytes unit o seen_later later_ shown
  front_later bytes unit o shown h = record {
    findings = h.findings;
    explored = explored_later bytes unit o h.findings h.explored;
    front = h.front;
  }

  pub explored_cut : (file : List ℕ) (o : ExploreOptions) (shown : List ℕ)
      → HasBegun (TextSteps before_ file) (λ a. ExploredFront a.0 a.1 o before_ m shown)
      → HasBegun (TextSteps seen_later file) (λ a. ExploredFront a.0 a.1 o seen_later later_ shown)
  explored_cut file o shown h = (h.0, text_later b m y still file (goes h.0) h.1, front_later h.0.0 h.0.1 o shown h.2)
