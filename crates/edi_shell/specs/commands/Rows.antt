-- Words of contracts. What a line of the table of commands comes to, and where the object stands then.
use Rattle.std.specs.Prelude.{◌≡◌, ℕ, List, Result, Ok, Err}
use Rattle.edi_calls.specs.declared.ends.Outside.{Outside}
use Rattle.edi_calls.specs.State.{State}
use Rattle.edi_session.specs.declared.end.SessionEnd.{SessionEnd}
use Rattle.edi_session.specs.declared.end.SessionEnd.TheVariants as end
use Rattle.edi_session.specs.Session.{AfterLine, goes, closes, shell_in, StoresText, BehindTaken}
use Rattle.edi_session.specs.Shell.{Shell, next_text}
use Rattle.edi_shell_io.specs.calls.Standing.{At, StandsIn}

-- the row of `enter f`
abbrev pub EntersFile : (f : List ℕ) → Shell → AfterLine → Type 0
EntersFile f s next = BehindTaken (next_text s) (StoresText f) next

-- no byte was taken in between, and the mode is the same
pub record IsLike (s t : Shell) : Type 0 where
  pub taken : t.taken ≡ s.taken
  pub mode : t.mode ≡ s.mode
  pub shown_before : t.shown_before ≡ s.shown_before

module _ {C : Type 0} (at : C → State → ℕ → Type 0) (stands : C → Outside → State → Type 0) where
  -- the session goes on from a shell to which the line may lead, and so many choices have been drawn
  pub record LineGoesOn (Row : Shell → AfterLine → Type 0) (s : Shell) (drawn : ℕ) (c : C) : Type 0 where
    pub after : Shell
    pub row : Row s (goes after)
    pub like : IsLike s after
    pub draws : after.drawn ≡ drawn
    pub at_ : At at c after

  -- an object failed on the way to something to which the line may lead
  pub record LineBreaks (Row : Shell → AfterLine → Type 0) (s : Shell) (c : C) : Type 0 where
    pub next : AfterLine
    pub row : Row s next
    pub in_ : StandsIn stands (shell_in next) c

  abbrev pub LineDoes : (Row : Shell → AfterLine → Type 0) → Result (Unit {0}) SessionEnd → (drawn : ℕ) → Shell → C → Type 0
  LineDoes Row (Ok x) drawn s c = LineGoesOn Row s drawn c
  LineDoes Row (Err e) drawn s c = LineBreaks Row s c

  -- ---- a line that takes bytes itself

  -- the session goes on, and so many bytes have been taken and so many choices drawn
  pub record LineTakesOn (Row : Shell → AfterLine → Type 0) (s : Shell) (taken drawn : ℕ) (c : C) : Type 0 where
    pub after : Shell
    pub row : Row s (goes after)
    pub takes : after.taken ≡ taken
    pub mode : after.mode ≡ s.mode
    pub shown_before : after.shown_before ≡ s.shown_before
    pub draws : after.drawn ≡ drawn
    pub at_ : At at c after

  -- the session ends so; the object stands before the fresh-line rule is applied for the last time
  pub record LineCloses (Row : Shell → AfterLine → Type 0) (e : SessionEnd) (s : Shell) (drawn : ℕ) (c : C) : Type 0 where
    pub last : Shell
    pub row : Row s (closes e last)
    pub shown_before : last.shown_before ≡ s.shown_before
    pub draws : last.drawn ≡ drawn
    pub at_ : At at c last

  -- it ends so, or an object has failed
  abbrev pub LineEnds : (Row : Shell → AfterLine → Type 0) → SessionEnd → (drawn : ℕ) → Shell → C → Type 0
  LineEnds Row end.Halted drawn s c = LineCloses Row end.Halted s drawn c
  LineEnds Row end.InputEnd drawn s c = LineCloses Row end.InputEnd s drawn c
  LineEnds Row end.Limit drawn s c = LineCloses Row end.Limit s drawn c
  LineEnds Row end.DriveFault drawn s c = LineBreaks Row s c
  LineEnds Row end.InputFault drawn s c = LineBreaks Row s c
  LineEnds Row end.TerminalFault drawn s c = LineBreaks Row s c
  LineEnds Row end.PrinterFault drawn s c = LineBreaks Row s c

  abbrev pub LineDoesOrEnds : (Row : Shell → AfterLine → Type 0) → Result (Unit {0}) SessionEnd → (taken drawn : ℕ) → Shell → C → Type 0
  LineDoesOrEnds Row (Ok x) taken drawn s c = LineTakesOn Row s taken drawn c
  LineDoesOrEnds Row (Err e) taken drawn s c = LineEnds Row e drawn s c
