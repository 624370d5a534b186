-- Words of contracts. Lines of a session that follow one another, and where the object stands behind them.
use Rattle.std.specs.Prelude.{◌≡◌, ⊤, ℕ, zero, suc, Result, Ok, Err}
use Rattle.edi_calls.specs.declared.ends.Outside.{Outside}
use Rattle.edi_calls.specs.Choice.{Choices}
use Rattle.edi_calls.specs.State.{State}
use Rattle.edi_session.specs.declared.end.SessionEnd.{SessionEnd}
use Rattle.edi_session.specs.declared.end.SessionEnd.TheVariants as end
use Rattle.edi_session.specs.Session.{AfterLine, goes, closes, shell_in, Goes}
use Rattle.edi_session.specs.Shell.{Shell, Mode, commanding, editing}
use Rattle.edi_shell_io.specs.calls.Standing.{At, StandsIn}

abbrev pub IsEditing : Mode → Type 0
IsEditing commanding = ⊥
IsEditing (editing title e) = ⊤

module _ (bound : ℕ) (choices : Choices) where
  -- CHAIN: a line with this row, and so many lines of an editing that follow it
  abbrev pub Chain : (Row : AfterLine → Type 0) → ℕ → AfterLine → Type 0
  Chain Row zero next = Row next
  Chain Row (suc n) next = (between : Shell) × Row (goes between) × IsEditing between.mode × Chain (Goes bound choices between) n next

module _ (bound : ℕ) (choices : Choices) {C : Type 0} (at : C → State → ℕ → Type 0) (stands : C → Outside → State → Type 0) where
  -- the session goes on behind them, at a command line; so many bytes have been taken, and so many choices drawn
  pub record LinesReturn (Row : AfterLine → Type 0) (s : Shell) (taken drawn : ℕ) (c : C) : Type 0 where
    pub after : Shell
    pub lines_ : ℕ
    pub comes : Chain bound choices Row lines_ (goes after)
    pub mode_is : after.mode ≡ commanding
    pub before_is : after.shown_before ≡ s.shown_before
    pub taken_is : after.taken ≡ taken
    pub drawn_is : after.drawn ≡ drawn
    pub at_ : At at c after

  -- the session ends so at the last of them, and the fresh-line rule is still to be applied
  pub record LinesClose (Row : AfterLine → Type 0) (e : SessionEnd) (drawn : ℕ) (c : C) : Type 0 where
    pub last : Shell
    pub lines_ : ℕ
    pub comes : Chain bound choices Row lines_ (closes e last)
    pub drawn_is : last.drawn ≡ drawn
    pub at_ : At at c last

  -- an object failed on the way to what they lead to
  pub record LinesBreakOff (Row : AfterLine → Type 0) (c : C) : Type 0 where
    pub next : AfterLine
    pub lines_ : ℕ
    pub comes : Chain bound choices Row lines_ next
    pub in_ : StandsIn stands (shell_in next) c

  abbrev pub LinesCome : (Row : AfterLine → Type 0) → Result (Unit {0}) SessionEnd → Shell → (taken drawn : ℕ) → C → Type 0
  LinesCome Row (Ok x) s taken drawn c = LinesReturn Row s taken drawn c
  LinesCome Row (Err end.Halted) s taken drawn c = LinesClose Row end.Halted drawn c
  LinesCome Row (Err end.InputEnd) s taken drawn c = LinesClose Row end.InputEnd drawn c
  LinesCome Row (Err end.Limit) s taken drawn c = LinesClose Row end.Limit drawn c
  LinesCome Row (Err end.DriveFault) s taken drawn c = LinesBreakOff Row c
  LinesCome Row (Err end.InputFault) s taken drawn c = LinesBreakOff Row c
  LinesCome Row (Err end.TerminalFault) s taken drawn c = LinesBreakOff Row c
  LinesCome Row (Err end.PrinterFault) s taken drawn c = LinesBreakOff Row c
