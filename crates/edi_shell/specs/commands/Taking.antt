-- Words of contracts. What is taken of the input, and where the object stands then.
use Rattle.std.specs.Prelude.{◌≡◌, ◌++◌, ℕ, ◌+◌, Bool, true, false, nat_le, List, [], ◌∷◌, length, take, Option, Some, None, Result, Ok, Err}
use Rattle.edi_calls.specs.declared.ends.Outside.{Outside}
use Rattle.edi_calls.specs.State.{State}
use Rattle.edi_session.specs.declared.end.SessionEnd.{SessionEnd}
use Rattle.edi_session.specs.declared.end.SessionEnd.TheVariants as end
use Rattle.edi_session.specs.Shell.{Shell, Taken, took, ended, limited, shell_of, limit, state_in, took_byte, ends_text, take_line}
use Rattle.edi_shell_io.specs.calls.Standing.{At, FailsAtByte, StandsIn, failed_by}

-- So many bytes of a text have been taken, so many of them are its whole lines, and this tells whether the line behind them is the
-- one that ends it.
pub record IsSoFar (count whole : ℕ) (dot : Bool) (text line : List ℕ) : Type 0 where
  pub all : count ≡ length text + length line
  pub lines_ : whole ≡ length text
  pub ends : dot ≡ ends_text line

-- So much of a line has been taken: from here on the rest comes to what the whole does. Its first bytes are kept, `most` of them, and
-- so many bytes have been taken in the session.
pub record LineUnderway {C : Type 0} (at : C → State → ℕ → Type 0) (echo : Bool) (most : ℕ) (whole : Taken) (kept : List ℕ) (count : ℕ) (c : C) : Type 0 where
  pub now : Shell
  pub line : List ℕ
  pub comes : take_line echo (state_in now).input line now ≡ whole
  pub kept_is : kept ≡ take most line
  pub taken_is : now.taken ≡ count
  pub at_ : At at c now

module _ {C : Type 0} (ready : C → Type 0) (failed : C → Option Outside) where
  -- a further call may be made, unless an object has failed
  abbrev pub Stays : SessionEnd → C → Type 0
  Stays end.Halted c = ready c
  Stays end.InputEnd c = ready c
  Stays end.Limit c = ready c
  Stays end.DriveFault c = failed c ≡ failed_by end.DriveFault
  Stays end.InputFault c = failed c ≡ failed_by end.InputFault
  Stays end.TerminalFault c = failed c ≡ failed_by end.TerminalFault
  Stays end.PrinterFault c = failed c ≡ failed_by end.PrinterFault

  abbrev pub IsLeftSo : {X : Type 0} → Result X SessionEnd → C → Type 0
  IsLeftSo (Ok x) c = ready c
  IsLeftSo (Err e) c = Stays e c

module _ {C : Type 0} (at : C → State → ℕ → Type 0) (stands : C → Outside → State → Type 0) where
  -- no byte is taken: the limit was reached, or the input has failed at the next byte
  abbrev pub GivesNone : SessionEnd → Shell → C → Type 0
  GivesNone end.Limit s c = (nat_le limit s.taken ≡ true) × At at c s
  GivesNone end.Halted s c = ⊥
  GivesNone end.InputEnd s c = ⊥
  GivesNone end.DriveFault s c = (nat_le limit s.taken ≡ false) × FailsAtByte stands s c
  GivesNone end.InputFault s c = (nat_le limit s.taken ≡ false) × FailsAtByte stands s c
  GivesNone end.TerminalFault s c = (nat_le limit s.taken ≡ false) × FailsAtByte stands s c
  GivesNone end.PrinterFault s c = (nat_le limit s.taken ≡ false) × FailsAtByte stands s c

  -- a byte is taken, or the input has ended
  abbrev pub GivesByte : Result (Option ℕ) SessionEnd → Shell → C → Type 0
  GivesByte (Ok (Some byte)) s c =
      (nat_le limit s.taken ≡ false) × (left : List ℕ) × ((state_in s).input ≡ byte ∷ left) × At at c (took_byte left s)
  GivesByte (Ok None) s c = (nat_le limit s.taken ≡ false) × ((state_in s).input ≡ []) × At at c s
  GivesByte (Err e) s c = GivesNone e s c

  -- no line is taken
  abbrev pub Stops : SessionEnd → Taken → C → Type 0
  Stops end.InputEnd (ended s) c = At at c s
  Stops end.Limit (limited s) c = At at c s
  Stops end.DriveFault taken c = StandsIn stands (shell_of taken) c
  Stops end.InputFault taken c = StandsIn stands (shell_of taken) c
  Stops end.TerminalFault taken c = StandsIn stands (shell_of taken) c
  Stops end.PrinterFault taken c = StandsIn stands (shell_of taken) c
  Stops _ taken c = ⊥

  -- A line is taken, of which the first bytes are kept, `most` of them, and so many bytes have been taken in the session.
  abbrev pub GivesLine : (most : ℕ) → Result (Unit {0}) SessionEnd → Taken → (kept : List ℕ) → (count : ℕ) → C → Type 0
  GivesLine most (Ok x) (took bytes s) kept count c = (kept ≡ take most bytes) × (s.taken ≡ count) × At at c s
  GivesLine most (Ok x) _ kept count c = ⊥
  GivesLine most (Err e) taken kept count c = Stops e taken c

  -- A further byte of a line is taken, of which the first are kept, or the line has ended and is taken.
  abbrev pub GivesMore : (echo : Bool) → (most : ℕ) → Result (Option ℕ) SessionEnd → Taken → (kept : List ℕ) → (count : ℕ) → C → Type 0
  GivesMore echo most (Ok (Some byte)) taken kept count c =
      (more : List ℕ) → more ≡ take most (kept ++ byte ∷ []) → LineUnderway at echo most taken more count c
  GivesMore echo most (Ok None) taken kept count c = GivesLine most (Ok tt) taken kept count c
  GivesMore echo most (Err e) taken kept count c = Stops e taken c

  -- A text is taken, of so many bytes. The room has the first of them, and so many bytes have been taken in the session.
  abbrev pub GivesText : Result ℕ SessionEnd → Taken → (room : List ℕ) → (count : ℕ) → C → Type 0
  GivesText (Ok n) (took text s) room count c = (n ≡ length text) × (take n room ≡ take (length room) text) × (s.taken ≡ count) × At at c s
  GivesText (Ok n) _ room count c = ⊥
  GivesText (Err e) taken room count c = Stops e taken c
