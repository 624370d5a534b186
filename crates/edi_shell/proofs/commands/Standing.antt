-- Where an object stands after a fault, told of a later shell.
use Rattle.std.proofs.Common.{◌≡◌, ◌∷◌, ℕ, List, true, false, subst, sym}
use Rattle.std.specs.Prelude.{nat_le}
use Rattle.edi_calls.specs.declared.ends.Outside.{Outside}
use Rattle.edi_calls.specs.State.{State}
use Rattle.edi_session.specs.declared.end.SessionEnd.{SessionEnd}
use Rattle.edi_session.specs.declared.end.SessionEnd.TheVariants as end
use Rattle.edi_session.specs.Shell.{Shell, Taken, limited, shell_of, limit, state_in, took_byte}
use Rattle.edi_session.proofs.Later.{Later}
use Rattle.edi_shell_io.specs.calls.Standing.{FailsAtByte, StandsIn, IsFault}
use Rattle.edi_shell_io.proofs.calls.Faulted.{of_fault}
use Rattle.edi_shell.specs.commands.Taking.{GivesNone, Stops}

module _ {C : Type 0} (stands : C → Outside → State → Type 0) where
  pub stands_later : (s t : Shell) (c : C) → Later s t → StandsIn stands s c → StandsIn stands t c
  stands_later s t c on st = record { failed = st.failed; moment = st.moment; there = on st.failed st.moment st.there; is = st.is }

-- no line is taken where an object has failed on the way to it
pub fault_stops : {C : Type 0} (at : C → State → ℕ → Type 0) (stands : C → Outside → State → Type 0) (e : SessionEnd) (taken : Taken) (c : C)
    → IsFault e → StandsIn stands (shell_of taken) c → Stops at stands e taken c
fault_stops at stands e taken c fault st = of_fault (λ x. Stops at stands x taken c) st st st st e fault

-- what comes of a shell behind its next byte comes behind that byte
abbrev pub TakesOnBehind : Shell → Taken → Type 0
TakesOnBehind s taken =
    (byte : ℕ) (left : List ℕ) → nat_le limit s.taken ≡ false → (state_in s).input ≡ byte ∷ left → Later (took_byte left s) (shell_of taken)

fails_later : {C : Type 0} (stands : C → Outside → State → Type 0) (s : Shell) (taken : Taken) (c : C) → TakesOnBehind s taken
    → (nat_le limit s.taken ≡ false) × FailsAtByte stands s c → StandsIn stands (shell_of taken) c
fails_later stands s taken c on h =
    stands_later stands (took_byte h.1.1 s) (shell_of taken) c (on h.1.0 h.1.1 h.0 h.1.2) h.1.3

-- a fault of a byte that the limit allows
pub no_byte : {C : Type 0} (at : C → State → ℕ → Type 0) (stands : C → Outside → State → Type 0) (e : SessionEnd) (s : Shell) (c : C) → IsFault e
    → nat_le limit s.taken ≡ false → FailsAtByte stands s c → GivesNone at stands e s c
no_byte at stands e s c fault open_ h =
    of_fault (λ x. GivesNone at stands x s c) (open_, h) (open_, h) (open_, h) (open_, h) e fault

-- no byte is taken, and so neither a line nor a text
pub nothing_stops : {C : Type 0} (at : C → State → ℕ → Type 0) (stands : C → Outside → State → Type 0) (s : Shell) (taken : Taken) (e : SessionEnd) (c : C)
    → (nat_le limit s.taken ≡ true → taken ≡ limited s) → TakesOnBehind s taken → GivesNone at stands e s c → Stops at stands e taken c
nothing_stops at stands s taken end.Halted c full on none = absurd none
nothing_stops at stands s taken end.InputEnd c full on none = absurd none
nothing_stops at stands s taken end.Limit c full on none = subst (λ w. Stops at stands end.Limit w c) (sym (full none.0)) none.1
nothing_stops at stands s taken end.DriveFault c full on none = fails_later stands s taken c on none
nothing_stops at stands s taken end.InputFault c full on none = fails_later stands s taken c on none
nothing_stops at stands s taken end.TerminalFault c full on none = fails_later stands s taken c on none
nothing_stops at stands s taken end.PrinterFault c full on none = fails_later stands s taken c on none
