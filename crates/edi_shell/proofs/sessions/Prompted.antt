-- A command line, from its prompt on.
use Rattle.std.proofs.Common.{◌≡◌, ◌<◌, ℕ, zero, suc, Bool, true, false, List, [], ◌∷◌, Option, take, length, refl, sym, ap, subst, ◌∙◌, arith, rules}
use Rattle.std.specs.Prelude.{Result, Ok, Err, nat_le, codes}
use Rattle.edi_calls.specs.declared.ends.Outside.{Outside}
use Rattle.edi_calls.specs.Choice.{Choices}
use Rattle.edi_calls.specs.State.{State}
use Rattle.edi_session.specs.declared.end.SessionEnd.{SessionEnd}
use Rattle.edi_session.specs.declared.end.SessionEnd.TheVariants as end
use Rattle.edi_session.specs.Session.{AfterLine, closes, shell_in, ActsBy, ActsOn, Goes, GoesIn, prompted, BehindTaken}
use Rattle.edi_session.specs.Shell.{Shell, commanding, state_in, Taken, took, ended, limited, shell_of, next_line, on_fresh_line}
use Rattle.edi_session.specs.Words.{command_line}
use Rattle.edi_session.proofs.Later.{Later, shown_on, take_line_on}
use Rattle.edi_session.proofs.Total.{acts}
use Rattle.edi_shell_io.specs.calls.Standing.{At, IsFault, StandsIn}
use Rattle.edi_shell.specs.commands.Taking.{GivesLine, Stops}
use Rattle.edi_shell.proofs.commands.Standing.{stands_later}
use Rattle.edi_shell.specs.edit.Chain.{LinesBreakOff, LinesClose, LinesCome}
use Rattle.edi_shell.specs.sessions.Ends.{Awaits}
use Rattle.edi_shell.proofs.commands.Keeping.{taking_behind}
use Rattle.edi_shell.proofs.edit.Chains.{line_keeps}
use Rattle.edi_shell.proofs.sessions.Onward.{breaks_by, comes_by}

-- ---- the first 81 bytes of a line tell its command

all_of : (n : ℕ) (bytes : List ℕ) → length bytes < n → take n bytes ≡ bytes
all_of zero bytes few = absurd (omega (arith, few))
all_of (suc n) [] few = refl
all_of (suc n) (b ∷ bytes) few = ap (λ more. b ∷ more) (all_of n bytes (omega (arith, few)))

pub same_command : (bytes : List ℕ) → command_line (take 81 bytes) ≡ command_line bytes
same_command bytes = go (nat_le (length bytes) 80) refl where
  go : (b : Bool) → nat_le (length bytes) 80 ≡ b → command_line (take 81 bytes) ≡ command_line bytes
  go true e = ap command_line (all_of 81 bytes (search (rules, e)))
  go false e = let long : nat_le (length (take 81 bytes)) 80 ≡ false = search (rules, e) in rw (e, long) refl

module _ (bound : ℕ) (choices : Choices) where
  -- ---- the line of a shell at which a command is awaited

  goes_at : (s : Shell) (next : AfterLine) → s.mode ≡ commanding
      → BehindTaken (next_line true (prompted bound choices s)) (ActsOn bound choices) next → Goes bound choices s next
  goes_at s next mode row = subst (λ m. GoesIn bound choices m s next) (sym mode) row

  -- what was shown before it was taken is behind it
  pub prompt_later : (s : Shell) → Later (prompted bound choices s) (shell_of (next_line true (prompted bound choices s)))
  prompt_later s = take_line_on true (state_in (prompted bound choices s)).input [] (prompted bound choices s)

  pub fresh_later : (s : Shell) → Later (on_fresh_line s) (shell_of (next_line true (prompted bound choices s)))
  fresh_later s o m h = prompt_later s o m (shown_on (codes "> ") (on_fresh_line s) o m h)

  module _ {C : Type 0} (ready : C → Type 0) (failed : C → Option Outside) (at : C → State → ℕ → Type 0) (stands : C → Outside → State → Type 0) where
    row_breaks : (s : Shell) (c : C) → s.mode ≡ commanding → StandsIn stands (shell_of (next_line true (prompted bound choices s))) c
        → LinesBreakOff bound choices at stands (Goes bound choices s) c
    row_breaks s c mode st =
        let n = taking_behind (next_line true (prompted bound choices s)) (ActsOn bound choices) (λ bytes u. acts bound choices (command_line bytes) u) in
        record {
          next = n.0;
          lines_ = 0;
          comes = goes_at s n.0 mode n.1;
          in_ = stands_later stands (shell_of (next_line true (prompted bound choices s))) (shell_in n.0) c n.2 st;
        }

    -- an object failed before the line was taken
    pub command_fails : (s t : Shell) (e : SessionEnd) (taken drawn : ℕ) (c : C) → s.mode ≡ commanding → IsFault e
        → Later t (shell_of (next_line true (prompted bound choices s))) → StandsIn stands t c
        → LinesCome bound choices at stands (Goes bound choices s) (Err e) s taken drawn c
    command_fails s t e taken drawn c mode f later st =
        breaks_by bound choices at stands (Goes bound choices s) e s taken drawn c f
        (row_breaks s c mode (stands_later stands t (shell_of (next_line true (prompted bound choices s))) c later st))

    ends_at : (e : SessionEnd) (s t : Shell) (taken_ : Taken) (drawn : ℕ) (c : C) → s.mode ≡ commanding → next_line true (prompted bound choices s) ≡ taken_
        → BehindTaken taken_ (ActsOn bound choices) (closes e t) → t.drawn ≡ drawn → At at c t → LinesClose bound choices at stands (Goes bound choices s) e drawn c
    ends_at e s t taken_ drawn c mode is row draws a = record {
      last = t;
      lines_ = 0;
      comes = goes_at s (closes e t) mode (subst (λ r. BehindTaken r (ActsOn bound choices) (closes e t)) (sym is) row);
      drawn_is = draws;
      at_ = a;
    }

    stops_by : (e : SessionEnd) (taken_ : Taken) (s : Shell) (taken drawn : ℕ) (c : C) → s.mode ≡ commanding
        → next_line true (prompted bound choices s) ≡ taken_ → (shell_of taken_).drawn ≡ drawn → Stops at stands e taken_ c
        → LinesCome bound choices at stands (Goes bound choices s) (Err e) s taken drawn c
    stops_by end.Halted taken_ s taken drawn c mode is d h = absurd h
    stops_by end.InputEnd (took bytes t) s taken drawn c mode is d h = absurd h
    stops_by end.InputEnd (ended t) s taken drawn c mode is d h = ends_at end.InputEnd s t (ended t) drawn c mode is refl d h
    stops_by end.InputEnd (limited t) s taken drawn c mode is d h = absurd h
    stops_by end.Limit (took bytes t) s taken drawn c mode is d h = absurd h
    stops_by end.Limit (ended t) s taken drawn c mode is d h = absurd h
    stops_by end.Limit (limited t) s taken drawn c mode is d h = ends_at end.Limit s t (limited t) drawn c mode is refl d h
    stops_by end.DriveFault taken_ s taken drawn c mode is d h = row_breaks s c mode (subst (λ r. StandsIn stands (shell_of r) c) (sym is) h)
    stops_by end.InputFault taken_ s taken drawn c mode is d h = row_breaks s c mode (subst (λ r. StandsIn stands (shell_of r) c) (sym is) h)
    stops_by end.TerminalFault taken_ s taken drawn c mode is d h = row_breaks s c mode (subst (λ r. StandsIn stands (shell_of r) c) (sym is) h)
    stops_by end.PrinterFault taken_ s taken drawn c mode is d h = row_breaks s c mode (subst (λ r. StandsIn stands (shell_of r) c) (sym is) h)

    -- no line was taken
    pub command_stops : (s : Shell) (e : SessionEnd) (taken taken' drawn : ℕ) (c c' : C) → Awaits at s taken drawn c
        → Stops at stands e (next_line true (prompted bound choices s)) c'
        → LinesCome bound choices at stands (Goes bound choices s) (Err e) s taken' drawn c'
    command_stops s e taken taken' drawn c c' w h =
        stops_by e (next_line true (prompted bound choices s)) s taken' drawn c' w.mode_is refl
        ((line_keeps true (state_in (prompted bound choices s)).input [] (prompted bound choices s)).drawn_is ∙ w.drawn_is) h

    -- A line was taken, and its command is awaited to be done.
    pub record IsTaken (s : Shell) (kept : List ℕ) (taken drawn : ℕ) (c : C) : Type 0 where
      pub bytes : List ℕ
      pub at_shell : Shell
      pub is : next_line true (prompted bound choices s) ≡ took bytes at_shell
      pub kept_is : kept ≡ take 81 bytes
      pub before_is : at_shell.shown_before ≡ s.shown_before
      pub awaits : Awaits at at_shell taken drawn c

    taken_by : (taken_ : Taken) (s : Shell) (kept : List ℕ) (count drawn : ℕ) (c : C) → next_line true (prompted bound choices s) ≡ taken_
        → (shell_of taken_).mode ≡ commanding → (shell_of taken_).shown_before ≡ s.shown_before → (shell_of taken_).drawn ≡ drawn
        → GivesLine at stands 81 (Ok tt) taken_ kept count c → IsTaken s kept count drawn c
    taken_by (took bytes t) s kept count drawn c is mode before draws h = record {
      bytes = bytes;
      at_shell = t;
      is = is;
      kept_is = h.0;
      before_is = before;
      awaits = record { mode_is = mode; taken_is = h.1; drawn_is = draws; at_ = h.2 };
    }
    taken_by (ended t) s kept count drawn c is mode before draws h = absurd h
    taken_by (limited t) s kept count drawn c is mode before draws h = absurd h

    pub line_taken : (s : Shell) (kept : List ℕ) (taken count drawn : ℕ) (c c' : C) → Awaits at s taken drawn c
        → GivesLine at stands 81 (Ok tt) (next_line true (prompted bound choices s)) kept count c' → IsTaken s kept count drawn c'
    line_taken s kept taken count drawn c c' w h =
        let keeps = line_keeps true (state_in (prompted bound choices s)).input [] (prompted bound choices s) in
        taken_by (next_line true (prompted bound choices s)) s kept count drawn c' refl (keeps.mode_is ∙ w.mode_is) keeps.before_is
        (keeps.drawn_is ∙ w.drawn_is) h

    -- what the command comes to the line comes to
    pub command_acts : (s : Shell) (kept : List ℕ) (count drawn taken' drawn' : ℕ) (result : Result (Unit {0}) SessionEnd) (c c' : C) → s.mode ≡ commanding
        → (u : IsTaken s kept count drawn c)
        → LinesCome bound choices at stands (ActsBy bound choices (command_line kept) u.at_shell) result u.at_shell taken' drawn' c'
        → LinesCome bound choices at stands (Goes bound choices s) result s taken' drawn' c'
    command_acts s kept count drawn taken' drawn' result c c' mode u h =
        comes_by bound choices at stands (ActsBy bound choices (command_line kept) u.at_shell) (Goes bound choices s) result u.at_shell s taken' drawn' c'
        u.before_is
        (λ next row. goes_at s next mode (subst (λ r. BehindTaken r (ActsOn bound choices) next) (sym u.is)
        (subst (λ l. ActsBy bound choices l u.at_shell next) (ap command_line u.kept_is ∙ same_command u.bytes) row))) h
