-- How a session comes to its end.
use Rattle.std.proofs.Common.{◌≡◌, ◌<◌, ◌≤◌, ◌+◌, ◌-◌, ◌*◌, ℕ, zero, suc, true, false, refl, arith, rules}
use Rattle.std.specs.Prelude.{Result, Ok, Err, IfOk}
use Rattle.std.proofs.Math.Nat.{mul-le-mul_right}
use Rattle.edi_calls.specs.declared.ends.Outside.{Outside}
use Rattle.edi_calls.specs.Choice.{Choices}
use Rattle.edi_calls.specs.State.{State}
use Rattle.edi_session.specs.declared.end.SessionEnd.{SessionEnd}
use Rattle.edi_session.specs.declared.end.SessionEnd.TheVariants as end
use Rattle.edi_session.specs.Session.{goes, closes, ComesTo, Goes}
use Rattle.edi_session.specs.Shell.{Shell, on_fresh_line}
use Rattle.edi_shell_io.specs.calls.Standing.{At, IsFault, StandsIn}
use Rattle.edi_shell_io.proofs.calls.Faulted.{of_fault}
use Rattle.edi_shell.specs.edit.Chain.{LinesBreakOff, LinesClose, LinesCome}
use Rattle.edi_shell.specs.sessions.Ends.{Awaits, ends_by_fault, SessionEnds, SessionHasEnded, SessionHasFailed, SessionIsToEnd, SessionStops}
use Rattle.edi_shell.proofs.sessions.Failing.{by_end, by_fault, ended_so, failed_so}
use Rattle.edi_shell.proofs.edit.Chains.{comes_of}
use Rattle.edi_shell.proofs.sessions.Onward.{comes_then, one_more}

-- ---- choices are left for the bytes that are left

one_less : (left left' bound : ℕ) → left' < left → left' * bound + bound ≤ left * bound
one_less left left' bound less =
    let most : suc left' * bound ≤ left * bound = mul-le-mul_right bound less in
    let is : suc left' * bound ≡ left' * bound + bound = search rules in
    omega (arith, most, is)

-- of the choices that all bytes may draw, those are left that the bytes left may draw
pub fewer : (most top taken taken' drawn drawn' bound : ℕ) → taken < taken' → taken' ≤ most → drawn' ≤ drawn + bound
    → drawn + (most - taken) * bound ≤ top → drawn' + (most - taken') * bound ≤ top
fewer most top taken taken' drawn drawn' bound more within drew few =
    let less = one_less (most - taken) (most - taken') bound (omega (arith, more, within)) in
    omega (arith, less, drew, few)

-- a byte that is left may draw as many as the bound
pub enough : (most taken drawn bound : ℕ) → taken < most → drawn + bound ≤ drawn + (most - taken) * bound
enough most taken drawn bound left =
    let less = one_less (most - taken) 0 bound (omega (arith, left)) in
    omega (arith, less)

pub below : (a b c : ℕ) → a ≤ b → b < c → a < c
below a b c le lt = omega (arith, le, lt)

pub within_all : (a b c : ℕ) → a ≤ b → b ≤ c → a ≤ c
within_all a b c le more = omega (arith, le, more)

-- what is so whatever the result is
pub if_ok : {A B : Type 0} (r : Result A B) (P : Type 0) → P → IfOk r (λ x. P)
if_ok (Ok x) P p = p
if_ok (Err e) P p = tt

module _ (bound : ℕ) (choices : Choices) {C : Type 0} (at : C → State → ℕ → Type 0) (stands : C → Outside → State → Type 0) where
  -- So far a session has come, which awaits a command line.
  pub record HasCome (start : Shell) (taken drawn : ℕ) (c : C) : Type 0 where
    pub now : Shell
    pub lines_ : ℕ
    pub comes : ComesTo bound choices lines_ start now
    pub awaits : Awaits at now taken drawn c

  pub begins : (start : Shell) (taken drawn : ℕ) (c : C) → Awaits at start taken drawn c → HasCome start taken drawn c
  begins start taken drawn c w = record { now = start; lines_ = zero; comes = refl; awaits = w }

  -- a line leads on
  pub comes_on : (start : Shell) (taken drawn taken' drawn' : ℕ) (c c' : C) (u : HasCome start taken drawn c)
      → LinesCome bound choices at stands (Goes bound choices u.now) (Ok tt) u.now taken' drawn' c' → HasCome start taken' drawn' c'
  comes_on start taken drawn taken' drawn' c c' u h =
      let last = comes_of bound choices h.lines_ u.now (goes h.after) h.comes in
      let all = comes_then bound choices u.lines_ start u.now h.lines_ last.0 u.comes last.1 in
      record {
        now = h.after;
        lines_ = suc all.0;
        comes = one_more bound choices all.0 start last.0 h.after all.1 last.2;
        awaits = record { mode_is = h.mode_is; taken_is = h.taken_is; drawn_is = h.drawn_is; at_ = h.at_ };
      }

  closes_since : (start : Shell) (e : SessionEnd) (taken drawn drawn' : ℕ) (c c' : C) (u : HasCome start taken drawn c)
      → LinesClose bound choices at stands (Goes bound choices u.now) e drawn' c' → SessionIsToEnd bound choices at stands start e drawn' c'
  closes_since start e taken drawn drawn' c c' u h =
      let last = comes_of bound choices h.lines_ u.now (closes e h.last) h.comes in
      let all = comes_then bound choices u.lines_ start u.now h.lines_ last.0 u.comes last.1 in
      record { lines_ = all.0; before = last.0; comes = all.1; last = h.last; goes_ = last.2; drawn_is = h.drawn_is; at_ = h.at_ }

  breaks_since : (start : Shell) (taken drawn : ℕ) (c c' : C) (u : HasCome start taken drawn c)
      → LinesBreakOff bound choices at stands (Goes bound choices u.now) c' → SessionHasFailed bound choices at stands start c'
  breaks_since start taken drawn c c' u h =
      let last = comes_of bound choices h.lines_ u.now h.next h.comes in
      let all = comes_then bound choices u.lines_ start u.now h.lines_ last.0 u.comes last.1 in
      record {
        failed = h.in_.failed;
        moment = h.in_.moment;
        comes = record { lines_ = all.0; last = last.0; comes = all.1; next = h.next; goes_ = last.2; there = h.in_.there };
        is = h.in_.is;
      }

  -- a line stops it
  pub stops_since : (start : Shell) (e : SessionEnd) (taken drawn taken' drawn' : ℕ) (c c' : C) (u : HasCome start taken drawn c)
      → LinesCome bound choices at stands (Goes bound choices u.now) (Err e) u.now taken' drawn' c'
      → SessionStops bound choices at stands start e drawn' c'
  stops_since start end.Halted taken drawn taken' drawn' c c' u h = closes_since start end.Halted taken drawn drawn' c c' u h
  stops_since start end.InputEnd taken drawn taken' drawn' c c' u h = closes_since start end.InputEnd taken drawn drawn' c c' u h
  stops_since start end.Limit taken drawn taken' drawn' c c' u h = closes_since start end.Limit taken drawn drawn' c c' u h
  stops_since start end.DriveFault taken drawn taken' drawn' c c' u h = breaks_since start taken drawn c c' u h
  stops_since start end.InputFault taken drawn taken' drawn' c c' u h = breaks_since start taken drawn c c' u h
  stops_since start end.TerminalFault taken drawn taken' drawn' c c' u h = breaks_since start taken drawn c c' u h
  stops_since start end.PrinterFault taken drawn taken' drawn' c c' u h = breaks_since start taken drawn c c' u h

  -- ---- the end

  -- by a fault
  pub ends_failed : (start : Shell) (e : SessionEnd) (drawn : ℕ) (c : C) → ends_by_fault e ≡ true → SessionStops bound choices at stands start e drawn c
      → SessionEnds bound choices at stands start e drawn c
  ends_failed start e drawn c f h =
      by_fault (ends_by_fault e) (SessionHasEnded bound choices at stands start e drawn c) (SessionHasFailed bound choices at stands start c) f
      (failed_so (ends_by_fault e) (SessionIsToEnd bound choices at stands start e drawn c) (SessionHasFailed bound choices at stands start c) f h)

  to_end : (start : Shell) (e : SessionEnd) (drawn : ℕ) (c : C) → ends_by_fault e ≡ false → SessionStops bound choices at stands start e drawn c
      → SessionIsToEnd bound choices at stands start e drawn c
  to_end start e drawn c f h =
      ended_so (ends_by_fault e) (SessionIsToEnd bound choices at stands start e drawn c) (SessionHasFailed bound choices at stands start c) f h

  closed : (start : Shell) (e : SessionEnd) (drawn : ℕ) (c c' : C) → ((t : Shell) → At at c t → At at c' (on_fresh_line t))
      → SessionIsToEnd bound choices at stands start e drawn c → SessionHasEnded bound choices at stands start e drawn c'
  closed start e drawn c c' shown h = record {
    after = on_fresh_line h.last;
    session = record { lines_ = h.lines_; last = h.before; comes = h.comes; stops_ = h.goes_ };
    drawn_is = h.drawn_is;
    at_ = shown h.last h.at_;
  }

  -- by another end, and the fresh-line rule was applied
  pub ends_closed : (start : Shell) (e : SessionEnd) (drawn : ℕ) (c c' : C) → ends_by_fault e ≡ false → SessionStops bound choices at stands start e drawn c
      → ((t : Shell) → At at c t → At at c' (on_fresh_line t)) → SessionEnds bound choices at stands start e drawn c'
  ends_closed start e drawn c c' f h shown =
      by_end (ends_by_fault e) (SessionHasEnded bound choices at stands start e drawn c') (SessionHasFailed bound choices at stands start c') f
      (closed start e drawn c c' shown (to_end start e drawn c f h))

  unclosed : (start : Shell) (e : SessionEnd) (drawn : ℕ) (c c' : C) → ((t : Shell) → At at c t → StandsIn stands (on_fresh_line t) c')
      → SessionIsToEnd bound choices at stands start e drawn c → SessionHasFailed bound choices at stands start c'
  unclosed start e drawn c c' broke h =
      let there = broke h.last h.at_ in
      record {
        failed = there.failed;
        moment = there.moment;
        comes = record { lines_ = h.lines_; last = h.before; comes = h.comes; next = closes e h.last; goes_ = h.goes_; there = there.there };
        is = there.is;
      }

  unclosed_by : (start : Shell) (e : SessionEnd) (drawn : ℕ) (c c' : C) → ends_by_fault e ≡ false → SessionStops bound choices at stands start e drawn c
      → ((t : Shell) → At at c t → StandsIn stands (on_fresh_line t) c') → SessionHasFailed bound choices at stands start c'
  unclosed_by start e drawn c c' f h broke = unclosed start e drawn c c' broke (to_end start e drawn c f h)

  -- and the terminal failed in it
  pub ends_unclosed : (start : Shell) (e fault : SessionEnd) (drawn : ℕ) (c c' : C) → ends_by_fault e ≡ false → IsFault fault
      → SessionStops bound choices at stands start e drawn c → ((t : Shell) → At at c t → StandsIn stands (on_fresh_line t) c')
      → SessionEnds bound choices at stands start fault drawn c'
  ends_unclosed start e fault drawn c c' f is h broke =
      let u = unclosed_by start e drawn c c' f h broke in of_fault (λ x. SessionEnds bound choices at stands start x drawn c') u u u u fault is
