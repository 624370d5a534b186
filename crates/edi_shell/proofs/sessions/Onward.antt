-- What lines come to, told from other lines before them.
use Rattle.std.proofs.Common.{◌≡◌, ℕ, zero, suc, refl, subst, ◌∙◌}
use Rattle.std.specs.Prelude.{Result, Ok, Err}
use Rattle.edi_calls.specs.declared.ends.Outside.{Outside}
use Rattle.edi_calls.specs.Choice.{Choices}
use Rattle.edi_calls.specs.State.{State}
use Rattle.edi_session.specs.declared.end.SessionEnd.{SessionEnd}
use Rattle.edi_session.specs.declared.end.SessionEnd.TheVariants as end
use Rattle.edi_session.specs.Session.{AfterLine, goes, closes, ComesTo, Goes}
use Rattle.edi_session.specs.Shell.{Shell}
use Rattle.edi_shell_io.specs.calls.Standing.{IsFault}
use Rattle.edi_shell_io.proofs.calls.Faulted.{of_fault}
use Rattle.edi_shell.specs.edit.Chain.{LinesBreakOff, LinesClose, LinesCome}
use Rattle.edi_shell.proofs.edit.Chains.{chain_by}

module _ (bound : ℕ) (choices : Choices) where
  -- lines behind lines
  pub comes_then : (k : ℕ) (s now : Shell) (n : ℕ) (last : Shell) → ComesTo bound choices k s now → ComesTo bound choices n now last
      → (m : ℕ) × ComesTo bound choices m s last
  comes_then zero s now n last is h = (n, subst (λ x. ComesTo bound choices n x last) is h)
  comes_then (suc k) s now n last is h = let r = comes_then k is.0 now n last is.2 h in (suc r.0, (is.0, is.1, r.1))

  -- a line more, which goes on
  pub one_more : (n : ℕ) (s last after : Shell) → ComesTo bound choices n s last → Goes bound choices last (goes after) → ComesTo bound choices (suc n) s after
  one_more zero s last after is g = (after, subst (λ x. Goes bound choices x (goes after)) is g, refl)
  one_more (suc n) s last after is g = (is.0, is.1, one_more n is.0 last after is.2 g)

  module _ {C : Type 0} (at : C → State → ℕ → Type 0) (stands : C → Outside → State → Type 0) where
    pub breaks_by : (Row : AfterLine → Type 0) (e : SessionEnd) (s : Shell) (taken drawn : ℕ) (c : C) → IsFault e
        → LinesBreakOff bound choices at stands Row c → LinesCome bound choices at stands Row (Err e) s taken drawn c
    breaks_by Row e s taken drawn c fault h =
        of_fault (λ x. LinesCome bound choices at stands Row (Err x) s taken drawn c) h h h h e fault

    closes_by : (Row Other : AfterLine → Type 0) (e : SessionEnd) (drawn : ℕ) (c : C) → ((next : AfterLine) → Row next → Other next)
        → LinesClose bound choices at stands Row e drawn c → LinesClose bound choices at stands Other e drawn c
    closes_by Row Other e drawn c f h = record {
      last = h.last;
      lines_ = h.lines_;
      comes = chain_by bound choices Row Other f h.lines_ (closes e h.last) h.comes;
      drawn_is = h.drawn_is;
      at_ = h.at_;
    }

    broken_by : (Row Other : AfterLine → Type 0) (c : C) → ((next : AfterLine) → Row next → Other next) → LinesBreakOff bound choices at stands Row c
        → LinesBreakOff bound choices at stands Other c
    broken_by Row Other c f h = record {
      next = h.next;
      lines_ = h.lines_;
      comes = chain_by bound choices Row Other f h.lines_ h.next h.comes;
      in_ = h.in_;
    }

    -- what one line comes to another comes to, from a shell before it
    pub comes_by : (Row Other : AfterLine → Type 0) (result : Result (Unit {0}) SessionEnd) (t s : Shell) (taken drawn : ℕ) (c : C)
        → t.shown_before ≡ s.shown_before → ((next : AfterLine) → Row next → Other next) → LinesCome bound choices at stands Row result t taken drawn c
        → LinesCome bound choices at stands Other result s taken drawn c
    comes_by Row Other (Ok x) t s taken drawn c same f h = record {
      after = h.after;
      lines_ = h.lines_;
      comes = chain_by bound choices Row Other f h.lines_ (goes h.after) h.comes;
      mode_is = h.mode_is;
      before_is = h.before_is ∙ same;
      taken_is = h.taken_is;
      drawn_is = h.drawn_is;
      at_ = h.at_;
    }
    comes_by Row Other (Err end.Halted) t s taken drawn c same f h = closes_by Row Other end.Halted drawn c f h
    comes_by Row Other (Err end.InputEnd) t s taken drawn c same f h = closes_by Row Other end.InputEnd drawn c f h
    comes_by Row Other (Err end.Limit) t s taken drawn c same f h = closes_by Row Other end.Limit drawn c f h
    comes_by Row Other (Err end.DriveFault) t s taken drawn c same f h = broken_by Row Other c f h
    comes_by Row Other (Err end.InputFault) t s taken drawn c same f h = broken_by Row Other c f h
    comes_by Row Other (Err end.TerminalFault) t s taken drawn c same f h = broken_by Row Other c f h
    comes_by Row Other (Err end.PrinterFault) t s taken drawn c same f h = broken_by Row Other c f h
