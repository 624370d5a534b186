-- What a command comes to.
use Rattle.std.proofs.Common.{◌≡◌, ℕ, List, Option, refl, ◌∙◌}
use Rattle.std.specs.Prelude.{Result, Ok, Err}
use Rattle.edi_calls.specs.declared.ends.Outside.{Outside}
use Rattle.edi_calls.specs.Choice.{Choices}
use Rattle.edi_calls.specs.State.{State}
use Rattle.edi_session.specs.declared.end.SessionEnd.{SessionEnd}
use Rattle.edi_session.specs.declared.end.SessionEnd.TheVariants as end
use Rattle.edi_session.specs.declared.line.Line.{Line}
use Rattle.edi_session.specs.declared.line.Line.TheVariants as line
use Rattle.edi_session.specs.Session.{ActsBy, AfterLine, goes, closes}
use Rattle.edi_session.specs.Shell.{Shell}
use Rattle.edi_shell_io.specs.calls.Standing.{IsLeft, Leads}
use Rattle.edi_shell.specs.commands.Rows.{LineDoes, LineDoesOrEnds}
use Rattle.edi_shell.specs.edit.Chain.{LinesCome}
use Rattle.edi_shell.specs.sessions.Ends.{Awaits}
use Rattle.edi_shell.specs.sessions.Done.{done_by}
use Rattle.edi_shell.proofs.sessions.Kept.{IsAlike, alike_done}
use Rattle.edi_shell.proofs.sessions.Onward.{breaks_by}

module _ (bound : ℕ) (choices : Choices) {C : Type 0} (ready : C → Type 0) (failed : C → Option Outside) (at : C → State → ℕ → Type 0)
    (stands : C → Outside → State → Type 0) where
  -- the object was led to the shell that the row has
  leads_comes : (Row : AfterLine → Type 0) (result : Result (Unit {0}) SessionEnd) (s t : Shell) (taken drawn : ℕ) (c c' : C) → Row (goes t) → IsAlike s t
      → Awaits at s taken drawn c → IsLeft ready failed result c' → Leads at stands result t c'
      → LinesCome bound choices at stands Row result s taken drawn c'
  leads_comes Row (Ok x) s t taken drawn c c' row like w left l = record {
    after = t;
    lines_ = 0;
    comes = row;
    mode_is = like.mode_is ∙ w.mode_is;
    before_is = like.before_is;
    taken_is = like.taken_is ∙ w.taken_is;
    drawn_is = like.drawn_is ∙ w.drawn_is;
    at_ = l;
  }
  leads_comes Row (Err e) s t taken drawn c c' row like w left l =
      breaks_by bound choices at stands Row e s taken drawn c' left.0 (record { next = goes t; lines_ = 0; comes = row; in_ = l })

  -- a command that takes no further line, makes no code and runs none
  pub done_comes : (l : Line) (result : Result (Unit {0}) SessionEnd) (s : Shell) (taken drawn : ℕ) (c c' : C) → ((f : List ℕ) → l ≡ line.Enter f → ⊥)
      → ((f g : List ℕ) → l ≡ line.Compile f g → ⊥) → ((f : List ℕ) → l ≡ line.Edit f → ⊥) → (l ≡ line.Halt → ⊥) → ((f : List ℕ) → l ≡ line.Execute f → ⊥)
      → Awaits at s taken drawn c → IsLeft ready failed result c' → Leads at stands result (done_by l s) c'
      → LinesCome bound choices at stands (ActsBy bound choices l s) result s taken drawn c'
  done_comes l result s taken drawn c c' enter compile edit halt execute w left h =
      leads_comes (ActsBy bound choices l s) result s (done_by l s) taken drawn c c' (acts l enter compile edit halt execute) (alike_done l s) w left h where
        acts : (l : Line) → ((f : List ℕ) → l ≡ line.Enter f → ⊥) → ((f g : List ℕ) → l ≡ line.Compile f g → ⊥) → ((f : List ℕ) → l ≡ line.Edit f → ⊥)
            → (l ≡ line.Halt → ⊥) → ((f : List ℕ) → l ≡ line.Execute f → ⊥) → ActsBy bound choices l s (goes (done_by l s))
        acts (line.Enter f) enter compile edit halt execute = absurd (enter f refl)
        acts (line.Compile f g) enter compile edit halt execute = absurd (compile f g refl)
        acts (line.Edit f) enter compile edit halt execute = absurd (edit f refl)
        acts line.Halt enter compile edit halt execute = absurd (halt refl)
        acts (line.Execute f) enter compile edit halt execute = absurd (execute f refl)
        acts _ enter compile edit halt execute = refl

  -- the object was led to something that the row has
  pub does_comes : (Row : Shell → AfterLine → Type 0) (result : Result (Unit {0}) SessionEnd) (s : Shell) (taken drawn drawn' : ℕ) (c c' : C)
      → Awaits at s taken drawn c → IsLeft ready failed result c' → LineDoes at stands Row result drawn' s c'
      → LinesCome bound choices at stands (Row s) result s taken drawn' c'
  does_comes Row (Ok x) s taken drawn drawn' c c' w left h = record {
    after = h.after;
    lines_ = 0;
    comes = h.row;
    mode_is = h.like.mode ∙ w.mode_is;
    before_is = h.like.shown_before;
    taken_is = h.like.taken ∙ w.taken_is;
    drawn_is = h.draws;
    at_ = h.at_;
  }
  does_comes Row (Err e) s taken drawn drawn' c c' w left h =
      breaks_by bound choices at stands (Row s) e s taken drawn' c' left.0 (record { next = h.next; lines_ = 0; comes = h.row; in_ = h.in_ })

  -- the object was led to something that the row has, and bytes were taken on the way
  pub ends_comes : (Row : Shell → AfterLine → Type 0) (result : Result (Unit {0}) SessionEnd) (s : Shell) (taken drawn taken' drawn' : ℕ) (c c' : C)
      → Awaits at s taken drawn c → LineDoesOrEnds at stands Row result taken' drawn' s c' → LinesCome bound choices at stands (Row s) result s taken' drawn' c'
  ends_comes Row (Ok x) s taken drawn taken' drawn' c c' w h = record {
    after = h.after;
    lines_ = 0;
    comes = h.row;
    mode_is = h.mode ∙ w.mode_is;
    before_is = h.shown_before;
    taken_is = h.takes;
    drawn_is = h.draws;
    at_ = h.at_;
  }
  ends_comes Row (Err end.Halted) s taken drawn taken' drawn' c c' w h =
      record { last = h.last; lines_ = 0; comes = h.row; drawn_is = h.draws; at_ = h.at_ }
  ends_comes Row (Err end.InputEnd) s taken drawn taken' drawn' c c' w h =
      record { last = h.last; lines_ = 0; comes = h.row; drawn_is = h.draws; at_ = h.at_ }
  ends_comes Row (Err end.Limit) s taken drawn taken' drawn' c c' w h =
      record { last = h.last; lines_ = 0; comes = h.row; drawn_is = h.draws; at_ = h.at_ }
  ends_comes Row (Err end.DriveFault) s taken drawn taken' drawn' c c' w h = record { next = h.next; lines_ = 0; comes = h.row; in_ = h.in_ }
  ends_comes Row (Err end.InputFault) s taken drawn taken' drawn' c c' w h = record { next = h.next; lines_ = 0; comes = h.row; in_ = h.in_ }
  ends_comes Row (Err end.TerminalFault) s taken drawn taken' drawn' c c' w h = record { next = h.next; lines_ = 0; comes = h.row; in_ = h.in_ }
  ends_comes Row (Err end.PrinterFault) s taken drawn taken' drawn' c c' w h = record { next = h.next; lines_ = 0; comes = h.row; in_ = h.in_ }

  -- `halt`
  pub halts : (s : Shell) (taken drawn taken' : ℕ) (c : C) → Awaits at s taken drawn c
      → LinesCome bound choices at stands (λ next. next ≡ closes end.Halted s) (Err end.Halted) s taken' drawn c
  halts s taken drawn taken' c w = record { last = s; lines_ = 0; comes = refl; drawn_is = w.drawn_is; at_ = w.at_ }
