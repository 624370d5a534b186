-- What taking lines of the input leaves as it is, and what lies behind them.
use Rattle.std.proofs.Common.{◌≡◌, Bool, true, false, List, ℕ, refl}
use Rattle.std.specs.Prelude.{if◌then◌else◌}
use Rattle.edi_session.specs.declared.end.SessionEnd.TheVariants as end
use Rattle.edi_session.specs.Session.{AfterLine, closes, shell_in, BehindTaken}
use Rattle.edi_session.specs.Shell.{Shell, Taken, took, ended, limited, shell_of, took_byte}
use Rattle.edi_session.proofs.Later.{Later, fresh_on}
use Rattle.edi_session.proofs.Total as total

pub record TakingKeeps (s t : Shell) : Type 0 where
  pub drawn_is : t.drawn ≡ s.drawn
  pub mode_is : t.mode ≡ s.mode
  pub before_is : t.shown_before ≡ s.shown_before

pub itself : (s : Shell) → TakingKeeps s s
itself s = record { drawn_is = refl; mode_is = refl; before_is = refl }

pub one_keeps : (b : Bool) (s : Shell) (x y : Taken) → TakingKeeps s (shell_of x) → TakingKeeps s (shell_of y)
    → TakingKeeps s (shell_of (if b then x else y))
one_keeps true s x y p q = p
one_keeps false s x y p q = q

pub took_keeps : (left : List ℕ) (s t : Shell) → TakingKeeps s t → TakingKeeps s (took_byte left t)
took_keeps left s t k = record { drawn_is = k.drawn_is; mode_is = k.mode_is; before_is = k.before_is }

-- what comes behind them
pub taking_behind : (taken : Taken) (P : List ℕ → Shell → AfterLine → Type 0) → ((bytes : List ℕ) (t : Shell) → total.Comes (P bytes) t)
    → (next : AfterLine) × BehindTaken taken P next × Later (shell_of taken) (shell_in next)
taking_behind (took bytes t) P on = on bytes t
taking_behind (ended t) P on = (closes end.InputEnd t, refl, fresh_on t)
taking_behind (limited t) P on = (closes end.Limit t, refl, fresh_on t)
