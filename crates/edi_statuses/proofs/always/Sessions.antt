-- On a drive that is a valid image a session comes to an end, and there are devices after it.
use Rattle.std.proofs.Common.{◌≡◌, ◌<◌, ◌≤◌, ℕ, zero, suc, ◌*◌, List, ◌++◌, Some, None, refl, sym, subst, inl, inr, arith}
use Rattle.std.specs.Prelude.{◌⊎◌, IfSome}
use Rattle.edi_host.specs.Contents.{Contents}
use Rattle.edi_calls.specs.Choice.{Choices}
use Rattle.edi_calls.specs.State.{State, fresh}
use Rattle.edi_image.specs.Image.{mount_fault_of}
use Rattle.edi_session.specs.declared.end.SessionEnd.{SessionEnd}
use Rattle.edi_session.specs.Session.{AfterLine, ComesTo, Goes, Session, goes, stops}
use Rattle.edi_session.specs.Shell.{Shell, limit, state_in}
use Rattle.edi_session.proofs.ends.Advancing.{lines_are_few}
use Rattle.edi_words.specs.Words as words
use Rattle.edi_words.specs.Words.{ChoicesFrom, Options}
use Rattle.edi_statuses.specs.Outside.{Outside, Devices, KernelLeft, system_on, with_kept}
use Rattle.edi_statuses.specs.Steps.{goes as on, ◌>>=◌}
use Rattle.edi_statuses.specs.Executions.{record_of}
use Rattle.edi_statuses.specs.Sessions.{BootSteps, HoldsSession, session_status, shell_on}
use Rattle.edi_statuses.specs.Decided.{IsDecisive}
use Rattle.edi_statuses.specs.Always.{HasBlocks, MayCome, MayEnd, told_outside}
use Rattle.edi_statuses.proofs.always.Steps.{boot_some}
use Rattle.edi_statuses.proofs.always.Ends.{does_some, of_table}
use Rattle.edi_statuses.proofs.always.Executions.{HasGone, count_at, devices_at, gone_first, grows_at, shown_by_then, shrinks_at}
use Rattle.edi_statuses.proofs.always.Lines.{ComesOn, IsFine, Stands, next_of}
use Rattle.edi_statuses.proofs.always.Programs.{mounts_then}

module _ (first : State) (bound : ℕ) (choices : Choices) where
  -- a session from this shell on, and where it stands then
  record HasEnd (s : Shell) : Type 0 where
    end : SessionEnd
    after : Shell
    session : Session bound choices s end after
    stands : Stands first after
    decisive : IsDecisive (session_status end)

  -- so many lines on, if there is no end before
  abbrev EndsOrGoes : ℕ → Shell → Type 0
  EndsOrGoes n s = HasEnd s ⊎ ((after : Shell) × ComesTo bound choices n s after × Stands first after)

  one_more : (n : ℕ) (s t : Shell) → Goes bound choices s (goes t) → EndsOrGoes n t → EndsOrGoes (suc n) s
  one_more n s t row (inl e) = inl (record {
    end = e.end;
    after = e.after;
    session = record { lines_ = suc e.session.lines_; last = e.session.last; comes = (t, row, e.session.comes); stops_ = e.session.stops_ };
    stands = e.stands;
    decisive = e.decisive;
  })
  one_more n s t row (inr far) = inr (far.0, (t, row, far.1), far.2)

  by_next : (n : ℕ) → ((t : Shell) → Stands first t → EndsOrGoes n t) → (s : Shell) → ComesOn first (Goes bound choices s) → EndsOrGoes (suc n) s
  by_next n more s (stops end after, row, fine) = inl (record {
    end = end;
    after = after;
    session = record { lines_ = 0; last = s; comes = refl; stops_ = row };
    stands = fine.0;
    decisive = fine.1;
  })
  by_next n more s (goes t, row, fine) = one_more n s t row (more t fine)

  walk : (n : ℕ) (s : Shell) → Stands first s → EndsOrGoes n s
  walk zero s h = inr (s, refl, h)
  walk (suc n) s h = by_next n (λ t k. walk n t k) s (next_of first bound choices s h)

  -- a session has no more lines than bytes may be taken
  ends_within : (n : ℕ) (s : Shell) → limit < n → EndsOrGoes n s → HasEnd s
  ends_within n s many (inl e) = e
  ends_within n s many (inr far) = absurd (let few : n ≤ limit = lines_are_few bound choices n s far.0 far.1 in omega (arith, many, few))

  ends_by : (n : ℕ) (s : Shell) → limit < n → Stands first s → HasEnd s
  ends_by n s many h = ends_within n s many (walk n s h)

module _ (files : Contents) (d : Devices) (kernel : KernelLeft) (sized : HasBlocks d) (o : Options) where
  session_of : (choices : Choices) → mount_fault_of d.blocks ≡ None → HasEnd (fresh (system_on d)) o.turns choices (shell_on d)
  session_of choices valid =
      ends_by (fresh (system_on d)) o.turns choices 4194305 (shell_on d) (omega arith) (record { gone = gone_first d sized valid; idle = (refl, refl) })

  holds_some : (choices : Choices) → HasEnd (fresh (system_on d)) o.turns choices (shell_on d)
      → MayCome (words.boot o) (λ s b a shown k. HoldsSession o.turns choices o.record_file s b a shown) files d kernel
  holds_some choices e =
      let last : State = state_in e.after in
      let bytes = shown_by_then d last e.stands.gone in
      record {
        answer = session_status e.end;
        decisive = e.decisive;
        files_after = with_kept (record_of o.record_file choices 0) files;
        devices_after = devices_at d last e.stands.gone (d.shown ++ bytes);
        sized = λ h. e.stands.gone.image.image.sized;
        shown = bytes;
        left = kernel;
        comes = record {
          how = e.end;
          drawn = 0;
          within = omega arith;
          status_is = refl;
          ended = record {
            after = e.after;
            session = e.session;
            draws = e.stands.idle.1;
            leaves = record {
              input = refl;
              shown_ = sym e.stands.gone.goes.shown.1;
              printed = refl;
              disk = e.stands.gone.image.image.holds;
              count = count_at d last e.stands.gone;
            };
          };
          keeps = refl;
        };
        shows = refl;
        each = record {
          drive = λ f before. e.stands.gone.image.image.holds.valid;
          input = shrinks_at d last e.stands.gone;
          printer = grows_at d last e.stands.gone;
        };
      }

  boot_then : (from : ChoicesFrom) (choices : Choices) → BootSteps (told_outside files d) from (on choices) → mount_fault_of d.blocks ≡ None
  boot_then from choices (inl never) = absurd never
  boot_then from choices (inr h) = (mounts_then (told_outside files d) h.0 choices h.2).0

  pub boot_may : MayEnd (words.boot o) files d kernel
  boot_may =
      of_table (words.boot o) files d kernel _
      (does_some (words.boot o) files d kernel (BootSteps (told_outside files d) o.choices)
      (λ choices s b a shown k. HoldsSession o.turns choices o.record_file s b a shown) (boot_some files d o.choices)
      (λ choices went. holds_some choices (session_of choices (boot_then o.choices choices went)))) (λ s after shown k h. h)
