-- What a session leaves, in the words of commands.
use Rattle.std.proofs.Common.{◌≡◌, ◌∙◌, ◌++◌, ℕ, List, length, Option, Some, None, true, false, sym, subst, ap}
use Rattle.edi_calls.specs.declared.ends.Outside as failing
use Rattle.edi_calls.specs.declared.ends.Outside.TheVariants as object
use Rattle.edi_calls.specs.State.{State}
use Rattle.edi_execute.specs.Objects.{Contents}
use Rattle.edi_execute.specs.Objects as execute
use Rattle.edi_image.specs.Image.{mount_fault_of}
use Rattle.edi_session.specs.declared.end.SessionEnd.{SessionEnd}
use Rattle.edi_session.specs.declared.end.SessionEnd.TheVariants as end
use Rattle.edi_session.specs.Shell.{session_on, state_in}
use Rattle.edi_shell.specs.sessions.Ends.{ends_by_fault, SessionHasEnded, SessionHasFailed}
use Rattle.edi_shell.proofs.sessions.Failing.{ended_so, failed_so}
use Rattle.edi_shell_io.specs.calls.Standing.{failed_by}
use Rattle.edi_trace.specs.Drawn.{Drawn}
use Rattle.edi_statuses.specs.declared.status.Status.{Status}
use Rattle.edi_statuses.specs.Counts.{object_status}
use Rattle.edi_statuses.specs.Outside.{DevicesAreAt}
use Rattle.edi_statuses.specs.Sessions.{FailedSession, HasEnded, session_status}
use Rattle.edi_main.proofs.run.Left.{devices}
use Rattle.edi_main.specs.boot.OnObjects.{EndsOn, HaveState, HaveStateBy, HaveStateSince}
use Rattle.edi_main.proofs.boot.Blocks.{end_of_session, moment_of_session}

-- the status of a session that ended by a fault is that of the object which has failed
fault_status : (how : SessionEnd) (failed : failing.Outside) → failed_by how ≡ Some failed → object_status failed ≡ session_status how
fault_status end.Halted failed is = absurd (cc)
fault_status end.InputEnd failed is = absurd (cc)
fault_status end.Limit failed is = absurd (cc)
fault_status end.DriveFault failed is = let same : object.Drive ≡ failed = cc in ap object_status (sym same)
fault_status end.InputFault failed is = let same : object.Input ≡ failed = cc in ap object_status (sym same)
fault_status end.TerminalFault failed is = let same : object.Terminal ≡ failed = cc in ap object_status (sym same)
fault_status end.PrinterFault failed is = let same : object.Printer ≡ failed = cc in ap object_status (sym same)

module _ (bound : ℕ) (old : Drawn) (none : old.drawn ≡ 0) (drawn : ℕ) (shown : List ℕ) (x y : Contents) (valid : mount_fault_of y.disk ≡ None)
    (shows : y.shown ≡ x.shown ++ shown) where
  -- they have what this state has
  at_state : (state : State) → HaveState y state → state.blocks ≡ length x.disk → DevicesAreAt state (devices x) (devices y) shown
  at_state state h as_many = record {
    input = h.input;
    shown_ = sym shows ∙ h.shown;
    printed = h.printed;
    disk = record { valid = valid; files = h.slots };
    count = h.blocks ∙ as_many;
  }

  ended : (how : SessionEnd)
      → SessionHasEnded bound old.source HaveStateSince (HaveStateBy how) (session_on (execute.system_on x) old.drawn (length x.shown)) how drawn y
      → HasEnded bound old.source how drawn (devices x) (devices y) shown
  ended how h0 =
      let h = subst (λ n. SessionHasEnded bound old.source HaveStateSince (HaveStateBy how) (session_on (execute.system_on x) n (length x.shown)) how drawn y) none h0 in
      record {
        after = h.after;
        session = h.session;
        draws = h.drawn_is;
        leaves = at_state (state_in h.after) h.at_ (end_of_session bound old.source (execute.system_on x) 0 (length x.shown) how h.after h.session);
      }

  failed : (how : SessionEnd)
      → SessionHasFailed bound old.source HaveStateSince (HaveStateBy how) (session_on (execute.system_on x) old.drawn (length x.shown)) y
      → FailedSession (session_status how) (failed_by how) bound old.source (devices x) (devices y) shown
  failed how h0 =
      let h = subst (λ n. SessionHasFailed bound old.source HaveStateSince (HaveStateBy how) (session_on (execute.system_on x) n (length x.shown)) y) none h0 in
      record {
        failed = h.failed;
        blamed_is = h.is.0;
        status_is = fault_status how h.failed h.is.0;
        moment = h.moment;
        comes = h.comes;
        at = at_state h.moment h.is.1
            (moment_of_session bound old.source (execute.system_on x) 0 (length x.shown) h.failed h.moment h.comes);
      }

  -- it came to its end
  pub ended_to : (how : SessionEnd) → ends_by_fault how ≡ false → EndsOn bound old how drawn x y
      → HasEnded bound old.source how drawn (devices x) (devices y) shown
  ended_to how f h =
      ended how (ended_so (ends_by_fault how)
      (SessionHasEnded bound old.source HaveStateSince (HaveStateBy how) (session_on (execute.system_on x) old.drawn (length x.shown)) how drawn y)
      (SessionHasFailed bound old.source HaveStateSince (HaveStateBy how) (session_on (execute.system_on x) old.drawn (length x.shown)) y) f h)

  -- an object failed
  pub broken_at : (how : SessionEnd) → ends_by_fault how ≡ true → EndsOn bound old how drawn x y
      → FailedSession (session_status how) (failed_by how) bound old.source (devices x) (devices y) shown
  broken_at how f h =
      failed how (failed_so (ends_by_fault how)
      (SessionHasEnded bound old.source HaveStateSince (HaveStateBy how) (session_on (execute.system_on x) old.drawn (length x.shown)) how drawn y)
      (SessionHasFailed bound old.source HaveStateSince (HaveStateBy how) (session_on (execute.system_on x) old.drawn (length x.shown)) y) f h)
