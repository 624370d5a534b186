-- An execution on a system, told by the shells of the definition.
use Rattle.std.proofs.Common.{◌≡◌, ℕ, true, false, List, [], ◌∷◌, ◌++◌, Option, Some, None, refl, sym, ap, subst, ◌∙◌, inl, inr}
use Rattle.std.specs.Prelude.{◌↔◌, IsSome}
use Rattle.edi_told.specs.Told.{WhereTold}
use Rattle.edi_calls.specs.Laws.{IsSameOutside}
use Rattle.edi_calls.specs.Outcome as outcome
use Rattle.edi_calls.specs.State.{State, fresh, moments_of}
use Rattle.edi_calls.specs.declared.ends.Outside.{Outside}
use Rattle.edi_calls.specs.Asked.{IsFollowed}
use Rattle.edi_execute.specs.Execution.{is_fault_ending, IsAtCall}
use Rattle.edi_execute.proofs.Executing.{byte_before}
use Rattle.edi_kernel.specs.Passed.{past_at, IsFailedCall}
use Rattle.edi_kernel.specs.Runs as kernel
use Rattle.edi_kernel.specs.Runs.{RunsAs}
use Rattle.edi_kernel.specs.declared.ends.Ending.{Ending}
use Rattle.edi_kernel.specs.declared.ends.Ending.TheVariants as ending
use Rattle.edi_system.specs.AsCalls.{KeepsDue}
use Rattle.edi_system.specs.State.{failed_in}
use Rattle.edi_system.specs.declared.system.System.{System}
use Rattle.edi_target.proofs.Histories.{every_run_ends_through}
use Rattle.edi_target.specs.Check.{CodeParts}
use Rattle.edi_target.specs.Fetch.{fetch}
use Rattle.edi_target.specs.Mach.{Machine}
use Rattle.edi_target.specs.Moments.{EndsThrough, history_from_start}
use Rattle.edi_trace.specs.Drawn.{Drawn}
use Rattle.edi_session.specs.Course.{IsFollowedBy, states_of}
use Rattle.edi_session.proofs.Faults.{followed_before, followed_on}
use Rattle.edi_session.specs.Session.{behind}
use Rattle.edi_session.specs.Shell.{Shell, state_in}
use Rattle.edi_shell_io.specs.calls.Standing.{At, RunBreaks, RunsTo}
use Rattle.edi_shell_io.proofs.calls.Failing.{at_call, followed_in_whole, in_moments}
use Rattle.edi_shell_io.proofs.calls.Told.{at, pair, stands, stands_at, stands_in, told, due}

-- where no object has failed, the ending is none of a fault
pub no_fault : (failed : Option Outside) (e : Ending) → IsSome failed ↔ (e ≡ ending.Fault) → failed ≡ None → is_fault_ending e ≡ false
no_fault failed ending.Fault same none = absurd (let some : IsSome failed = same.1 refl in let wrong : IsSome {T = Outside} None = subst IsSome none some in
    let so : false ≡ true = wrong in cc)
no_fault failed _ same none = refl

as_run : (code : CodeParts) (system : State) (bound : ℕ) (old : Drawn) (e : Ending) (words : List ℕ) (used : ℕ) (now : State) (new : Drawn) → is_fault_ending e ≡ false
    → kernel.RunsTo code system bound old e words used now new → RunsAs code system bound old e words used now new
as_run code system bound old ending.Fault words used now new fine r = absurd (cc)
as_run code system bound old _ words used now new fine r = r

same_outside : (moment now : State) → IsSameOutside moment now → fresh now ≡ fresh moment
same_outside moment now same = go moment.input now.input moment.shown now.shown moment.printed now.printed same.input same.shown same.printed where
  go : (i i' s s' p p' : List ℕ) → i' ≡ i → s' ≡ s → p' ≡ p → fresh now ≡ fresh moment
  go i i' s s' p p' ei es ep =
      ap (λ x. record (fresh now) { input = x }) same.input ∙ ap (λ x. record (fresh now) { input = moment.input; shown = x }) same.shown
      ∙ ap (λ x. record (fresh now) { input = moment.input; shown = moment.shown; printed = x }) same.printed
      ∙ ap (λ x. record (fresh now) { input = moment.input; shown = moment.shown; printed = moment.printed; slots = x }) same.slots
      ∙ ap (λ x. record (fresh moment) { blocks = x }) same.blocks

module _ {D S T P : Type 0} (contents : D → Option (List (List ℕ))) (left : S → Option (List ℕ)) (shown : T → Option (List ℕ)) (printed : P → Option (List ℕ))
    (old new : System D S T P) (s : Shell) (at_old : At (at contents left shown printed) old s) (tells : IsSome (told contents left shown printed new))
    (keeps : KeepsDue shown old new) (code : CodeParts) (bound : ℕ) (before after : Drawn) (so_many : s.drawn ≡ before.drawn) where
  -- the state with no file open is that of the shell
  moved : (x : State) (end : outcome.Ending) (machine : Machine) (past : List State) → fresh x ≡ fresh (state_in s)
      → EndsThrough (fetch code.words) code.entry code.calls (fresh x) bound before.source before.drawn end machine after.drawn past
      → EndsThrough (fetch code.words) code.entry code.calls (fresh (state_in s)) bound before.source s.drawn end machine after.drawn past
  moved x end machine past alike ends =
      subst (λ d. EndsThrough (fetch code.words) code.entry code.calls (fresh (state_in s)) bound before.source d end machine after.drawn past) (sym so_many)
      (subst (λ z. EndsThrough (fetch code.words) code.entry code.calls z bound before.source before.drawn end machine after.drawn past) alike ends)

  pub runs_to : (e : Ending) (words : List ℕ) (used : ℕ) → is_fault_ending e ≡ false
      → WhereTold (told contents left shown printed old) (told contents left shown printed new)
      (λ x y. kernel.RunsTo code (fresh x) bound before e words used y after)
      → RunsTo (at contents left shown printed) (stands contents left shown printed) code bound before.source e after.drawn s new
  runs_to e words used fine so =
      let p = pair contents left shown printed old new s at_old tells keeps (λ x y. kernel.RunsTo code (fresh x) bound before e words used y after) so in
      let r = as_run code (fresh p.before) bound before e words used p.after after fine p.so in
      let past : List State = history_from_start (fetch code.words) code.entry code.calls (fresh p.before) bound before.source before.drawn r.is.0 in
      record {
        ending_ = r.end;
        same = r.same;
        after = behind r.machine.system past after.drawn s;
        runs = record { machine = r.machine; past = past; ends = moved p.before r.end r.machine past p.alike (r.is.0, r.is.1, refl); is = refl };
        at_ = stands_at contents left shown printed new (behind r.machine.system past after.drawn s) p.after s.shown_before p.is
            (ap fresh (sym r.system_is)) (due contents left shown printed old new s at_old tells keeps) refl;
      }

  call_moved : (x now : State) (outside : Outside) (n : ℕ) → fresh x ≡ fresh (state_in s)
      → IsFailedCall outside (fresh x) (past_at code (fresh x) bound before.source before.drawn n) now
      → IsFailedCall outside (fresh (state_in s)) (past_at code (fresh (state_in s)) bound before.source s.drawn n) now
  call_moved x now outside n alike h =
      subst (λ d. IsFailedCall outside (fresh (state_in s)) (past_at code (fresh (state_in s)) bound before.source d n) now) (sym so_many)
      (subst (λ z. IsFailedCall outside z (past_at code z bound before.source before.drawn n) now) alike h)

  -- the two states of a call follow one another in the course of the whole run
  in_course : (past : List State) (after : State) (drawn : ℕ) (one next : State) → IsFollowed (fresh (state_in s)) past one next
      → IsFollowedBy (states_of (behind after past drawn s).system) one next
  in_course past after drawn one next h =
      followed_on (after ∷ []) (moments_of (fresh (state_in s)) past ++ states_of s.system) one next
      (followed_before (moments_of (fresh (state_in s)) past) (states_of s.system) one next (in_moments (fresh (state_in s)) past one next h))

  -- This object has failed in a call of the run.
  pub run_breaks : (outside : Outside) → failed_in new ≡ Some outside
      → WhereTold (told contents left shown printed old) (told contents left shown printed new) (λ x y. IsAtCall code (fresh x) bound before outside y)
      → RunBreaks (at contents left shown printed) (stands contents left shown printed) code bound before.source s new
  run_breaks outside blamed so =
      let p = pair contents left shown printed old new s at_old tells keeps (λ x y. IsAtCall code (fresh x) bound before outside y) so in
      let whole = every_run_ends_through code.words code.entry code.calls (fresh (state_in s)) bound before.source s.drawn in
      let past : List State = whole.3 in
      let failing = call_moved p.before p.after outside p.so.0.0 p.alike p.so.0.1 in
      let after_all : Shell = behind whole.1.system past whole.2 s in
      let follows = in_course past whole.1.system whole.2 failing.before failing.next
      (followed_in_whole (fetch code.words) code.entry code.calls (fresh (state_in s)) bound before.source s.drawn whole.0 whole.1 whole.2 past
      failing.before failing.next p.so.0.0 whole.4 failing.follows) in
      let byte_left = byte_before outside failing.before failing.next p.after failing.at p.so.1 in
      let both = at_call outside (states_of after_all.system) failing.before failing.next follows failing.asks byte_left in
      record {
        ending_ = whole.0;
        drawn = whole.2;
        after = after_all;
        runs = record { machine = whole.1; past = past; ends = whole.4; is = refl };
        in_ = elim failing.at [
          | inl same ↦ stands_in contents left shown printed new after_all p.after failing.before outside p.is
              (same_outside failing.before p.after same) blamed both.0
          | inr same ↦ stands_in contents left shown printed new after_all p.after failing.next outside p.is
              (same_outside failing.next p.after same.1) blamed (both.1 same.0)
        ];
      }
