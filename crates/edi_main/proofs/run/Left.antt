-- What a run of the kernel leaves, in the words of commands.
use Rattle.std.proofs.Common.{◌≡◌, ◌∙◌, ◌++◌, ℕ, List, Option, Some, None, IfSome, inl, inr, refl, sym, ap, subst}
use Rattle.edi_told.specs.Told.{WhereTold}
use Rattle.edi_calls.specs.declared.ends.Outside as failing
use Rattle.edi_calls.specs.Asked.{IsFollowed}
use Rattle.edi_calls.specs.Choice.{Choices}
use Rattle.edi_calls.specs.Outcome as outcome
use Rattle.edi_calls.specs.Outcome.{Outcome, outcome_of}
use Rattle.edi_calls.specs.State.{State}
use Rattle.edi_execute.specs.Objects as execute
use Rattle.edi_execute.specs.Objects.{Contents, Show, StandsAtCall, contents_with}
use Rattle.edi_image.specs.Image.{mount_fault_of}
use Rattle.edi_kernel.specs.declared.ends.Ending.{Ending}
use Rattle.edi_kernel.specs.declared.ends.Ending.TheVariants as ending
use Rattle.edi_kernel.specs.Kernel.{EndsAs, KeepsWords}
use Rattle.edi_kernel.specs.Runs.{EndsAfter, RunsAs, RunsTo}
use Rattle.edi_kernel.proofs.Machines.{runs_are_the_machines}
use Rattle.edi_system.specs.AsCalls.{LeavesByte}
use Rattle.edi_system.specs.Parts.{IsValid}
use Rattle.edi_system.specs.State.{all_told}
use Rattle.edi_target.specs.Check.{CodeParts}
use Rattle.edi_target.specs.Fetch.{fetch}
use Rattle.edi_target.specs.Moments.{history_from_start}
use Rattle.edi_texts.specs.Run.{IsCallOfCode, IsRunOfCode}
use Rattle.edi_texts.proofs.Executions.{runs_are_never_bad}
use Rattle.edi_trace.specs.Drawn.{Drawn}
use Rattle.edi_statuses.specs.Outside.{Outside, Devices, devices_of, devices_with, seen, still_told, system_on, DevicesAreAt, Shows, kernel_of}
use Rattle.edi_main.proofs.run.Blocks.{call_blocks, end_blocks}
use Rattle.edi_statuses.specs.Executions.{Runnable, text, code, FailedAt, HasCall, HasCode, HasOutcome, HasRun, NeverBad, StoreIs, object_status}

-- ---- what the four objects tell

abbrev pub devices : Contents → Devices
devices c = devices_with c.disk c.input c.shown c.printed

-- all that the four tell
abbrev pub told_by : Outside → Option Contents
told_by o = all_told contents_with o.blocks o.input o.shown o.printed

abbrev devices_by : Option (List (List ℕ)) → (input shown printed : Option (List ℕ)) → Option Devices
devices_by blocks input shown printed =
    devices_of (record { files = None; blocks = blocks; input = input; shown = shown; printed = printed })

-- What is told of them before and behind is told of the devices; the drive is valid, and these bytes were shown.
pub devices_told : (before after : Outside) (shown : List ℕ) (P : Contents → Contents → Type 0) (Q : Devices → Devices → Type 0) → IsValid after.blocks
    → Shows before after shown → ((x y : Contents) → mount_fault_of y.disk ≡ None → y.shown ≡ x.shown ++ shown → P x y → Q (devices x) (devices y))
    → WhereTold (told_by before) (told_by after) P → WhereTold (devices_of (seen before after)) (devices_of after) Q
devices_told before after shown P Q valid shows so told =
    go before.blocks after.blocks before.input after.input before.shown after.shown before.printed after.printed valid shows told
  where
    go : (a a' : Option (List (List ℕ))) (b b' c c' e e' : Option (List ℕ)) → IfSome a' (λ blocks. mount_fault_of blocks ≡ None)
        → WhereTold c c' (λ old new. new ≡ old ++ shown) → WhereTold (all_told contents_with a b c e) (all_told contents_with a' b' c' e') P
        → WhereTold (devices_by (still_told a a') (still_told b b') (still_told c c') (still_told e e')) (devices_by a' b' c' e') Q
    go a None b b' c c' e e' v s t = tt
    go a (Some x') b None c c' e e' v s t = tt
    go a (Some x') b (Some y') c None e e' v s t = tt
    go a (Some x') b (Some y') c (Some z') e None v s t = tt
    go None (Some x') b (Some y') c (Some z') e (Some w') v s t = absurd t
    go (Some x) (Some x') None (Some y') c (Some z') e (Some w') v s t = absurd t
    go (Some x) (Some x') (Some y) (Some y') None (Some z') e (Some w') v s t = absurd t
    go (Some x) (Some x') (Some y) (Some y') (Some z) (Some z') None (Some w') v s t = absurd t
    go (Some x) (Some x') (Some y) (Some y') (Some z) (Some z') (Some w) (Some w') v s t =
        so (contents_with x y z w) (contents_with x' y' z' w') v s t

-- ---- endings

-- as outcomes tell them; after a fault there is none
abbrev pub ending_of : Ending → outcome.Ending
ending_of ending.Done = outcome.done
ending_of (ending.Halted line) = outcome.halted line
ending_of (ending.Failed why line) = outcome.failed why line
ending_of ending.Turns = outcome.turns
ending_of ending.Standstill = outcome.standstill
ending_of (ending.Bad address) = outcome.bad address
ending_of ending.Fault = outcome.standstill

same_ending : (end : outcome.Ending) (e : Ending) → EndsAs end e → end ≡ ending_of e
same_ending outcome.done ending.Done h = refl
same_ending outcome.done _ h = absurd h
same_ending (outcome.halted line) (ending.Halted at) h = ap outcome.halted (sym h)
same_ending (outcome.halted line) _ h = absurd h
same_ending (outcome.failed why line) (ending.Failed cause at) h = ap (λ c. outcome.failed c line) (sym h.0) ∙ ap (outcome.failed cause) (sym h.1)
same_ending (outcome.failed why line) _ h = absurd h
same_ending outcome.turns ending.Turns h = refl
same_ending outcome.turns _ h = absurd h
same_ending outcome.standstill ending.Standstill h = refl
same_ending outcome.standstill _ h = absurd h
same_ending (outcome.bad address) (ending.Bad at) h = ap outcome.bad (sym h)
same_ending (outcome.bad address) _ h = absurd h

store_is : (e : Ending) (memory words : List ℕ) → KeepsWords e memory words → StoreIs (ending_of e) memory words
store_is ending.Done memory words h = sym h
store_is (ending.Halted line) memory words h = sym h
store_is (ending.Failed why line) memory words h = sym h
store_is ending.Turns memory words h = tt
store_is ending.Standstill memory words h = tt
store_is (ending.Bad address) memory words h = tt
store_is ending.Fault memory words h = tt

-- no object has failed
abbrev pub IsNoFault : Ending → Type 0
IsNoFault e = e ≡ ending.Fault → ⊥

runs_as : (parts : CodeParts) (system : State) (bound : ℕ) (old : Drawn) (e : Ending) (words : List ℕ) (used : ℕ) (now : State) (new : Drawn) → IsNoFault e
    → RunsTo parts system bound old e words used now new → RunsAs parts system bound old e words used now new
runs_as parts system bound old ending.Fault words used now new unfailed h = absurd (unfailed refl)
runs_as parts system bound old other words used now new unfailed h = h

-- ---- programs with this code

has_outcome : (program : Runnable) (parts : CodeParts) (system : State) (bound : ℕ) (choices : Choices) (o : Outcome) → HasCode program parts
    → IsRunOfCode parts system bound choices o → HasOutcome program system bound choices o
has_outcome (text bytes) parts system bound choices o is run = (is.same system bound choices o).0 run
has_outcome (code own) parts system bound choices o is run = subst (λ p. IsRunOfCode p system bound choices o) is run

has_call : (program : Runnable) (parts : CodeParts) (system : State) (bound : ℕ) (choices : Choices) (before next : State) → HasCode program parts
    → IsCallOfCode parts system bound choices before next → HasCall program system bound choices before next
has_call (text bytes) parts system bound choices before next is calls = (is.calls system bound choices before next).0 calls
has_call (code own) parts system bound choices before next is calls = subst (λ p. IsCallOfCode p system bound choices before next) is calls

never_bad : (program : Runnable) (system : State) (bound : ℕ) (choices : Choices) (o : Outcome) → HasOutcome program system bound choices o
    → NeverBad program o.ending
never_bad (text bytes) system bound choices o run = runs_are_never_bad bytes system bound choices o run
never_bad (code own) system bound choices o run = tt

-- what is shown of a state with as many blocks as before
pub at_state : (shown : List ℕ) (state : State) (x y : Contents) → mount_fault_of y.disk ≡ None → y.shown ≡ x.shown ++ shown
    → state.blocks ≡ (execute.system_on x).blocks → Show state y → DevicesAreAt state (devices x) (devices y) shown
at_state shown state x y valid shows blocks h = record {
  input = h.input;
  shown_ = sym shows ∙ h.shown;
  printed = h.printed;
  disk = record { valid = valid; files = h.slots };
  count = h.blocks ∙ blocks;
}

module _ (program : Runnable) (parts : CodeParts) (is : HasCode program parts) (bound : ℕ) (old : Drawn) (none : old.drawn ≡ 0) (shown : List ℕ) where
  -- a run that has come to its ending
  pub has_run : (e : Ending) (words : List ℕ) (used : ℕ) (new : Drawn) (x y : Contents) → IsNoFault e → mount_fault_of y.disk ≡ None
      → y.shown ≡ x.shown ++ shown → execute.HasRun parts bound old e words used new x y
      → HasRun program bound old.source (ending_of e) new.drawn (devices x) (devices y) shown (kernel_of words used)
  has_run e words used new x y unfailed valid shows h =
      let r = runs_as parts (execute.system_on x) bound old e words used h.state new unfailed h.runs in
      let o : Outcome = outcome_of h.state r.end used new.drawn in
      let same = same_ending r.end e r.same in
      let run : HasOutcome program (system_on (devices x)) bound old.source o =
      has_outcome program parts (system_on (devices x)) bound old.source o is
      (runs_are_the_machines parts (execute.system_on x) bound old new e words used h.state none r) in
      record {
        outcome_ = o;
        outcome_is = run;
        ending_is = same;
        never_bad = subst (NeverBad program) same (never_bad program (system_on (devices x)) bound old.source o run);
        draws = refl;
        leaves = at_state shown h.state x y valid shows
            (ap (λ (s : State). s.blocks) (sym r.system_is)
            ∙ end_blocks (fetch parts.words) parts.entry parts.calls (execute.system_on x) bound old.source old.drawn r.is.0 r.end r.machine new.drawn r.is.1)
            h.shows;
        kernel_is = record {
          parts = parts;
          parts_are = is;
          machine = r.machine;
          ends = subst (λ n. EndsAfter parts (execute.system_on x) bound old.source n r.end r.machine new.drawn) none r.is;
          turns = refl;
          store = subst (λ end. StoreIs end r.machine.memory words) (sym same) (store_is e r.machine.memory words r.memory);
        };
      }

  -- a run in which an object has failed
  pub stands : (failed : failing.Outside) (blamed : Option failing.Outside) → blamed ≡ Some failed → (x y : Contents) → mount_fault_of y.disk ≡ None
      → y.shown ≡ x.shown ++ shown → StandsAtCall parts bound old failed x y
      → FailedAt (object_status failed) blamed (HasCall program (system_on (devices x)) bound old.source) (devices x) (devices y) shown
  stands failed blamed named x y valid shows h =
      let both = call_blocks (fetch parts.words) parts.entry parts.calls (execute.system_on x) bound old.source old.drawn h.calls.0 h.from h.next h.calls.1 in
      record {
        failed = failed;
        blamed_is = named;
        status_is = refl;
        before = h.from;
        next = h.next;
        calls = has_call program parts (system_on (devices x)) bound old.source h.from h.next is (
          h.calls.0,
          subst (λ n. IsFollowed (execute.system_on x) (history_from_start (fetch parts.words) parts.entry parts.calls (execute.system_on x) bound old.source n
              h.calls.0) h.from h.next) none h.calls.1,
        );
        asks = h.asks;
        left = λ is. subst (λ o. LeavesByte o h.from.input) is h.left;
        at = elim h.shows [
          | inl first ↦ inl (at_state shown h.from x y valid shows both.0 first)
          | inr then_ ↦ inr (then_.0, at_state shown h.next x y valid shows both.1 then_.1)
        ];
      }
