-- The exits of a walk: the drive is not mounted, an object has failed, memory ran out, or the walk has come to its end.
use Rattle.std.proofs.Common.{◌≡◌, ◌∙◌, ◌++◌, ℕ, Bool, false, List, [], Option, Some, None, unwrap_or, refl, sym, ap, subst, inl, inr}
use Rattle.std.specs.Prelude.{Contains}
use Rattle.edi_told.specs.Told.{WhereTold}
use Rattle.edi_calls.specs.declared.ends.Outside as failing
use Rattle.edi_calls.specs.declared.ends.Outside.TheVariants as object
use Rattle.edi_calls.specs.Choice.{Choices}
use Rattle.edi_calls.specs.Outcome as outcome
use Rattle.edi_calls.specs.Outcome.{Ending}
use Rattle.edi_calls.specs.State.{State, moments_of}
use Rattle.edi_execute.specs.Objects as execute
use Rattle.edi_execute.specs.Objects.{Contents}
use Rattle.edi_image.specs.Image.{mount_fault_of}
use Rattle.edi_image.specs.declared.faults.MountFault.{MountFault}
use Rattle.edi_image.specs.declared.faults.MountFault.TheVariants as mount
use Rattle.edi_system.specs.AsCalls.{LeavesByte}
use Rattle.edi_system.proofs.Told.{told_map}
use Rattle.edi_trace.specs.Drawn.{Drawn}
use Rattle.edi_unit.specs.Tree.{ProgramUnit}
use Rattle.edi_walk.specs.Ends.{WalkedTo, WalksTo}
use Rattle.edi_walk.specs.Walk.{WalkEnds}
use Rattle.edi_walk.specs.declared.walking.WalkEnd.{WalkEnd}
use Rattle.edi_walk.specs.declared.walking.WalkEnd.TheVariants as end
use Rattle.edi_runs.specs.walk.Leaves as leaves
use Rattle.edi_runs.specs.walk.Leaves.{BrokeAtCall, BrokeAtCallOf}
use Rattle.edi_runs.specs.walk.Walks.{IsCallOfWalk, IsMomentOfWalk, IsWalkEnding}
use Rattle.edi_runs.proofs.walk.Chained.{followed_among, walk_end_blocks, walk_moment_blocks}
use Rattle.edi_runs.proofs.walk.Left.{IsBrokenOff, StandsInWalk, stands_in_walk}
use Rattle.edi_texts.specs.Texts.{IsUnit}
use Rattle.edi_statuses.specs.declared.status.Status.{Status}
use Rattle.edi_statuses.specs.declared.status.Status.TheVariants as status
use Rattle.edi_statuses.specs.Counts.{Counts, HasCause}
use Rattle.edi_statuses.specs.EachObject.{MayBeImage}
use Rattle.edi_statuses.specs.Outside.{Outside, KernelLeft, Lent, blaming, idle, seen, system_on}
use Rattle.edi_statuses.specs.Executions.{FailedAt, StandsAt, object_status, status_of}
use Rattle.edi_statuses.specs.Walked.{BrokeWalk, FailedWalk, HasWalked, Walks}
use Rattle.edi_statuses.proofs.Told.{same_told, shows_nothing}
use Rattle.edi_main.specs.steps.NotMounted.{mount_status}
use Rattle.edi_main.specs.run.OnMounted.{DriveAsked, OnMounted}
use Rattle.edi_main.specs.run.OnWalked.{end_status, OnWalked, RanWalk, TextWalked}
use Rattle.edi_main.proofs.run.Asked.{asked_so, ended_asked}
use Rattle.edi_main.proofs.run.Kept.{not_there}
use Rattle.edi_main.proofs.run.Left.{at_state, devices, devices_told, told_by}
use Rattle.edi_main.proofs.run.Mounting.{IsLeft, IsUnmounted, left_due, left_each, left_shows, mounts, shown_in, unmounted_by, unmounted_each}

-- ---- ends

-- as outcomes tell them; a walk that was broken off has none
abbrev pub ending_of : WalkEnd → Ending
ending_of end.Done = outcome.done
ending_of (end.Halted line) = outcome.halted line
ending_of (end.Failed why line) = outcome.failed why line
ending_of end.Turns = outcome.turns
ending_of end.Fault = outcome.turns
ending_of end.NoMemory = outcome.turns

-- it is over: no object has failed, and memory was not wanting
abbrev IsOver : WalkEnd → Type 0
IsOver e = (e ≡ end.Fault → ⊥) × (e ≡ end.NoMemory → ⊥)

ends_so : (e : WalkEnd) → IsWalkEnding (ending_of e)
ends_so end.Done = tt
ends_so (end.Halted line) = tt
ends_so (end.Failed why line) = tt
ends_so end.Turns = tt
ends_so end.Fault = tt
ends_so end.NoMemory = tt

walked_to : (unit : ProgramUnit) (system : State) (bound : ℕ) (old : Drawn) (e : WalkEnd) (now : State) (new : Drawn) → IsOver e
    → WalksTo unit system bound old e now new → WalkedTo unit system bound old (ending_of e) now new
walked_to unit system bound old end.Done now new over h = h
walked_to unit system bound old (end.Halted line) now new over h = h
walked_to unit system bound old (end.Failed why line) now new over h = h
walked_to unit system bound old end.Turns now new over h = h
walked_to unit system bound old end.Fault now new over h = absurd (over.0 refl)
walked_to unit system bound old end.NoMemory now new over h = absurd (over.1 refl)

status_is : (e : WalkEnd) (s : Status) → IsOver e → Some s ≡ end_status e → s ≡ status_of (ending_of e)
status_is end.Done s over h = ap (λ x. unwrap_or x s) h
status_is (end.Halted line) s over h = ap (λ x. unwrap_or x s) h
status_is (end.Failed why line) s over h = ap (λ x. unwrap_or x s) h
status_is end.Turns s over h = ap (λ x. unwrap_or x s) h
status_is end.Fault s over h = absurd (over.0 refl)
status_is end.NoMemory s over h = absurd (over.1 refl)

-- ---- from the objects to the devices

module _ (unit : ProgramUnit) (bytes : List ℕ) (is : IsUnit bytes unit) (bound : ℕ) (old : Drawn) (none : old.drawn ≡ 0) (shown : List ℕ) where
  stands : (x y : Contents) → mount_fault_of y.disk ≡ None → y.shown ≡ x.shown ++ shown → StandsInWalk unit bound old x y
      → StandsAt (IsMomentOfWalk bytes (system_on (devices x)) bound old.source) (devices x) (devices y) shown
  stands x y valid shows h = record {
    moment = h.moment;
    comes = record {
      unit = unit;
      unit_is = is;
      ending = h.ending;
      end = h.last;
      turns = h.turns;
      drawn = h.drawn;
      order = h.order;
      walk = subst (λ n. WalkEnds unit (execute.system_on x) bound old.source n h.ending h.last h.turns h.drawn h.order) none h.is;
      moment_is = h.among;
    };
    at = at_state shown h.moment x y valid shows
        (walk_moment_blocks unit (execute.system_on x) bound old.source old.drawn h.ending h.last h.turns h.drawn h.order h.is h.moment h.among) h.shows;
  }

  fails_at : (failed : failing.Outside) (blamed : Option failing.Outside) → blamed ≡ Some failed → (x y : Contents) → mount_fault_of y.disk ≡ None
      → y.shown ≡ x.shown ++ shown → BrokeAtCall failed unit bound old x y
      → FailedAt (object_status failed) blamed (IsCallOfWalk bytes (system_on (devices x)) bound old.source) (devices x) (devices y) shown
  fails_at failed blamed named x y valid shows h =
      let among = followed_among (execute.system_on x) h.last.past h.one h.next h.followed in
      let same : (s : State) → Contains (moments_of (execute.system_on x) h.last.past) s → s.blocks ≡ (execute.system_on x).blocks =
      walk_moment_blocks unit (execute.system_on x) bound old.source old.drawn h.ending h.last h.turns h.drawn h.order h.is in
      record {
        failed = failed;
        blamed_is = named;
        status_is = refl;
        before = h.one;
        next = h.next;
        calls = record {
          unit = unit;
          unit_is = is;
          ending = h.ending;
          end = h.last;
          turns = h.turns;
          drawn = h.drawn;
          order = h.order;
          walk = subst (λ n. WalkEnds unit (execute.system_on x) bound old.source n h.ending h.last h.turns h.drawn h.order) none h.is;
          followed = h.followed;
        };
        asks = h.asks;
        left = λ is. subst (λ o. LeavesByte o h.one.input) is h.left;
        at = elim h.shows [
          | inl first ↦ inl (at_state shown h.one x y valid shows (same h.one among.0) first)
          | inr then_ ↦ inr (then_.0, at_state shown h.next x y valid shows (same h.next among.1) then_.1)
        ];
      }

  has_walked : (e : WalkEnd) (new : Drawn) (x y : Contents) → IsOver e → mount_fault_of y.disk ≡ None → y.shown ≡ x.shown ++ shown
      → leaves.HasWalked unit bound old e new x y → HasWalked bytes bound old.source (ending_of e) (devices x) (devices y) shown
  has_walked e new x y over valid shows h =
      let w = walked_to unit (execute.system_on x) bound old e h.state new over h.walks in
      record {
        last = h.state;
        walk = record {
          unit = unit;
          unit_is = is;
          end = w.last;
          turns = w.turns;
          drawn = new.drawn;
          order = w.order;
          walk = subst (λ n. WalkEnds unit (execute.system_on x) bound old.source n (ending_of e) w.last w.turns new.drawn w.order) none w.is;
          last_is = w.system_is;
        };
        leaves = at_state shown h.state x y valid shows
            (ap (λ (s : State). s.blocks) (sym w.system_is)
            ∙ walk_end_blocks unit (execute.system_on x) bound old.source old.drawn (ending_of e) w.last w.turns new.drawn w.order w.is) h.shows;
      }

-- ---- the drive is not mounted

unmounted_walked : (failed whole broken : Type 0) (comes comes' : Status → Type 0) (before after : Outside) (shown : List ℕ) (kernel : Lent) (why : MountFault)
    → OnMounted None failed whole comes (mount_status why) before after shown kernel
    → OnWalked broken failed comes' (mount_status why) before after shown kernel
unmounted_walked failed whole broken comes comes' before after shown kernel mount.Fault h = elim h.1 [
  | inl none ↦ inl (h.0, none)
  | inr far ↦ inr far
]
unmounted_walked failed whole broken comes comes' before after shown kernel mount.NoMemory (inl h) = inl h
unmounted_walked failed whole broken comes comes' before after shown kernel mount.NoMemory (inr h) = absurd (not_there None refl h.0)
unmounted_walked failed whole broken comes comes' before after shown kernel mount.Short h = h
unmounted_walked failed whole broken comes comes' before after shown kernel mount.Header h = h
unmounted_walked failed whole broken comes comes' before after shown kernel (mount.Entry slot) h = h
unmounted_walked failed whole broken comes comes' before after shown kernel (mount.Page slot block) h = h
unmounted_walked failed whole broken comes comes' before after shown kernel (mount.Shared block) h = h

module _ (unit : ProgramUnit) (bound : ℕ) (before after : Outside) (kernel : KernelLeft)
    (blamed : Option failing.Outside) where
  pub not_mounted : (choices : Choices) (s : Status) (due : Bool) (why : MountFault) → s ≡ mount_status why → due ≡ false
      → IsUnmounted before after (blaming blamed (idle kernel)) why → RanWalk unit bound choices s due before after (blaming blamed (idle kernel))
  not_mounted choices s due why is silent h = record {
    shown = [];
    ran = λ bytes whose.
        let x : Outside = seen before after in
        let broken : Type 0 = BrokeWalk bytes bound choices x after [] (blaming blamed (idle kernel)) in
        let failed : Type 0 = FailedWalk (mount_status why) bytes bound choices x after [] (blaming blamed (idle kernel)) in
        let comes : Status → Type 0 = λ end. Walks bytes bound choices end x after [] (blaming blamed (idle kernel)) in
        subst (λ t. TextWalked bytes bound choices t x after [] (blaming blamed (idle kernel))) (sym is)
        (unmounted_walked failed failed broken comes comes x after [] (blaming blamed (idle kernel)) why
        (unmounted_by before after (blaming blamed (idle kernel)) why h None failed failed comes));
    shows = shows_nothing before.shown after.shown h.shown;
    due_is = silent;
    each = unmounted_each before after (blaming blamed (idle kernel)) why h;
  }

  -- ---- it was mounted

  module _ (old : Drawn) (none : old.drawn ≡ 0) (due : Bool) (left : IsLeft due before after) (files : after.files ≡ before.files) where
    abbrev shown_now : List ℕ
    shown_now = shown_in due before after

    ran_so : (s : Status) → ((bytes : List ℕ) → IsUnit bytes unit → TextWalked bytes bound old.source s (seen before after) after shown_now (blaming blamed (idle kernel)))
        → RanWalk unit bound old.source s due before after (blaming blamed (idle kernel))
    ran_so s so = record {
      shown = shown_now;
      ran = so;
      shows = left_shows due before after left;
      due_is = left_due due before after left;
      each = left_each due before after left;
    }

    broke : WhereTold (told_by before) (told_by after) (StandsInWalk unit bound old) → (bytes : List ℕ) → IsUnit bytes unit
        → BrokeWalk bytes bound old.source (seen before after) after shown_now (blaming blamed (idle kernel))
    broke told bytes is = record {
      at = devices_told before after shown_now (StandsInWalk unit bound old)
          (λ d e. StandsAt (IsMomentOfWalk bytes (system_on d) bound old.source) d e shown_now) left.told.valid (left_shows due before after left)
          (stands unit bytes is bound old none shown_now) told;
      files = same_told before.files after.files files;
      kernel_same = refl;
    }

    failed_at : (failed : failing.Outside) → blamed ≡ Some failed → WhereTold (told_by before) (told_by after) (BrokeAtCall failed unit bound old) → (bytes : List ℕ) → IsUnit bytes unit
        → FailedWalk (object_status failed) bytes bound old.source (seen before after) after shown_now (blaming blamed (idle kernel))
    failed_at failed named told bytes is = record {
      at = devices_told before after shown_now (BrokeAtCall failed unit bound old)
          (λ d e. FailedAt (object_status failed) blamed (IsCallOfWalk bytes (system_on d) bound old.source) d e shown_now) left.told.valid
          (left_shows due before after left) (fails_at unit bytes is bound old none shown_now failed blamed named) told;
      files = same_told before.files after.files files;
      kernel_same = refl;
    }

    failed_by : (failed : failing.Outside) (bytes : List ℕ)
        → FailedWalk (object_status failed) bytes bound old.source (seen before after) after shown_now (blaming blamed (idle kernel))
        → TextWalked bytes bound old.source (object_status failed) (seen before after) after shown_now (blaming blamed (idle kernel))
    failed_by object.Drive bytes h = inr (mounts due before after left, h)
    failed_by object.Input bytes h = (mounts due before after left, h)
    failed_by object.Terminal bytes h = (mounts due before after left, h)
    failed_by object.Printer bytes h = (mounts due before after left, h)

    stood : (e : WalkEnd) (new : Drawn) → IsBrokenOff e → WhereTold (told_by before) (told_by after) (leaves.HasWalked unit bound old e new)
        → WhereTold (told_by before) (told_by after) (StandsInWalk unit bound old)
    stood e new off told =
        told_map (leaves.HasWalked unit bound old e new) (StandsInWalk unit bound old) (told_by before) (told_by after)
        (λ x y h. stands_in_walk unit bound old e new x y off h) told

    -- an object has failed
    pub failed_so : (s : Status) (failed : failing.Outside) (which : Option failing.Outside) → blamed ≡ Some failed
        → s ≡ object_status failed → which ≡ Some failed
        → WhereTold (told_by before) (told_by after) (BrokeAtCallOf which unit bound old) → RanWalk unit bound old.source s due before after (blaming blamed (idle kernel))
    failed_so s failed which named is there told =
        let broke_there : WhereTold (told_by before) (told_by after) (BrokeAtCall failed unit bound old) =
        subst (λ w. WhereTold (told_by before) (told_by after) (BrokeAtCallOf w unit bound old)) there told in
        ran_so s (λ bytes whose. subst (λ t. TextWalked bytes bound old.source t (seen before after) after shown_now (blaming blamed (idle kernel))) (sym is)
        (failed_by failed bytes (failed_at failed named broke_there bytes whose)))

    -- memory ran out
    wants_so : (s : Status) → s ≡ status.NoMemory → WhereTold (told_by before) (told_by after) (StandsInWalk unit bound old)
        → RanWalk unit bound old.source s due before after (blaming blamed (idle kernel))
    wants_so s is told =
        ran_so s (λ bytes whose. subst (λ t. TextWalked bytes bound old.source t (seen before after) after shown_now (blaming blamed (idle kernel))) (sym is)
        (inr (mounts due before after left, broke told bytes whose)))

    -- it has come to its end
    ended_by : (bytes : List ℕ) (e : Ending) → Walks bytes bound old.source (status_of e) (seen before after) after shown_now (blaming blamed (idle kernel))
        → TextWalked bytes bound old.source (status_of e) (seen before after) after shown_now (blaming blamed (idle kernel))
    ended_by bytes outcome.done h = (mounts due before after left, h)
    ended_by bytes (outcome.halted line) h = (mounts due before after left, h)
    ended_by bytes (outcome.failed why line) h = (mounts due before after left, h)
    ended_by bytes outcome.turns h = (mounts due before after left, h)
    ended_by bytes outcome.standstill h = (mounts due before after left, h)
    ended_by bytes (outcome.bad address) h = (mounts due before after left, h)

    module _ (new : Drawn) where
      walks : (e : WalkEnd) → IsOver e → WhereTold (told_by before) (told_by after) (leaves.HasWalked unit bound old e new) → (bytes : List ℕ)
          → IsUnit bytes unit → Walks bytes bound old.source (status_of (ending_of e)) (seen before after) after shown_now (blaming blamed (idle kernel))
      walks e over told bytes is = record {
        ending = ending_of e;
        ends = ends_so e;
        status_is = refl;
        walked = devices_told before after shown_now (leaves.HasWalked unit bound old e new)
            (λ d x. HasWalked bytes bound old.source (ending_of e) d x shown_now) left.told.valid (left_shows due before after left)
            (λ x y valid shows h. has_walked unit bytes is bound old none shown_now e new x y over valid shows h) told;
        files = same_told before.files after.files files;
        kernel_same = refl;
      }

      over_so : (e : WalkEnd) (s : Status) → IsOver e → Some s ≡ end_status e
          → WhereTold (told_by before) (told_by after) (leaves.HasWalked unit bound old e new) → RanWalk unit bound old.source s due before after (blaming blamed (idle kernel))
      over_so e s over is told =
          ran_so s (λ bytes whose. subst (λ t. TextWalked bytes bound old.source t (seen before after) after shown_now (blaming blamed (idle kernel)))
          (sym (status_is e s over is)) (ended_by bytes (ending_of e) (walks e over told bytes whose)))

      pub walked_so : (e : WalkEnd) (s : Status) → (e ≡ end.Fault → ⊥) → Some s ≡ end_status e
          → WhereTold (told_by before) (told_by after) (leaves.HasWalked unit bound old e new)
          → RanWalk unit bound old.source s due before after (blaming blamed (idle kernel))
      walked_so end.NoMemory s unfailed is told = wants_so s (ap (λ x. unwrap_or x s) is) (stood end.NoMemory new (inr refl) told)
      walked_so end.Fault s unfailed is told = absurd (unfailed refl)
      walked_so end.Done s unfailed is told = over_so end.Done s ((λ e. cc), (λ e. cc)) is told
      walked_so (end.Halted line) s unfailed is told = over_so (end.Halted line) s ((λ e. cc), (λ e. cc)) is told
      walked_so (end.Failed why line) s unfailed is told = over_so (end.Failed why line) s ((λ e. cc), (λ e. cc)) is told
      walked_so end.Turns s unfailed is told = over_so end.Turns s ((λ e. cc), (λ e. cc)) is told

-- ---- the statuses

-- a walk that has come to its end is by no fault
pub ended_no_fault : (e : WalkEnd) (s : Status) (had has : Counts) → Some s ≡ end_status e → HasCause s had has
ended_no_fault end.NoMemory s had has is = subst (λ x. HasCause x had has) (sym (ap (λ x. unwrap_or x s) is)) tt
ended_no_fault end.Fault s had has is = absurd (cc)
ended_no_fault end.Done s had has is = subst (λ x. HasCause x had has) (sym (ap (λ x. unwrap_or x s) is)) tt
ended_no_fault (end.Halted line) s had has is = subst (λ x. HasCause x had has) (sym (ap (λ x. unwrap_or x s) is)) tt
ended_no_fault (end.Failed why line) s had has is = subst (λ x. HasCause x had has) (sym (ap (λ x. unwrap_or x s) is)) tt
ended_no_fault end.Turns s had has is = subst (λ x. HasCause x had has) (sym (ap (λ x. unwrap_or x s) is)) tt

pub ended_walk_asked : (count : ℕ) → MayBeImage count → (e : WalkEnd) (s : Status) → Some s ≡ end_status e → DriveAsked s count
ended_walk_asked count image end.NoMemory s is =
    asked_so status.NoMemory s count (ap (λ x. unwrap_or x s) is) (record { behind_steps = refl; fits = tt })
ended_walk_asked count image end.Fault s is = absurd (cc)
ended_walk_asked count image end.Done s is = asked_so _ s count (ap (λ x. unwrap_or x s) is) (ended_asked count image outcome.done)
ended_walk_asked count image (end.Halted line) s is =
    asked_so _ s count (ap (λ x. unwrap_or x s) is) (ended_asked count image (outcome.halted line))
ended_walk_asked count image (end.Failed why line) s is =
    asked_so _ s count (ap (λ x. unwrap_or x s) is) (ended_asked count image (outcome.failed why line))
ended_walk_asked count image end.Turns s is = asked_so _ s count (ap (λ x. unwrap_or x s) is) (ended_asked count image outcome.turns)

-- another number that is the same
pub with_bound : (n m : ℕ) → n ≡ m → (unit : ProgramUnit) (choices : Choices) (s : Status) (due : Bool) (before after : Outside) (kernel : Lent)
    → RanWalk unit n choices s due before after kernel → RanWalk unit m choices s due before after kernel
with_bound n m same unit choices s due before after kernel = subst (λ k. RanWalk unit k choices s due before after kernel) same
