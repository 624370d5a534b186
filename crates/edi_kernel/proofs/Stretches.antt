-- Stretches of instructions.
use Rattle.std.proofs.Common.{◌≡◌, ℕ, zero, suc, ◌+◌, ◌-◌, ◌*◌, ◌<◌, ◌≤◌, inl, inr, Bool, false, List, length, Option}
use Rattle.std.proofs.Common.{Some, None, refl, sym, ap, subst, ◌∙◌, arith}
use Rattle.edi_told.specs.Told.{WhereTold}
use Rattle.edi_told.proofs.Told.{WhereTold-then}
use Rattle.edi_calls.specs.declared.ends.Outside.{Outside}
use Rattle.edi_calls.specs.State.{State}
use Rattle.edi_target.specs.Fetch.{fetch}
use Rattle.edi_target.specs.Effect.{Turn, entering, leaving, looping, arriving, again, forking, exiting, finishing}
use Rattle.edi_target.specs.Mach.{Running, Answer, on, behind, turned, over, local_step}
use Rattle.edi_calls.specs.declared.kinds.Cause.TheVariants as cause
use Rattle.edi_machine.specs.declared.activity.Activity.{Activity}
use Rattle.edi_machine.specs.declared.ends.TurnKind.{TurnKind}
use Rattle.edi_machine.specs.declared.ends.TurnKind.TheVariants as kind
use Rattle.edi_machine.specs.declared.ends.StepEnd.{StepEnd}
use Rattle.edi_machine.specs.declared.ends.StepEnd.TheVariants as end
use Rattle.edi_kernel.specs.declared.ends.Ending.TheVariants as ending
use Rattle.edi_kernel.specs.declared.stretch.Pause.{Pause}
use Rattle.edi_kernel.specs.declared.stretch.Pause.TheVariants as pause
use Rattle.edi_kernel.specs.declared.stretch.Progress.{Progress}
use Rattle.edi_kernel.specs.Stretch.{Paused, pausing, after_turn, after_answer, walk_turn, walk_on, walked, stretch, OneStep, Reaches, Stretches, Falls}
use Rattle.edi_calls.specs.Ends.{CallsLast}
use Rattle.edi_kernel.specs.Stretch.{Spends, at_start, cleared_in, left_after, pause_by, pause_of, pause_with, running_in}
use Rattle.edi_kernel.proofs.Phases.{begins}

-- an activity that goes on is after the step where the stretch goes on from
walks_on : (c e : Bool) (answer : Answer) (now : Running) → ((more : Running → Bool → Paused) → after_answer more c answer ≡ more now e) →
    (more : Running → Bool → Option (Running × Bool)) → walk_on more c answer ≡ more now e
walks_on c e answer now h more = by_answer answer (h (pausing entering))
  where
    same : {r s : Running} {b d : Bool} → pausing entering r b ≡ pausing entering s d → more r b ≡ more s d
    same f = cc

    by_turn : (turn : Turn) (r : Running) → after_turn (pausing entering) c turn r ≡ pausing entering now e → walk_turn more turn r ≡ more now e
    by_turn entering r f = same f
    by_turn leaving r f = same f
    by_turn looping r f = same f
    by_turn arriving r f = absurd (cc)
    by_turn (again marks) r f = absurd (cc)
    by_turn (forking branches) r f = absurd (cc)
    by_turn exiting r f = absurd (cc)
    by_turn finishing r f = absurd (cc)

    by_answer : (answer : Answer) → after_answer (pausing entering) c answer ≡ pausing entering now e → walk_on more c answer ≡ more now e
    by_answer (on r) f = same f
    by_answer (behind r) f = same f
    by_answer (turned turn r) f = by_turn turn r f
    by_answer (over ending r) f = absurd (cc)

module _ (words : List ℕ) (live : ℕ) (is_first : Bool) where
  pub reaches_itself : (r : Running) (c : Bool) → Reaches words live is_first r c r c
  reaches_itself r c = record { ends = λ n x e. (n, e); gets = λ n x e. (n, e) }

  pub told_itself : (s : Option State) (r : State → Running) (c : Bool) → WhereTold s s (λ s t. Reaches words live is_first (r s) c (r t) c)
  told_itself None r c = tt
  told_itself (Some s) r c = reaches_itself (r s) c

  pub one_more : (was r now : Running) (c d e : Bool) → Reaches words live is_first was c r d → OneStep words live is_first r d None now e
      → Reaches words live is_first was c now e
  one_more was r now c d e h k = record {
    ends = λ n x f. h.ends (suc n) x (k (stretch (fetch words) live is_first n) ∙ f);
    gets = λ n x f. h.gets (suc n) x (walks_on d e (local_step (fetch words) live is_first r) now k (walked (fetch words) live is_first n) ∙ f);
  }

  -- the last instruction ends the stretch
  pub last : (pause : Pause) (was r now : Running) (c d e : Bool) → Reaches words live is_first was c r d → OneStep words live is_first r d (Some pause) now e
      → Stretches words live is_first was c pause now e
  last (pause.Over ending.Fault) was r now c d e h k = let m = h.gets 0 (Some (r, d)) refl in
      record { steps = m.0; at = r; emptied = d; reached = m.1; torn = k }
  last (pause.Over ending.Done) was r now c d e h k = let m = h.ends 1 k.0 (k.1 (stretch (fetch words) live is_first 0)) in
      record { steps = m.0; end = k.0; is = m.1; pauses = k.2 }
  last (pause.Over (ending.Halted line)) was r now c d e h k = let m = h.ends 1 k.0 (k.1 (stretch (fetch words) live is_first 0)) in
      record { steps = m.0; end = k.0; is = m.1; pauses = k.2 }
  last (pause.Over (ending.Failed cause line)) was r now c d e h k = let m = h.ends 1 k.0 (k.1 (stretch (fetch words) live is_first 0)) in
      record { steps = m.0; end = k.0; is = m.1; pauses = k.2 }
  last (pause.Over ending.Turns) was r now c d e h k = let m = h.ends 1 k.0 (k.1 (stretch (fetch words) live is_first 0)) in
      record { steps = m.0; end = k.0; is = m.1; pauses = k.2 }
  last (pause.Over ending.Standstill) was r now c d e h k = let m = h.ends 1 k.0 (k.1 (stretch (fetch words) live is_first 0)) in
      record { steps = m.0; end = k.0; is = m.1; pauses = k.2 }
  last (pause.Over (ending.Bad at)) was r now c d e h k = let m = h.ends 1 k.0 (k.1 (stretch (fetch words) live is_first 0)) in
      record { steps = m.0; end = k.0; is = m.1; pauses = k.2 }
  last (pause.At kind) was r now c d e h k = let m = h.ends 1 k.0 (k.1 (stretch (fetch words) live is_first 0)) in
      record { steps = m.0; end = k.0; is = m.1; pauses = k.2 }

  module _ (was r now : State → Running) (c d e : Bool) (old between new : Option State) where
    pub told_more : WhereTold old between (λ s t. Reaches words live is_first (was s) c (r t) d)
        → WhereTold between new (λ s t. OneStep words live is_first (r s) d None (now t) e) →
        WhereTold old new (λ s t. Reaches words live is_first (was s) c (now t) e)
    told_more h k = WhereTold-then _ (λ s t. OneStep words live is_first (r s) d None (now t) e) (λ s t. Reaches words live is_first (was s) c (now t) e) old
        between new (λ x y z a b. one_more (was x) (r y) (now z) c d e a b) h k

    pub told_last : (pause : Pause) → WhereTold old between (λ s t. Reaches words live is_first (was s) c (r t) d)
        → WhereTold between new (λ s t. OneStep words live is_first (r s) d (Some pause) (now t) e) →
        WhereTold old new (λ s t. Stretches words live is_first (was s) c pause (now t) e)
    told_last pause h k = WhereTold-then _ (λ s t. OneStep words live is_first (r s) d (Some pause) (now t) e)
        (λ s t. Stretches words live is_first (was s) c pause (now t) e) old between new (λ x y z a b. last pause (was x) (r y) (now z) c d e a b) h k

-- the stretch of an activity that has done nothing yet
pub stretches_begun : (words store : List ℕ) (live live' : ℕ) (first : Bool) (p : Progress) (a : Activity) (old new : Option State) (pause : Pause)
    (now : State → Running) (c : Bool) → live ≡ live' → p ≡ at_start a p.left →
    WhereTold old new (λ s t. Stretches words live first (running_in store p.activity s p.left) (cleared_in p) pause (now t) c)
    → WhereTold old new (λ s t. Stretches words live' first (running_in store a s p.left) false pause (now t) c)
stretches_begun words store live live' first p a old new pause now c e begun h =
    let b : Activity = p.activity in
    let same : b ≡ a = ap (λ (q : Progress). q.activity) begun in
    let none : cleared_in p ≡ false = ap cleared_in begun ∙ begins a.held in
    subst (λ x. WhereTold old new (λ s t. Stretches words live' first (running_in store x s p.left) false pause (now t) c)) same
    (subst (λ n. WhereTold old new (λ s t. Stretches words n first (running_in store b s p.left) false pause (now t) c)) e
    (subst (λ x. WhereTold old new (λ s t. Stretches words live first (running_in store b s p.left) x pause (now t) c)) none h))

-- calls that come after calls
pub lasts_on : {C R : Type 0} (faults : C → Outside → ℕ) (references : C → R) (leads : C → C → Type 0) (a b c : C) → CallsLast faults references leads a b
    → CallsLast faults references leads b c → CallsLast faults references leads a c
lasts_on faults references leads a b c h k =
    (λ outside. omega (arith, h.0 outside, k.0 outside), k.1 ∙ h.1, λ start led. k.2 start (h.2 start led))

-- the measure falls
pub measure_falls : (words : List ℕ) (left pc new_left new_pc : ℕ) → Falls None words left pc new_left new_pc →
    new_left * (length words + 1) + (length words - new_pc) < left * (length words + 1) + (length words - pc)
measure_falls words left pc new_left new_pc (inl h) = turn (length words) left new_left pc new_pc h
  where
    turn : (long left new_left pc new_pc : ℕ) → new_left < left → new_left * (long + 1) + (long - new_pc) < left * (long + 1) + (long - pc)
    turn long left new_left pc new_pc h = more long (left - (new_left + 1)) left new_left pc new_pc (omega arith)
      where
        more : (long k left new_left pc new_pc : ℕ) → left ≡ new_left + 1 + k → new_left * (long + 1) + (long - new_pc) < left * (long + 1) + (long - pc)
        more long k left new_left pc new_pc e = rw e (omega arith)
measure_falls words left pc new_left new_pc (inr h) = rw h.0 (omega (arith, h.1, h.2))

-- ---- turns that are spent

spends_by : (k : TurnKind) (n : ℕ) → Spends (pause_by k) (suc n) (suc n - 1)
spends_by kind.Enter n = tt
spends_by kind.End n = tt
spends_by kind.Loop n = tt
spends_by kind.ProgramEnd n = tt
spends_by kind.Arrive n = omega arith
spends_by (kind.Again q) n = omega arith
spends_by (kind.Fork at) n = omega arith
spends_by kind.Exit n = omega arith

spends_with : (n : ℕ) (k : TurnKind) → Spends (pause_with n k) n (n - 1)
spends_with zero k = tt
spends_with (suc n) k = spends_by k n

spends_of : (end : StepEnd) (left : ℕ) → Spends (pause_of end left) left (left_after end left)
spends_of end.On left = tt
spends_of (end.Turn k) left = spends_with left k
spends_of (end.Fail cause.Halt line) left = tt
spends_of (end.Fail c line) left = tt
spends_of (end.Bad at) left = tt
spends_of end.Fault left = tt

pub spends_are : (end : StepEnd) (left n : ℕ) (result : Option Pause) → result ≡ pause_of end left → n ≡ left_after end left → Spends result left n
spends_are end left n result e f = subst (λ r. Spends r left n) (sym e) (subst (λ m. Spends (pause_of end left) left m) (sym f) (spends_of end left))

-- turns that are spent later are spent
pub spends_less : (pause : Pause) (left mid new : ℕ) → Spends (Some pause) mid new → mid ≤ left → Spends (Some pause) left new
spends_less (pause.At kind) left mid new h le = omega (arith, h, le)
spends_less (pause.Over e) left mid new h le = tt
