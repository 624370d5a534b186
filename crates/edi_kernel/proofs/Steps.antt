-- One instruction of the code, and one of the definition.
use Rattle.std.proofs.Common.{◌≡◌, ℕ, zero, suc, ◌+◌, ◌-◌, ◌<◌, ◌≤◌, inl, inr, Bool, true, false, ◌||◌, List, length, Option, Some, None, refl, sym, subst}
use Rattle.std.proofs.Common.{ap, ◌∙◌, arith}
use Rattle.std.specs.Prelude.{⊤}
use Rattle.edi_told.specs.Told.{WhereTold}
use Rattle.edi_calls.specs.declared.kinds.Cause.{Cause}
use Rattle.edi_calls.specs.declared.kinds.Cause.TheVariants as cause
use Rattle.edi_calls.specs.declared.ends.Outside.{Outside}
use Rattle.edi_calls.specs.State.{State}
use Rattle.edi_calls.specs.Calls.{CallResult, answered, call}
use Rattle.edi_calls.specs.Outcome as outcome
use Rattle.edi_target.specs.Op.{Instruction}
use Rattle.edi_target.specs.Effect.{Local, Turn, entering, leaving, looping, arriving, again, forking, exiting, finishing, Effect, goes, released, asks, due}
use Rattle.edi_target.specs.Effect.{fails, bad}
use Rattle.edi_target.specs.Fetch.{fetch}
use Rattle.edi_target.specs.Mach.{Running, answer_at, called, turn_from, settled, effect_at}
use Rattle.edi_target.specs.Perform.{perform}
use Rattle.edi_target.specs.Laws.{MovesUp}
use Rattle.edi_target.proofs.Progress.{each_moves_up}
use Rattle.edi_target.proofs.Stands.{code_stands_below}
use Rattle.edi_machine.specs.declared.ends.TurnKind.{TurnKind}
use Rattle.edi_machine.specs.declared.ends.TurnKind.TheVariants as kind
use Rattle.edi_machine.specs.declared.ends.StepEnd.{StepEnd}
use Rattle.edi_machine.specs.declared.ends.StepEnd.TheVariants as end
use Rattle.edi_machine.specs.Starts.{IsFork, branches_at}
use Rattle.edi_machine.specs.Steps.{Takes, Gives, Tears, Forks, UsesFailed, kind_of, effect_of, ends_phase, is_released}
use Rattle.edi_machine.specs.Steps as steps
use Rattle.edi_kernel.specs.declared.ends.Ending.TheVariants as ending
use Rattle.edi_kernel.specs.declared.stretch.Pause.{Pause}
use Rattle.edi_kernel.specs.declared.stretch.Pause.TheVariants as pause
use Rattle.edi_kernel.specs.Stretch.{Paused, pausing, stopping, after_answer, failure_of, pause_by, pause_with, pause_of, left_after, goes_on, clears_after}
use Rattle.edi_kernel.specs.Stretch.{StepsFrom, OneStep, Allows, AsksFailed, Falls}
use Rattle.edi_kernel.proofs.Effects.{Fits, every_effect_fits}
use Rattle.edi_kernel.proofs.Phases.{or_false, or_true}

abbrev is_asks : Effect → Bool
is_asks (asks number arguments address line l) = true
is_asks effect = false

module _ (words : List ℕ) (live : ℕ) (is_first : Bool) (before after : Local) (s t : State) (left : ℕ) (cleared : Bool) where
  abbrev was : Running
  was = record { local = before; system = s; turns = left }

  abbrev now : ℕ → Running
  now n = record { local = after; system = t; turns = n }

  -- what the code leaves, where it ended so
  abbrev Made : Effect → StepEnd → Type 0
  Made effect end =
      StepsFrom words live is_first was cleared (settled effect was) (pause_of end left) (now (left_after end left))
      (cleared || clears_after end before.held after.held)

  same_now : (l : Local) (n m : ℕ) → after ≡ l → t ≡ s → n ≡ m → record was { local = l; turns = n } ≡ now m
  same_now l n m e f g = cc

  more_same : (l : Local) (n m : ℕ) (c d : Bool) → after ≡ l → t ≡ s → n ≡ m → c ≡ d → (more : Running → Bool → Paused)
      → more (record was { local = l; turns = n }) c ≡ more (now m) d
  more_same l n m c d e f k g more = ap (λ r. more r c) (same_now l n m e f k) ∙ ap (more (now m)) g

  -- the end of a critical phase is told
  kept : (b : Bool) → b ≡ false → cleared ≡ (cleared || b)
  kept b e = or_false cleared ∙ ap (λ b. cleared || b) (sym e)

  emptied : (b : Bool) → b ≡ true → true ≡ (cleared || b)
  emptied b e = or_true cleared ∙ ap (λ b. cleared || b) (sym e)

  by_turn : (n : ℕ) (turn : Turn) (l : Local) → after ≡ l → t ≡ s → Forks (due turn l) words before.pc →
      StepsFrom words live is_first was cleared (turn_from (suc n) turn l was) (pause_by (kind_of before.pc turn)) (now (suc n - 1))
      (cleared || goes_on (kind_of before.pc turn))
  by_turn n entering l e f k = more_same l n (suc n - 1) true (cleared || true) e f (omega arith) (or_true cleared)
  by_turn n leaving l e f k = more_same l n (suc n - 1) true (cleared || true) e f (omega arith) (or_true cleared)
  by_turn n looping l e f k = more_same l n (suc n - 1) true (cleared || true) e f (omega arith) (or_true cleared)
  by_turn n arriving l e f k = (
    pausing arriving (record was { local = l; turns = n }) cleared,
    λ more. refl,
    (tt, sym (same_now l n (suc n - 1) e f (omega arith)), tt),
  )
  by_turn n (again marks) l e f k = (
    pausing (again marks) (record was { local = l; turns = n }) cleared,
    λ more. refl,
    (refl, sym (same_now l n (suc n - 1) e f (omega arith)), sym (or_false cleared)),
  )
  by_turn n (forking branches) l e f k = (
    pausing (forking branches) (record was { local = l; turns = n }) cleared,
    λ more. refl,
    (k.here, sym (same_now l n (suc n - 1) e f (omega arith)), sym (or_false cleared)),
  )
  by_turn n exiting l e f k = (
    pausing exiting (record was { local = l; turns = n }) cleared,
    λ more. refl,
    (tt, sym (same_now l n (suc n - 1) e f (omega arith)), sym (or_false cleared)),
  )
  by_turn n finishing l e f k = (
    pausing finishing (record was { local = l; turns = n }) cleared,
    λ more. refl,
    sym (same_now l n (suc n - 1) e f (omega arith)),
  )

  by_left : (n : ℕ) (turn : Turn) (l : Local) → n ≡ left → after ≡ l → t ≡ s → effect_of words live is_first before ≡ due turn l
      → Forks (due turn l) words before.pc →
      StepsFrom words live is_first was cleared (turn_from n turn l was) (pause_with n (kind_of before.pc turn)) (now (n - 1))
      (cleared || goes_on (kind_of before.pc turn))
  by_left zero turn l g e f d k = (stopping outcome.turns was cleared, λ more. refl, (omega (arith, g), f, (turn, d ∙ ap (due turn) (sym e))))
  by_left (suc n) turn l g e f d k = by_turn n turn l e f k

  stopped : t ≡ s → after ≡ before → now left ≡ was
  stopped f e = cc

  by_failure : (c : Cause) (line : ℕ) → now left ≡ was →
      StepsFrom words live is_first was cleared (settled (fails c line) was) (Some (pause.Over (failure_of c line))) (now left) (cleared || false)
  by_failure cause.Halt line e = (stopping (outcome.halted line) was cleared, λ more. refl, (refl, e))
  by_failure cause.Range line e = (stopping (outcome.failed cause.Range line) was cleared, λ more. refl, (refl, refl, e))
  by_failure cause.VariableLimit line e = (stopping (outcome.failed cause.VariableLimit line) was cleared, λ more. refl, (refl, refl, e))
  by_failure cause.ProcessLimit line e = (stopping (outcome.failed cause.ProcessLimit line) was cleared, λ more. refl, (refl, refl, e))
  by_failure cause.Held line e = (stopping (outcome.failed cause.Held line) was cleared, λ more. refl, (refl, refl, e))
  by_failure cause.NoFile line e = (stopping (outcome.failed cause.NoFile line) was cleared, λ more. refl, (refl, refl, e))
  by_failure cause.FileLimit line e = (stopping (outcome.failed cause.FileLimit line) was cleared, λ more. refl, (refl, refl, e))

  -- a call that was answered
  answered_on : (result : CallResult) (address : Option ℕ) (line : ℕ) (l : Local) (answer : List ℕ) (b : Bool) → result ≡ answered answer t
      → after ≡ answer_at address answer l → b ≡ false →
      (more : Running → Bool → Paused) → after_answer more cleared (called result address line l was) ≡ more (now left) (cleared || b)
  answered_on result address line l answer b e f g more =
      ap (λ r. after_answer more cleared (called r address line l was)) e
      ∙ ap (λ x. more (record was { local = x; system = t }) cleared) (sym f) ∙ ap (more (now left)) (kept b g)

  refused : (result : CallResult) (c : Cause) (address : Option ℕ) (line : ℕ) (l : Local) → called result address line l was ≡ settled (fails c line) was
      → now left ≡ was →
      StepsFrom words live is_first was cleared (called result address line l was) (Some (pause.Over (failure_of c line))) (now left) (cleared || false)
  refused result c address line l e f = subst
      (λ a. StepsFrom words live is_first was cleared a (Some (pause.Over (failure_of c line))) (now left) (cleared || false)) (sym e) (by_failure c line f)

  made : (effect : Effect) (end : StepEnd) → effect_of words live is_first before ≡ effect → Takes effect end before after (Some s) (Some t)
      → (is_asks effect ≡ false → t ≡ s) →
      ends_phase end before after ≡ is_released effect → Forks effect words before.pc → Made effect end
  made (goes l) end.On e h st ph fk = more_same l left left cleared _ h (st refl) refl (kept _ ph)
  made (goes l) end e h st ph fk = absurd h
  made (released l) end.On e h st ph fk = more_same l left left true _ h (st refl) refl (emptied _ ph)
  made (released l) end e h st ph fk = absurd h
  made (asks number arguments address line l) end.On e h st ph fk = answered_on (call number arguments s) address line l h.0 _ h.3 h.2 ph
  made (asks number arguments address line l) (end.Fail cause.NoFile at) e h st ph fk =
      subst (λ a. StepsFrom words live is_first was cleared (called (call number arguments s) address line l was)
      (Some (pause.Over (ending.Failed cause.NoFile a))) (now left) (cleared || false)) (sym h.0)
      (refused (call number arguments s) cause.NoFile address line l (ap (λ r. called r address line l was) h.2.0) (stopped h.2.1 h.1))
  made (asks number arguments address line l) (end.Fail cause.FileLimit at) e h st ph fk =
      subst (λ a. StepsFrom words live is_first was cleared (called (call number arguments s) address line l was)
      (Some (pause.Over (ending.Failed cause.FileLimit a))) (now left) (cleared || false)) (sym h.0)
      (refused (call number arguments s) cause.FileLimit address line l (ap (λ r. called r address line l was) h.2.0) (stopped h.2.1 h.1))
  made (asks number arguments address line l) end.Fault e h st ph fk =
      record { number = number; arguments = arguments; address = address; line = line; next = l; effect = e; tears = h.1; turns = refl; same = h.0 }
  made (asks number arguments address line l) end e h st ph fk = absurd h
  made (due turn l) (end.Turn k) e h st ph fk =
      subst (λ x. StepsFrom words live is_first was cleared (turn_from left turn l was) (pause_with left x) (now (left - 1)) (cleared || goes_on x)) (sym h.0)
      (by_left left turn l refl h.1 (st refl) e fk)
  made (due turn l) end e h st ph fk = absurd h
  made (fails c line) (end.Fail d at) e h st ph fk =
      subst (λ x. StepsFrom words live is_first was cleared (settled (fails c line) was) (Some (pause.Over (failure_of x at))) (now left) (cleared || false))
      (sym h.0)
      (subst (λ a. StepsFrom words live is_first was cleared (settled (fails c line) was) (Some (pause.Over (failure_of c a))) (now left) (cleared || false))
      (sym h.1)
      (by_failure c line (stopped (st refl) h.2)))
  made (fails c line) end e h st ph fk = absurd h
  made bad (end.Bad at) e h st ph fk = (stopping (outcome.bad before.pc) was cleared, λ more. refl, (h.0, stopped (st refl) h.1))
  made bad end e h st ph fk = absurd h

-- only a system call changes the system
kept_state : {X : Type 0} (state : X → Option State) (x y : X) (effect : Effect) → steps.Keeps effect x y → is_asks effect ≡ false → state y ≡ state x
kept_state state x y (goes l) k e = ap state k
kept_state state x y (released l) k e = ap state k
kept_state state x y (asks number arguments address line l) k e = absurd (cc)
kept_state state x y (due turn l) k e = ap state k
kept_state state x y (fails c line) k e = ap state k
kept_state state x y bad k e = ap state k

some_state : {s t : State} → Some t ≡ Some s → t ≡ s
some_state e = cc

-- where it is told at the end it was told before
untold : (effect : Effect) (end : StepEnd) (before after : Local) (t : State) → Takes effect end before after None (Some t)
    → (is_asks effect ≡ false → Some t ≡ None) → ⊥
untold (goes l) end before after t h st = let e : Some t ≡ None = st refl in absurd (cc)
untold (released l) end before after t h st = let e : Some t ≡ None = st refl in absurd (cc)
untold (asks number arguments address line l) end.On before after t h st = h.3
untold (asks number arguments address line l) (end.Fail cause.NoFile at) before after t h st = h.2
untold (asks number arguments address line l) (end.Fail cause.FileLimit at) before after t h st = h.2
untold (asks number arguments address line l) end.Fault before after t h st = h.1
untold (asks number arguments address line l) end before after t h st = h
untold (due turn l) end before after t h st = let e : Some t ≡ None = st refl in absurd (cc)
untold (fails c line) end before after t h st = let e : Some t ≡ None = st refl in absurd (cc)
untold bad end before after t h st = let e : Some t ≡ None = st refl in absurd (cc)

module _ (words : List ℕ) (live : ℕ) (is_first : Bool) (before after : Local) (left : ℕ) where
  told : (old new : Option State) (effect : Effect) (end : StepEnd) (cleared : Bool) →
      effect_of words live is_first before ≡ effect → Takes effect end before after old new → (is_asks effect ≡ false → new ≡ old) →
      ends_phase end before after ≡ is_released effect → Forks effect words before.pc →
      WhereTold old new (λ s t. Made words live is_first before after s t left cleared effect end)
  told old None effect end cleared e h st ph fk = tt
  told None (Some t) effect end cleared e h st ph fk = untold effect end before after t h st
  told (Some s) (Some t) effect end cleared e h st ph fk = made words live is_first before after s t left cleared effect end e h (λ k. some_state (st k)) ph fk

  -- the same for an object that only a system call changes
  pub steps_told : {X : Type 0} (state : X → Option State) (x y : X) (end : StepEnd) (cleared : Bool) →
      Takes (effect_of words live is_first before) end before after (state x) (state y) → steps.Keeps (effect_of words live is_first before) x y →
      ends_phase end before after ≡ is_released (effect_of words live is_first before) → Forks (effect_of words live is_first before) words before.pc →
      WhereTold (state x) (state y) (λ s t. Made words live is_first before after s t left cleared (effect_of words live is_first before) end)
  steps_told state x y end cleared h keeps ph fk =
      told (state x) (state y) (effect_of words live is_first before) end cleared refl h (kept_state state x y (effect_of words live is_first before) keeps)
      ph fk

  -- ---- what holds whether or not the state is told

  allows_turn : (n : ℕ) (turn : Turn) (l : Local) → after ≡ l → Fits live is_first (due turn l) → Forks (due turn l) words before.pc →
      Allows (pause_with n (kind_of before.pc turn)) words live is_first after
  allows_turn zero turn l e f k = tt
  allows_turn (suc n) entering l e f k = tt
  allows_turn (suc n) leaving l e f k = tt
  allows_turn (suc n) looping l e f k = tt
  allows_turn (suc n) arriving l e f k = tt
  allows_turn (suc n) (again marks) l e f k = tt
  allows_turn (suc n) (forking branches) l e f k = (
    subst (λ l. IsFork words before.pc (branches_at words before.pc) l) (sym e) (subst (λ bs. IsFork words before.pc bs l) (sym k.here) k),
    subst (λ bs. live + length bs ≤ 32) (sym k.here) f,
  )
  allows_turn (suc n) exiting l e f k = f
  allows_turn (suc n) finishing l e f k = tt

  pub allows : (old new : Option State) (effect : Effect) (end : StepEnd) → Takes effect end before after old new → Fits live is_first effect
      → Forks effect words before.pc →
      Allows (pause_of end left) words live is_first after
  allows old new effect end.On h f k = tt
  allows old new (due turn l) (end.Turn kind) h f k = subst (λ x. Allows (pause_with left x) words live is_first after) (sym h.0)
      (allows_turn left turn l h.1 f k)
  allows old new effect (end.Turn kind) h f k = absurd h
  allows old new effect (end.Fail cause.Halt at) h f k = tt
  allows old new effect (end.Fail c at) h f k = tt
  allows old new effect (end.Bad at) h f k = tt
  allows old new effect end.Fault h f k = tt

  -- where an object outside failed the activity has not changed
  fault_stays : (old new : Option State) (effect : Effect) → Takes effect end.Fault before after old new → after ≡ before
  fault_stays old new (asks number arguments address line l) h = h.0
  fault_stays old new (goes l) h = absurd h
  fault_stays old new (released l) h = absurd h
  fault_stays old new (due turn l) h = absurd h
  fault_stays old new (fails c line) h = absurd h
  fault_stays old new bad h = absurd h

  no_fault : (n : ℕ) (k : TurnKind) (failed : Option Outside → Type 0) → AsksFailed (pause_with n k) words live is_first after failed
  no_fault zero k failed = tt
  no_fault (suc n) kind.Enter failed = tt
  no_fault (suc n) kind.End failed = tt
  no_fault (suc n) kind.Loop failed = tt
  no_fault (suc n) kind.ProgramEnd failed = tt
  no_fault (suc n) k failed = tt

  asks_it : (old new : Option State) (end : StepEnd) (failed : Option Outside → Type 0) → Takes (effect_of words live is_first before) end before after old new
      → UsesFailed (effect_of words live is_first before) failed → AsksFailed (pause_of end left) words live is_first after failed
  asks_it old new end.On failed h u = tt
  asks_it old new (end.Turn k) failed h u = no_fault left k failed
  asks_it old new (end.Fail cause.Halt at) failed h u = tt
  asks_it old new (end.Fail c at) failed h u = tt
  asks_it old new (end.Bad at) failed h u = tt
  asks_it old new end.Fault failed h u =
      subst (λ l. UsesFailed (effect_of words live is_first l) failed) (sym (fault_stays old new (effect_of words live is_first before) h)) u

  -- the program counter of an activity that goes on without a turn rises, and was in the code
  abbrev Climbs : Effect → Type 0
  Climbs (goes l) = (before.pc < l.pc) × (before.pc < length words)
  Climbs (released l) = (before.pc < l.pc) × (before.pc < length words)
  Climbs (asks number arguments address line l) = (before.pc < l.pc) × (before.pc < length words)
  Climbs effect = ⊤

  climbs_of : (effect : Effect) → MovesUp before.pc effect → before.pc < length words → Climbs effect
  climbs_of (goes l) h k = (h, k)
  climbs_of (released l) h k = (h, k)
  climbs_of (asks number arguments address line l) h k = (h, k)
  climbs_of (due turn l) h k = tt
  climbs_of (fails c line) h k = tt
  climbs_of bad h k = tt

  climbs_at : (found : Option (Instruction × ℕ)) → fetch words before.pc ≡ found → Climbs (effect_at (fetch words) found live is_first before)
  climbs_at None e = tt
  climbs_at (Some (i, next)) e =
      let b : (before.pc < length words) × (before.pc < next) = code_stands_below words before.pc (i, next) e in
      climbs_of (perform (fetch words) live is_first i next before) (each_moves_up (fetch words) live is_first i next before b.1) b.0

  pub climbs : Climbs (effect_of words live is_first before)
  climbs = climbs_at (fetch words before.pc) refl

  pc_of_answer : (address : Option ℕ) (answer : List ℕ) (l : Local) → (answer_at address answer l).pc ≡ l.pc
  pc_of_answer None answer l = refl
  pc_of_answer (Some a) answer l = refl

  falls_turn : (n : ℕ) (k : TurnKind) → Falls (pause_with n k) words n before.pc (n - 1) after.pc
  falls_turn zero k = tt
  falls_turn (suc n) kind.Enter = inl (omega arith)
  falls_turn (suc n) kind.End = inl (omega arith)
  falls_turn (suc n) kind.Loop = inl (omega arith)
  falls_turn (suc n) kind.ProgramEnd = tt
  falls_turn (suc n) k = tt

  pub falls : (old new : Option State) (effect : Effect) (end : StepEnd) → Takes effect end before after old new → Climbs effect →
      Falls (pause_of end left) words left before.pc (left_after end left) after.pc
  falls old new (goes l) end.On h c = inr (refl, (let e : after.pc ≡ l.pc = ap (λ x. x.pc) h in omega (arith, e, c.0)), c.1)
  falls old new (released l) end.On h c = inr (refl, (let e : after.pc ≡ l.pc = ap (λ x. x.pc) h in omega (arith, e, c.0)), c.1)
  falls old new (asks number arguments address line l) end.On h c =
      inr (refl, (let e : after.pc ≡ l.pc = ap (λ x. x.pc) h.2 ∙ pc_of_answer address h.0 l in omega (arith, e, c.0)), c.1)
  falls old new effect end.On h c = absurd h
  falls old new effect (end.Turn k) h c = falls_turn left k
  falls old new effect (end.Fail d at) h c = tt
  falls old new effect (end.Bad at) h c = tt
  falls old new effect end.Fault h c = tt

  -- the same for values that are equal to these
  pub steps_are : {X : Type 0} (state : X → Option State) (x y : X) (end : StepEnd) (cleared : Bool) (result : Option Pause) (n : ℕ) (b : Bool) →
      Takes (effect_of words live is_first before) end before after (state x) (state y) → steps.Keeps (effect_of words live is_first before) x y →
      ends_phase end before after ≡ is_released (effect_of words live is_first before) → Forks (effect_of words live is_first before) words before.pc →
      result ≡ pause_of end left → n ≡ left_after end left → b ≡ (cleared || clears_after end before.held after.held) →
      WhereTold (state x) (state y) (λ s t. OneStep words live is_first (record { local = before; system = s; turns = left }) cleared result
      (record { local = after; system = t; turns = n }) b)
  steps_are state x y end cleared result n b h keeps ph fk e f g =
      subst (λ r. WhereTold (state x) (state y)
      (λ s t. OneStep words live is_first (record { local = before; system = s; turns = left }) cleared r (record { local = after; system = t; turns = n })
      b)) (sym e)
      (subst (λ m. WhereTold (state x) (state y)
      (λ s t. OneStep words live is_first (record { local = before; system = s; turns = left }) cleared (pause_of end left)
      (record { local = after; system = t; turns = m }) b)) (sym f)
      (subst (λ d. WhereTold (state x) (state y)
      (λ s t. OneStep words live is_first (record { local = before; system = s; turns = left }) cleared (pause_of end left)
      (record { local = after; system = t; turns = left_after end left }) d)) (sym g)
      (steps_told state x y end cleared h keeps ph fk)))

  pub allowed_are : (old new : Option State) (end : StepEnd) (result : Option Pause) → Takes (effect_of words live is_first before) end before after old new
      → Forks (effect_of words live is_first before) words before.pc →
      result ≡ pause_of end left → Allows result words live is_first after
  allowed_are old new end result h k e =
      subst (λ r. Allows r words live is_first after) (sym e)
      (allows old new (effect_of words live is_first before) end h (every_effect_fits (fetch words) (fetch words before.pc) live is_first before) k)

  pub falls_are : (old new : Option State) (end : StepEnd) (result : Option Pause) (n : ℕ) → Takes (effect_of words live is_first before) end before after old
      new →
      result ≡ pause_of end left → n ≡ left_after end left → Falls result words left before.pc n after.pc
  falls_are old new end result n h e f =
      subst (λ r. Falls r words left before.pc n after.pc) (sym e)
      (subst (λ m. Falls (pause_of end left) words left before.pc m after.pc) (sym f) (falls old new (effect_of words live is_first before) end h climbs))

  pub asked_are : (old new : Option State) (end : StepEnd) (result : Option Pause) (failed : Option Outside → Type 0)
      → Takes (effect_of words live is_first before) end before after old new → UsesFailed (effect_of words live is_first before) failed
      → result ≡ pause_of end left → AsksFailed result words live is_first after failed
  asked_are old new end result failed h u e =
      subst (λ r. AsksFailed r words live is_first after failed) (sym e) (asks_it old new end failed h u)
