-- One plain instruction of the code, and many, are steps of the definition, whatever processes live and whatever the system is.
use Rattle.std.proofs.Common.{◌≡◌, ℕ, zero, suc, ◌-◌, Bool, true, false, ◌&&◌, ◌||◌, nat_eq, List, Option, Some, None, refl, sym, ap, subst, ◌∙◌}
use Rattle.edi_told.specs.Told.{WhereTold}
use Rattle.edi_told.proofs.Told.{WhereTold-map}
use Rattle.edi_calls.specs.State.{State}
use Rattle.edi_calls.specs.declared.kinds.Cause.{Cause}
use Rattle.edi_target.specs.Effect.{Local, Effect, goes, released, asks, due, fails, bad}
use Rattle.edi_target.specs.Effect.{entering, leaving, looping, arriving, again, forking, exiting, finishing}
use Rattle.edi_target.specs.Mach.{Running}
use Rattle.edi_machine.specs.declared.activity.Activity.{Activity}
use Rattle.edi_machine.specs.declared.ends.TurnKind.{TurnKind}
use Rattle.edi_machine.specs.declared.ends.TurnKind.TheVariants as kind
use Rattle.edi_machine.specs.declared.ends.StepEnd.{StepEnd}
use Rattle.edi_machine.specs.declared.ends.StepEnd.TheVariants as end
use Rattle.edi_machine.specs.Activities.{local_of}
use Rattle.edi_machine.specs.Plain.{may_follow}
use Rattle.edi_machine.specs.Steps.{Gives, Takes, effect_of}
use Rattle.edi_machine.proofs.Commonly.{gives_takes, keeps_itself}
use Rattle.edi_machine.proofs.Telling.{fork_of_step, held_of_step, phase_of_step}
use Rattle.edi_kernel.specs.declared.stretch.Pause.{Pause}
use Rattle.edi_kernel.specs.declared.stretch.Pause.TheVariants as pause
use Rattle.edi_kernel.specs.declared.stretch.Progress.{Progress}
use Rattle.edi_kernel.specs.Stretch.{cleared_by, cleared_in, cleared_of, goes_on, left_after, noted_after, pause_of, running_in}
use Rattle.edi_kernel.specs.Stretch.{with_activity, Falls, IsInPhase, IsSameSegment, OneStep, Reaches}
use Rattle.edi_kernel.specs.Stretch.{Paused, going, pausing, stopping, Pauses, Stretches}
use Rattle.edi_kernel.proofs.Phases.{notes, stays_in}
use Rattle.edi_kernel.proofs.Steps.{falls_are, steps_are}

-- an arrival where a turn is left
pauses_by_arrival : (left : ℕ) → may_follow left kind.Arrive ≡ true → pause_of (end.Turn kind.Arrive) left ≡ Some (pause.At kind.Arrive)
pauses_by_arrival zero may = absurd (cc)
pauses_by_arrival (suc n) may = refl

-- a turn in which a process goes on, where one is left
rounds : (k : TurnKind) (left : ℕ) → goes_on k ≡ true → may_follow left k ≡ true → pause_of (end.Turn k) left ≡ None
rounds k zero round may = absurd (cc)
rounds kind.Enter (suc n) round may = refl
rounds kind.End (suc n) round may = refl
rounds kind.Loop (suc n) round may = refl
rounds k (suc n) round may = absurd (cc)

-- an instruction of the loop takes no other turn than that of an arrival, where its process does not go on
pub arrival_by : (left : ℕ) (k : TurnKind) → may_follow left k ≡ true → goes_on k ≡ false → k ≡ kind.Arrive
arrival_by zero k may stops = absurd (cc)
arrival_by (suc n) kind.Enter may stops = absurd (cc)
arrival_by (suc n) kind.End may stops = absurd (cc)
arrival_by (suc n) kind.Loop may stops = absurd (cc)
arrival_by (suc n) kind.Arrive may stops = refl
arrival_by (suc n) (kind.Again marks) may stops = absurd (cc)
arrival_by (suc n) (kind.Fork at) may stops = absurd (cc)
arrival_by (suc n) kind.Exit may stops = absurd (cc)
arrival_by (suc n) kind.ProgramEnd may stops = absurd (cc)

-- an arrival pauses whatever is noted of the marks
arrival_noted : (words : List ℕ) (live : ℕ) (is_first : Bool) (x : Paused) (now : Running) (c d : Bool)
    → Pauses words live is_first x (pause.At kind.Arrive) now c → Pauses words live is_first x (pause.At kind.Arrive) now d
arrival_noted words live is_first going now c d h = absurd h
arrival_noted words live is_first (pausing entering r b) now c d h = absurd h.0
arrival_noted words live is_first (pausing leaving r b) now c d h = absurd h.0
arrival_noted words live is_first (pausing looping r b) now c d h = absurd h.0
arrival_noted words live is_first (pausing arriving r b) now c d h = h
arrival_noted words live is_first (pausing (again marks) r b) now c d h = absurd h.0
arrival_noted words live is_first (pausing (forking branches) r b) now c d h = absurd h.0
arrival_noted words live is_first (pausing exiting r b) now c d h = absurd h.0
arrival_noted words live is_first (pausing finishing r b) now c d h = absurd h.0
arrival_noted words live is_first (stopping e r b) now c d h = absurd h

arrives_so : (words : List ℕ) (live : ℕ) (is_first : Bool) (was now : Running) (cleared c d : Bool)
    → OneStep words live is_first was cleared (Some (pause.At kind.Arrive)) now c
    → OneStep words live is_first was cleared (Some (pause.At kind.Arrive)) now d
arrives_so words live is_first was now cleared c d h = (h.0, h.1, arrival_noted words live is_first h.0 now c d h.2)

module _ (words memory new_memory : List ℕ) (a b : Activity) (p : Progress) where
  abbrev Given : StepEnd → Type 0
  Given e = (live : ℕ) (is_first : Bool) → Gives (effect_of words live is_first (local_of memory a)) e (local_of memory a) (local_of new_memory b)

  pub given_as : (e f : StepEnd) → e ≡ f → Given e → Given f
  given_as e f same given = subst Given same given

  module _ (began : IsInPhase (with_activity p a)) where
    one : (e : StepEnd) → Given e → (live : ℕ) (is_first : Bool) (s : State) →
        OneStep words live is_first (running_in memory a s p.left) (cleared_in (with_activity p a)) (pause_of e p.left)
        (running_in new_memory b s (left_after e p.left)) (cleared_of (pause_of e p.left) (noted_after e p.cleared p.phase a.held) p.phase b.held)
    one e given live is_first s =
        let before : Local = local_of memory a in
        let after : Local = local_of new_memory b in
        let takes : Takes (effect_of words live is_first before) e before after (Some s) (Some s) =
        gives_takes (effect_of words live is_first before) e before after (Some s) (given live is_first) in
        steps_are words live is_first before after p.left Some s s e (cleared_in (with_activity p a)) (pause_of e p.left) (left_after e p.left)
        (cleared_of (pause_of e p.left) (noted_after e p.cleared p.phase a.held) p.phase b.held)
        takes (keeps_itself (effect_of words live is_first before) s)
        (phase_of_step words words live is_first before refl e after (Some s) (Some s) takes) (fork_of_step words words live is_first before refl) refl refl
        (notes p.cleared p.phase a.held b.held began e p.left (held_of_step words words live is_first before refl e after (Some s) (Some s) takes))

    pub one_on : Given end.On → (live : ℕ) (is_first : Bool) (s : State) →
        OneStep words live is_first (running_in memory a s p.left) (cleared_in (with_activity p a)) None
        (running_in new_memory b s p.left) (cleared_in (with_activity p b))
    one_on given = one end.On given

    pub one_arrival : may_follow p.left kind.Arrive ≡ true → Given (end.Turn kind.Arrive) → (c : Bool) → (live : ℕ) (is_first : Bool) (s : State) →
        OneStep words live is_first (running_in memory a s p.left) (cleared_in (with_activity p a)) (Some (pause.At kind.Arrive))
        (running_in new_memory b s (p.left - 1)) c
    one_arrival may given c live is_first s =
        arrives_so words live is_first (running_in memory a s p.left) (running_in new_memory b s (p.left - 1)) (cleared_in (with_activity p a))
        (noted_after (end.Turn kind.Arrive) p.cleared p.phase a.held) c
        (subst (λ (r : Option Pause). OneStep words live is_first (running_in memory a s p.left) (cleared_in (with_activity p a)) r
        (running_in new_memory b s (p.left - 1)) (cleared_of r (noted_after (end.Turn kind.Arrive) p.cleared p.phase a.held) p.phase b.held))
        (pauses_by_arrival p.left may) (one (end.Turn kind.Arrive) given live is_first s))

    pub one_round : (k : TurnKind) → goes_on k ≡ true → may_follow p.left k ≡ true → Given (end.Turn k) → (q : Progress) → q.left ≡ p.left - 1
        → q.cleared ≡ true → (live : ℕ) (is_first : Bool) (s : State) →
        OneStep words live is_first (running_in memory a s p.left) (cleared_in (with_activity p a)) None
        (running_in new_memory b s q.left) (cleared_in (with_activity q b))
    one_round k round may given q left cleared live is_first s =
        let noted : Bool = cleared_by p.cleared p.phase a.held in
        subst (λ (c : Bool). OneStep words live is_first (running_in memory a s p.left) (cleared_in (with_activity p a)) None
        (running_in new_memory b s q.left) (c || (q.phase && nat_eq b.held 0))) (sym cleared)
        (subst (λ (n : ℕ). OneStep words live is_first (running_in memory a s p.left) (cleared_in (with_activity p a)) None
        (running_in new_memory b s n) true) (sym left)
        (subst (λ (c : Bool). OneStep words live is_first (running_in memory a s p.left) (cleared_in (with_activity p a)) None
        (running_in new_memory b s (p.left - 1)) (cleared_by (c || noted) p.phase b.held)) round
        (subst (λ (r : Option Pause). OneStep words live is_first (running_in memory a s p.left) (cleared_in (with_activity p a)) r
        (running_in new_memory b s (p.left - 1)) (cleared_of r (noted_after (end.Turn k) p.cleared p.phase a.held) p.phase b.held))
        (rounds k p.left round may) (one (end.Turn k) given live is_first s))))

    pub on_in_phase : Given end.On → IsInPhase (with_activity p b)
    on_in_phase given one =
        let before : Local = local_of memory a in
        let after : Local = local_of new_memory b in
        stays_in p.cleared p.phase a.held b.held began end.On p.left
        (held_of_step words words 0 false before refl end.On after None None
        (gives_takes (effect_of words 0 false before) end.On before after None (given 0 false))) refl one

  falls : (e : StepEnd) → Given e → (n : ℕ) → pause_of e p.left ≡ None → n ≡ left_after e p.left → Falls None words p.left a.pc n b.pc
  falls e given n none same =
      let before : Local = local_of memory a in
      let after : Local = local_of new_memory b in
      falls_are words 0 false before after p.left None None e None n
      (gives_takes (effect_of words 0 false before) e before after None (given 0 false)) (sym none) same

  pub on_falls : Given end.On → Falls None words p.left a.pc p.left b.pc
  on_falls given = falls end.On given p.left refl refl

-- ---- an instruction that fails or is refused changes nothing

fails_alike : (e : Effect) (c : Cause) (line : ℕ) (before after : Local) → Gives e (end.Fail c line) before after → after ≡ before
fails_alike (goes l) c line before after h = absurd h
fails_alike (released l) c line before after h = absurd h
fails_alike (asks number arguments address at l) c line before after h = absurd h
fails_alike (due turn l) c line before after h = absurd h
fails_alike (fails cause at) c line before after h = h.2
fails_alike bad c line before after h = absurd h

refused_alike : (e : Effect) (at : ℕ) (before after : Local) → Gives e (end.Bad at) before after → after ≡ before
refused_alike (goes l) at before after h = absurd h
refused_alike (released l) at before after h = absurd h
refused_alike (asks number arguments address line l) at before after h = absurd h
refused_alike (due turn l) at before after h = absurd h
refused_alike (fails cause line) at before after h = absurd h
refused_alike bad at before after h = h.1

same_activity : (memory new_memory : List ℕ) (a b : Activity) → local_of new_memory b ≡ local_of memory a → b ≡ a
same_activity memory new_memory a b e = ap (λ (l : Local). activity_of l) e
  where
    activity_of : Local → Activity
    activity_of l = record {
      base = l.base;
      end = l.end;
      top = l.top;
      pc = l.pc;
      segment = record { first = l.first; last = l.last };
      held = l.held;
    }

module _ (words memory new_memory : List ℕ) (a b : Activity) where
  pub failed_same : (c : Cause) (line : ℕ) → ((live : ℕ) (is_first : Bool) → Gives (effect_of words live is_first (local_of memory a)) (end.Fail c line)
      (local_of memory a) (local_of new_memory b)) → (new_memory ≡ memory) × (b ≡ a)
  failed_same c line given =
      let same : local_of new_memory b ≡ local_of memory a = fails_alike (effect_of words 0 false (local_of memory a)) c line _ _ (given 0 false) in
      (ap (λ (l : Local). l.memory) same, same_activity memory new_memory a b same)

  pub refused_same : (at : ℕ) → ((live : ℕ) (is_first : Bool) → Gives (effect_of words live is_first (local_of memory a)) (end.Bad at)
      (local_of memory a) (local_of new_memory b)) → (new_memory ≡ memory) × (b ≡ a)
  refused_same at given =
      let same : local_of new_memory b ≡ local_of memory a = refused_alike (effect_of words 0 false (local_of memory a)) at _ _ (given 0 false) in
      (ap (λ (l : Local). l.memory) same, same_activity memory new_memory a b same)

-- ---- many

-- the segment stays the same by steps
pub segment_on : (p q a b : Activity) → q ≡ p → IsSameSegment p a → IsSameSegment a b → IsSameSegment q b
segment_on p q a b same h k = k ∙ h ∙ ap (λ (x : Activity). x.segment) (sym same)

module _ (words : List ℕ) (live : ℕ) (is_first : Bool) (was r now : Running) (c d e : Bool) where
  pub reaches_on : Reaches words live is_first was c r d → Reaches words live is_first r d now e → Reaches words live is_first was c now e
  reaches_on h k = record {
    ends = λ n x f. let m = k.ends n x f in h.ends m.0 x m.1;
    gets = λ n x f. let m = k.gets n x f in h.gets m.0 x m.1;
  }

  pub arrives_on : Reaches words live is_first was c r d → Stretches words live is_first r d (pause.At kind.Arrive) now e
      → Stretches words live is_first was c (pause.At kind.Arrive) now e
  arrives_on h k = let m = h.ends k.steps k.end k.is in record { steps = m.0; end = k.end; is = m.1; pauses = k.pauses }

-- the words that were lent are those of the code
module _ (code words : List ℕ) (same : words ≡ code) (live : ℕ) (is_first : Bool) (was r now : State → Running) (c d e : Bool) (old new : Option State)
    (reached : WhereTold old new (λ s t. Reaches code live is_first (was s) c (r t) d)) where
  pub told_on : ((s : State) → Reaches words live is_first (r s) d (now s) e) → WhereTold old new (λ s t. Reaches code live is_first (was s) c (now t) e)
  told_on further = WhereTold-map _ (λ s t. Reaches code live is_first (was s) c (now t) e) old new
      (λ s t h. reaches_on code live is_first (was s) (r t) (now t) c d e h
      (subst (λ (ws : List ℕ). Reaches ws live is_first (r t) d (now t) e) same (further t))) reached

  pub told_arrival : ((s : State) → Stretches words live is_first (r s) d (pause.At kind.Arrive) (now s) e)
      → WhereTold old new (λ s t. Stretches code live is_first (was s) c (pause.At kind.Arrive) (now t) e)
  told_arrival further = WhereTold-map _ (λ s t. Stretches code live is_first (was s) c (pause.At kind.Arrive) (now t) e) old new
      (λ s t h. arrives_on code live is_first (was s) (r t) (now t) c d e h
      (subst (λ (ws : List ℕ). Stretches ws live is_first (r t) d (pause.At kind.Arrive) (now t) e) same (further t))) reached
