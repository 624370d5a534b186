-- How a stint of the kernel ends: as one of the machine does.
use Rattle.std.proofs.Common.{◌≡◌, ℕ, zero, suc, ◌-◌, ◌<◌, Bool, true, false, List, [], length, map}
use Rattle.std.proofs.Common.{inr, Some, None, refl, sym, ◌∙◌, ap, arith, subst}
use Rattle.std.specs.Prelude.{◌==◌}
use Rattle.std.specs.Option.{option_map}
use Rattle.std.proofs.lemmas.Bool.{eqb-false}
use Rattle.edi_calls.specs.State.{State}
use Rattle.edi_calls.specs.Names.{Name, same}
use Rattle.edi_calls.specs.Outcome as outcome
use Rattle.edi_calls.specs.Ready.{joins}
use Rattle.edi_target.specs.Attempts.{is_failed_turn}
use Rattle.edi_target.specs.Fetch.{fetch}
use Rattle.edi_target.specs.Effect.{Local, Turn, entering, leaving, looping, arriving, again, forking, exiting, finishing}
use Rattle.edi_target.specs.Mach as mach
use Rattle.edi_target.specs.Mach.{turned}
use Rattle.edi_target.specs.Mach.{Running, Machine, went, activity_of, running_of, back, at_turn, is_first}
use Rattle.edi_machine.specs.declared.activity.Activity.{Activity}
use Rattle.edi_machine.specs.declared.ends.TurnKind.{TurnKind}
use Rattle.edi_machine.specs.declared.ends.TurnKind.TheVariants as kind
use Rattle.edi_machine.specs.Starts.{branches_at}
use Rattle.edi_machine.specs.Steps.{effect_of}
use Rattle.edi_kernel.specs.declared.ends.Ending.{Ending}
use Rattle.edi_kernel.specs.declared.ends.Ending.TheVariants as ending
use Rattle.edi_kernel.specs.declared.ends.StintEnd.{StintEnd}
use Rattle.edi_kernel.specs.declared.ends.StintEnd.TheVariants as stint_end
use Rattle.edi_kernel.specs.declared.stretch.Pause.{Pause}
use Rattle.edi_kernel.specs.declared.stretch.Pause.TheVariants as pause
use Rattle.edi_kernel.specs.declared.state.KernelState.{KernelState}
use Rattle.edi_kernel.specs.Table.{going_by, is_live, marks_with, process_at, ready_slots, free_slots, unmarked, with_process}
use Rattle.edi_kernel.specs.Table.{resumed}
use Rattle.edi_kernel.specs.TableIsMachine.{Naming, TableIsMachine}
use Rattle.edi_kernel.specs.Stretch.{Paused, going, pausing, stopping, stretch, running_in, Pauses, Stretches, Allows}
use Rattle.edi_kernel.specs.Stints.{stint, stint_after}
use Rattle.edi_kernel.specs.Kernel.{GoesOnAs, HandlesTurn, Holds, attempt_end, going_on, taken_after}
use Rattle.edi_kernel.specs.Kernel.{EndsAs, Handles, KeepsWords}
use Rattle.edi_kernel.specs.Named.{BreaksRun, BreaksRunBy, EndsBy, GoesBy, SlotsStay}
use Rattle.edi_kernel.proofs.Changes.{length-names}
use Rattle.edi_kernel.proofs.Walks.{Follows, written, marks_after, Turns, Comes}
use Rattle.edi_kernel.proofs.Switches.{At, follows_marks, gone_stands, taken_live}
use Rattle.edi_kernel.proofs.StintGiven as given
use Rattle.edi_kernel.proofs.StintGiven.{Given, first_is}
use Rattle.edi_kernel.proofs.StintArrivals as arrivals
use Rattle.edi_kernel.proofs.StintLeaving as leaving
use Rattle.edi_kernel.proofs.StintFailures as failures

module _ (words : List ℕ) (old mid new : KernelState) (slot left left1 used : ℕ) (s t : State) (n : Naming) (m : Machine) (a : Activity) (cleared : Bool)
    (g : Given words old mid new slot left left1 used s t n m a cleared) where
  abbrev p : Name
  p = n.name slot

  abbrev others : List Name
  others = map n.name (ready_slots old.table)

  abbrev live : ℕ
  live = 32 - length (free_slots old.table)

  abbrev now : Running
  now = running_in mid.store a t left1

  abbrev start : Running
  start = given.start words old mid new slot left left1 used s t n m a cleared g

  came : (steps : ℕ) (x : Paused) → stretch (fetch words) live (slot == 0) steps (running_in old.store (resumed (process_at old.table slot)) s left) false
      ≡ x →
      Comes (fetch words) m p others (n.forks slot) steps m x
  came = given.came words old mid new slot left left1 used s t n m a cleared g

  last_by : (turn : Turn) (r : Running) (c : Bool) (steps : ℕ) → (w : Turns (fetch words) m p others (n.forks slot) steps m turn r c)
      → new.failed ≡ is_failed_turn (turned turn r) → (machine : Machine) (joined : List Name) →
      at_turn w.machine p others w.activity turn r ≡ went machine (joins joined) → EndsBy words new.failed m p others machine joined
  last_by = given.last_by words old mid new slot left left1 used s t n m a cleared g

  -- ---- all pauses

  at_turns : (kd : TurnKind) (steps : ℕ) (end : Paused) (result : StintEnd) (l : Local) → Comes (fetch words) m p others (n.forks slot) steps m end
      → Pauses words live (slot == 0) end (pause.At kd) now cleared → new.taken ≡ None →
      Allows (Some (pause.At kd)) words live (slot == 0) l → HandlesTurn kd words slot used a mid new result → GoesBy words result left old n new t m p others
  at_turns kind.Arrive steps (pausing arriving r c) result l w h free allowed d =
      subst (λ x. GoesBy words x left old n new t m p others) (sym d.2)
      (arrivals.arrived words old mid new slot left left1 used s t n m a cleared g free
      w.machine w.activity (marks_after (fetch words) m p others (n.forks slot) c) r steps w.rest w.follows h.1 w.is d.0 d.1 d.3
      (last_by arriving r c steps w d.4 _ _ refl))
  at_turns (kind.Again false) steps (pausing (again marks) r c) result l w h free allowed d =
      subst (λ x. GoesBy words x left old n new t m p others) (sym d.2)
      (arrivals.arrived words old mid new slot left left1 used s t n m a cleared g free
      w.machine w.activity (marks_after (fetch words) m p others (n.forks slot) c) r steps w.rest w.follows h.1
      (subst (λ x. stint (fetch words) steps m p others ≡ stint_after (λ m. stint (fetch words) w.rest m p others)
      (at_turn w.machine p others w.activity (again x) r)) (sym h.0) w.is) d.0 d.1 d.3
      (last_by (again marks) r c steps w d.4 _ _ (ap (λ x. at_turn w.machine p others w.activity (again x) r) (sym h.0))))
  at_turns (kind.Again true) steps (pausing (again marks) r c) result l w h free allowed d =
      arrivals.marked_attempt words old mid new slot left left1 used s t n m a cleared g free w.machine w.activity r steps w.rest result
      (subst (λ x. Follows m w.machine p (n.forks slot) (marks_after (fetch words) m p others (n.forks slot) x) w.activity) (sym h.2) w.follows) h.1
      (subst (λ x. stint (fetch words) steps m p others ≡ stint_after (λ m. stint (fetch words) w.rest m p others)
      (at_turn w.machine p others w.activity (again x) r)) (sym h.0) w.is) d.0 d.1 d.2 d.3
      (λ machine joined is.
      last_by (again marks) r c steps w d.4 machine joined (ap (λ x. at_turn w.machine p others w.activity (again x) r) (sym h.0) ∙ is))
  at_turns (kind.Fork at) steps (pausing (forking branches) r c) result l w h free allowed d =
      subst (λ x. GoesBy words x left old n new t m p others) (sym d.1)
      (leaving.forks words old mid new slot left left1 used s t n m a cleared g free
      w.machine w.activity (marks_after (fetch words) m p others (n.forks slot) c) w.follows (branches_at words at) steps w.rest
      (subst (λ x. stint (fetch words) steps m p others ≡ stint_after (λ m. stint (fetch words) w.rest m p others)
      (at_turn w.machine p others w.activity (forking (branches_at words at)) x)) (sym h.1)
      (subst (λ x. stint (fetch words) steps m p others ≡ stint_after (λ m. stint (fetch words) w.rest m p others)
      (at_turn w.machine p others w.activity (forking x) r)) (sym h.0) w.is)) d.0 allowed.0.some
      (λ machine joined is.
      last_by (forking branches) r c steps w d.2 machine joined
      (ap (λ x. at_turn w.machine p others w.activity (forking x) r) (sym h.0)
      ∙ ap (λ x. at_turn w.machine p others w.activity (forking (branches_at words at)) x) (sym h.1) ∙ is)))
  at_turns kind.Exit steps (pausing exiting r c) result l w h free allowed d =
      subst (λ x. GoesBy words x left old n new t m p others) (sym d.2)
      (leaving.gone words old mid new slot left left1 used s t n m a cleared g free
      w.machine w.activity (marks_after (fetch words) m p others (n.forks slot) c) r steps w.rest w.follows h.1 (later_slot allowed) w.is d.0 d.1
      (λ machine joined is. last_by exiting r c steps w d.3 machine joined is))
    where
      later_slot : (slot == 0) ≡ false → 0 < slot
      later_slot e = positive slot (eqb-false slot 0 e)
        where
          positive : (q : ℕ) → (q ≡ 0 → ⊥) → 0 < q
          positive zero h = absurd (h refl)
          positive (suc q) h = omega arith
  at_turns kd steps (pausing entering r c) result l w h free allowed d = absurd h.0
  at_turns kd steps (pausing leaving r c) result l w h free allowed d = absurd h.0
  at_turns kd steps (pausing looping r c) result l w h free allowed d = absurd h.0
  at_turns kd steps (pausing arriving r c) result l w h free allowed d = absurd h.0
  at_turns kd steps (pausing (again marks) r c) result l w h free allowed d = absurd h.0
  at_turns kd steps (pausing (forking branches) r c) result l w h free allowed d = absurd h.0
  at_turns kd steps (pausing exiting r c) result l w h free allowed d = absurd h.0
  at_turns kd steps (pausing finishing r c) result l w h free allowed d = absurd h.0
  at_turns kd steps end result l w h free allowed d = absurd h

  -- ---- an end of the run by an instruction of the process

  same_live : (i : ℕ) → is_live mid.table i ≡ is_live old.table i
  same_live = given.same_live words old mid new slot left left1 used s t n m a cleared g

  same_ready : ready_slots mid.table ≡ ready_slots old.table
  same_ready = given.same_ready words old mid new slot left left1 used s t n m a cleared g

  abbrev at_clear : At (unmarked mid.table) n (record m { marks = [] }) slot
  at_clear = given.at_clear words old mid new slot left left1 used s t n m a cleared g

  -- what is kept of the process
  abbrev Kept : Type 0
  Kept = (new.table ≡ with_process (unmarked mid.table) slot (going_by (process_at mid.table slot) a)) × (new.store ≡ mid.store) × (new.taken ≡ Some slot)

  -- the kernel is the machine x, in which the process goes on by its activity
  holds_on : (x : Machine) (b : mach.Activity) (ms : List Name) → Follows m x p (n.forks slot) ms b → Kept
      → (h : Holds new (going_on x p now.local b.forks) (Some p) others) × (h.naming ≡ n)
  holds_on x b ms f k = (
    record {
      naming = n;
      stands = subst (λ u. TableIsMachine u n (going_on x p now.local b.forks)) (sym k.0)
          (gone_stands (unmarked mid.table) slot a at_clear.table at_clear.taken n (record m { marks = [] }) x b ms now.local mid.store
          at_clear.stands (follows_marks m x p (n.forks slot) ms [] b f) refl refl);
      memory = sym k.1;
      is_taken = sym (ap (option_map n.name) k.2);
      is_ready = sym (ap (λ u. map n.name (ready_slots u)) k.0 ∙ ap (map n.name) same_ready);
    },
    refl,
  )

  -- the slots are those from before
  slots_stay : Kept → SlotsStay old.table new.table
  slots_stay k = λ i l. sym (same_live i) ∙ sym (ap (λ u. is_live u i) k.0) ∙ l

  -- an instruction that ends the run leaves all as it was
  kept_local : (k : Machine) (b : mach.Activity) (ms : List Name) (r : Running) → running_of k b ≡ r → (running_of (back k p b ms r) b).local ≡ r.local
  kept_local k b ms r e = subst (λ r. (running_of (back k p b ms r) b).local ≡ r.local) e refl

  many : (k : Machine) (b : mach.Activity) (ms : List Name) → Follows m k p (n.forks slot) ms b → live ≡ length k.activities
  many k b ms f =
      given.is_live_count words old mid new slot left left1 used s t n m a cleared g ∙ sym (length-names m.activities) ∙ ap length (sym f.named)
      ∙ length-names k.activities

  first : (slot == 0) ≡ is_first p
  first = first_is old.table n m slot g.stands (taken_live old.table slot g.taken)

  -- an ending that leaves the activity as it is
  stopped : (e : Ending) (end : outcome.Ending) (steps : ℕ) (r : Running) (c : Bool)
      → (w : Comes (fetch words) m p others (n.forks slot) steps m (stopping end r c)) → Kept → EndsAs end e → KeepsWords e r.local.memory new.store →
      now.system ≡ r.system → now.turns ≡ r.turns →
      ((machine : Machine) → (live ≡ length machine.activities) → (was : Local) → was ≡ r.local → GoesOnAs words e machine p was now.local)
      → BreaksRun words (left - used) e old n new t m p others
  stopped e end steps r c w k same memory system turns goes =
      let machine : Machine = back w.machine p w.activity w.machine.marks r in
      let f : Follows m machine p (n.forks slot) w.machine.marks w.activity =
      written m w.machine p (n.forks slot) (marks_after (fetch words) m p others (n.forks slot) c) w.machine.marks w.activity w.activity r w.follows
      w.follows.forked in
      let held : (h : Holds new (going_on machine p now.local w.activity.forks) (Some p) others) × (h.naming ≡ n) =
      holds_on machine w.activity w.machine.marks f k in
      record {
        ends = record {
          steps = steps;
          machine = machine;
          end = end;
          is = w.is;
          same = same;
          memory = memory;
          system = sym system;
          turns = sym turns ∙ sym g.spent;
        };
        broken = record {
          activity = w.activity;
          found = f.found;
          local = now.local;
          goes_on = goes machine (many machine w.activity w.machine.marks f) (running_of machine w.activity).local
              (kept_local w.machine w.activity w.machine.marks r w.runs);
          holds = held.0;
        };
        by = held.1;
        slots = slots_stay k;
      }

  -- nothing has changed
  unchanged : (e : Ending) (end : outcome.Ending) (steps : ℕ) (r : Running) (c : Bool)
      → (w : Comes (fetch words) m p others (n.forks slot) steps m (stopping end r c)) → Kept → EndsAs end e → KeepsWords e r.local.memory new.store →
      ((machine : Machine) → GoesOnAs words e machine p r.local r.local) → now ≡ r → BreaksRun words (left - used) e old n new t m p others
  unchanged e end steps r c w k same memory goes at =
      stopped e end steps r c w k same memory (ap (λ x. x.system) at) (ap (λ x. x.turns) at)
      (λ machine count was is. subst (λ l. GoesOnAs words e machine p was l) (sym (ap (λ x. x.local) at))
      (subst (λ l. GoesOnAs words e machine p l r.local) (sym is) (goes machine)))

  -- the memory of the running is kept
  kept_words : (r : Running) → now ≡ r → Kept → r.local.memory ≡ new.store
  kept_words r at k = sym (ap (λ x. x.local.memory) at) ∙ sym k.1

  -- the instruction of the program's end
  done : (steps : ℕ) (r : Running) (c : Bool) → (w : Comes (fetch words) m p others (n.forks slot) steps m (pausing finishing r c)) → Kept → now ≡ r
      → BreaksRun words (left - used) ending.Done old n new t m p others
  done steps r c w k at =
      let b : mach.Activity = activity_of r.local w.activity.forks mach.ready in
      let machine : Machine = back w.machine p b [] r in
      let f : Follows m machine p (n.forks slot) [] b =
      written m w.machine p (n.forks slot) (marks_after (fetch words) m p others (n.forks slot) c) [] w.activity b r w.follows w.follows.forked in
      let held : (h : Holds new (going_on machine p now.local b.forks) (Some p) others) × (h.naming ≡ n) = holds_on machine b [] f k in
      record {
        ends = record {
          steps = steps;
          machine = machine;
          end = outcome.done;
          is = w.is;
          same = tt;
          memory = kept_words r at k;
          system = sym (ap (λ x. x.system) at);
          turns = sym (ap (λ x. x.turns) at) ∙ sym g.spent;
        };
        broken = record { activity = b; found = f.found; local = now.local; goes_on = ap (λ x. x.local) at; holds = held.0 };
        by = held.1;
        slots = slots_stay k;
      }

  overs : (e : Ending) (steps : ℕ) (end : Paused) → Comes (fetch words) m p others (n.forks slot) steps m end
      → Pauses words live (slot == 0) end (pause.Over e) now cleared → Kept → BreaksRun words (left - used) e old n new t m p others
  overs ending.Done steps (pausing finishing r c) w h k = done steps r c w k h
  overs (ending.Halted at) steps (stopping (outcome.halted line) r c) w h k =
      unchanged (ending.Halted at) (outcome.halted line) steps r c w k h.0 (kept_words r h.1 k) (λ machine. refl) h.1
  overs (ending.Failed cause at) steps (stopping (outcome.failed why line) r c) w h k =
      unchanged (ending.Failed cause at) (outcome.failed why line) steps r c w k (h.0, h.1) (kept_words r h.2 k) (λ machine. refl) h.2
  overs ending.Turns steps (stopping outcome.turns r c) w h k =
      stopped ending.Turns outcome.turns steps r c w k tt tt h.1 h.0
      (λ machine count was is. inr (
        h.2.0,
        sym (ap (λ i. effect_of words i (is_first p) was) count) ∙ sym (ap (λ b. effect_of words live b was) first)
            ∙ ap (effect_of words live (slot == 0)) is ∙ h.2.1,
      ))
  overs (ending.Bad at) steps (stopping (outcome.bad address) r c) w h k =
      unchanged (ending.Bad at) (outcome.bad address) steps r c w k h.0 tt (λ machine. refl) h.1
  overs e steps (pausing entering r c) w h k = absurd h
  overs e steps (pausing leaving r c) w h k = absurd h
  overs e steps (pausing looping r c) w h k = absurd h
  overs e steps (pausing arriving r c) w h k = absurd h
  overs e steps (pausing (again marks) r c) w h k = absurd h
  overs e steps (pausing (forking branches) r c) w h k = absurd h
  overs e steps (pausing exiting r c) w h k = absurd h
  overs e steps (pausing finishing r c) w h k = absurd h
  overs e steps (stopping outcome.done r c) w h k = absurd h
  overs e steps (stopping (outcome.halted line) r c) w h k = absurd h
  overs e steps (stopping (outcome.failed why line) r c) w h k = absurd h
  overs e steps (stopping outcome.turns r c) w h k = absurd h
  overs e steps (stopping outcome.standstill r c) w h k = absurd h
  overs e steps (stopping (outcome.bad address) r c) w h k = absurd h
  overs e steps going w h k = absurd h

  no_standstill : (end : Paused) → Pauses words live (slot == 0) end (pause.Over ending.Standstill) now cleared
      → GoesBy words (stint_end.Over used ending.Standstill) left old n new t m p others
  no_standstill end h = absurd (never end h)
    where
      never : (end : Paused) → Pauses words live (slot == 0) end (pause.Over ending.Standstill) now cleared → ⊥
      never (pausing turn r c) h = by_turn turn h
        where
          by_turn : (turn : Turn) → Pauses words live (slot == 0) (pausing turn r c) (pause.Over ending.Standstill) now cleared → ⊥
          by_turn finishing h = h
          by_turn entering h = h
          by_turn leaving h = h
          by_turn looping h = h
          by_turn arriving h = h
          by_turn (again marks) h = h
          by_turn (forking branches) h = h
          by_turn exiting h = h
      never (stopping outcome.done r c) h = h
      never (stopping (outcome.halted line) r c) h = h
      never (stopping (outcome.failed why line) r c) h = h
      never (stopping outcome.turns r c) h = h
      never (stopping outcome.standstill r c) h = h
      never (stopping (outcome.bad address) r c) h = h
      never going h = h

  module _ (result : StintEnd) (l : Local) where
    abbrev By : StintEnd → Type 0
    By x = GoesBy words x left old n new t m p others

    pub goes : (pause : Pause) → Stretches words live (slot == 0) start false pause now cleared → Allows (Some pause) words live (slot == 0) l
        → new.taken ≡ taken_after pause (Some slot) → Handles pause words slot used a mid new result → By result
    goes (pause.Over ending.Fault) h allowed k d = subst By (sym d.2) (failures.broken words old mid new slot left left1 used s t n m a cleared g h)
    goes (pause.Over ending.Done) h allowed k d = subst By (sym d.2)
        (overs ending.Done h.steps h.end (came h.steps h.end h.is) h.pauses (d.0, d.1, k)).ends
    goes (pause.Over (ending.Halted at)) h allowed k d = subst By (sym d.2)
        (overs (ending.Halted at) h.steps h.end (came h.steps h.end h.is) h.pauses (d.0, d.1, k)).ends
    goes (pause.Over (ending.Failed cause at)) h allowed k d = subst By (sym d.2)
        (overs (ending.Failed cause at) h.steps h.end (came h.steps h.end h.is) h.pauses (d.0, d.1, k)).ends
    goes (pause.Over ending.Turns) h allowed k d = subst By (sym d.2)
        (overs ending.Turns h.steps h.end (came h.steps h.end h.is) h.pauses (d.0, d.1, k)).ends
    goes (pause.Over ending.Standstill) h allowed k d = subst By (sym d.2) (no_standstill h.end h.pauses)
    goes (pause.Over (ending.Bad at)) h allowed k d = subst By (sym d.2)
        (overs (ending.Bad at) h.steps h.end (came h.steps h.end h.is) h.pauses (d.0, d.1, k)).ends
    goes (pause.At kd) h allowed k d = at_turns kd h.steps h.end result l (came h.steps h.end h.is) h.pauses k allowed d

    abbrev Ends : StintEnd → Type 0
    Ends x = BreaksRunBy words x left old n new t m p others

    attempted : (b : Bool) → Ends (attempt_end b used)
    attempted true = tt
    attempted false = tt

    pub ends : (pause : Pause) → Stretches words live (slot == 0) start false pause now cleared → new.taken ≡ taken_after pause (Some slot)
        → Handles pause words slot used a mid new result → Ends result
    ends (pause.Over ending.Fault) h k d = subst Ends (sym d.2) tt
    ends (pause.Over ending.Done) h k d = subst Ends (sym d.2)
        (overs ending.Done h.steps h.end (came h.steps h.end h.is) h.pauses (d.0, d.1, k))
    ends (pause.Over (ending.Halted at)) h k d = subst Ends (sym d.2)
        (overs (ending.Halted at) h.steps h.end (came h.steps h.end h.is) h.pauses (d.0, d.1, k))
    ends (pause.Over (ending.Failed cause at)) h k d = subst Ends (sym d.2)
        (overs (ending.Failed cause at) h.steps h.end (came h.steps h.end h.is) h.pauses (d.0, d.1, k))
    ends (pause.Over ending.Turns) h k d = subst Ends (sym d.2)
        (overs ending.Turns h.steps h.end (came h.steps h.end h.is) h.pauses (d.0, d.1, k))
    ends (pause.Over ending.Standstill) h k d = subst Ends (sym d.2) tt
    ends (pause.Over (ending.Bad at)) h k d = subst Ends (sym d.2)
        (overs (ending.Bad at) h.steps h.end (came h.steps h.end h.is) h.pauses (d.0, d.1, k))
    ends (pause.At (kind.Again true)) h k d = subst Ends (sym d.2) (attempted (marks_with mid.table slot == length (ready_slots new.table)))
    ends (pause.At (kind.Again false)) h k d = subst Ends (sym d.2) tt
    ends (pause.At (kind.Fork at)) h k d = subst Ends (sym d.1) tt
    ends (pause.At kind.Exit) h k d = subst Ends (sym d.2) tt
    ends (pause.At kind.Enter) h k d = subst Ends (sym d.2) tt
    ends (pause.At kind.End) h k d = subst Ends (sym d.2) tt
    ends (pause.At kind.Loop) h k d = subst Ends (sym d.2) tt
    ends (pause.At kind.Arrive) h k d = subst Ends (sym d.2) tt
    ends (pause.At kind.ProgramEnd) h k d = subst Ends (sym d.2) tt
