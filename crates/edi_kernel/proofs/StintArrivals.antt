-- A stint of the kernel that ends at a `when`: it is one of the machine.
use Rattle.std.proofs.Common.{◌≡◌, ℕ, ◌-◌, Bool, true, false, List, [], ◌∷◌, ◌++◌, length, map}
use Rattle.std.proofs.Common.{Some, None, refl, sym, ◌∙◌, ap, subst, if◌then◌else◌}
use Rattle.std.specs.Prelude.{◌==◌}
use Rattle.std.specs.Option.{option_map}
use Rattle.edi_calls.specs.State.{State}
use Rattle.edi_calls.specs.Names.{Name, same}
use Rattle.edi_calls.specs.Outcome as outcome
use Rattle.edi_calls.specs.Ready.{all_marked, joins}
use Rattle.edi_calls.proofs.Tables.{find-with_at-same}
use Rattle.edi_target.specs.Fetch.{fetch}
use Rattle.edi_target.specs.Effect.{again}
use Rattle.edi_target.specs.Mach as mach
use Rattle.edi_target.specs.Mach.{Running, Machine, went, ended, activity_of, back, at_turn}
use Rattle.edi_ring.specs.Lists.{home_of}
use Rattle.edi_machine.specs.declared.activity.Activity.{Activity}
use Rattle.edi_kernel.specs.declared.ends.StintEnd.{StintEnd}
use Rattle.edi_kernel.specs.declared.ends.StintEnd.TheVariants as stint_end
use Rattle.edi_kernel.specs.declared.state.KernelState.{KernelState}
use Rattle.edi_kernel.specs.declared.table.Process.{Process}
use Rattle.edi_kernel.specs.declared.table.Table.{Table}
use Rattle.edi_kernel.specs.Table.{PutsProcess, at_its_when, process_at, marks_with, marked_with, unmarked, ready_slots, free_slots}
use Rattle.edi_kernel.specs.Table.{is_live}
use Rattle.edi_kernel.specs.TableIsMachine.{Naming}
use Rattle.edi_kernel.specs.Stretch.{running_in}
use Rattle.edi_kernel.specs.Stints as stints
use Rattle.edi_kernel.specs.Stints.{stint, stint_after}
use Rattle.edi_kernel.specs.Kernel.{Holds, StandsArrived, attempt_end}
use Rattle.edi_kernel.specs.Named.{SlotsStay, EndsBy, GoesBy}
use Rattle.edi_kernel.proofs.Counts.{map-append}
use Rattle.edi_kernel.proofs.Walks.{Follows, marks_after}
use Rattle.edi_kernel.proofs.Switches.{At, follows_marks, marked_at_slot, stood, stood_ready}
use Rattle.edi_kernel.proofs.Switches.{all_ready}
use Rattle.edi_kernel.proofs.StintGiven as given
use Rattle.edi_kernel.proofs.StintGiven.{Given}

module _ (words : List ℕ) (old mid new : KernelState) (slot left left1 used : ℕ) (s t : State) (n : Naming) (m : Machine) (a : Activity) (cleared : Bool)
    (g : Given words old mid new slot left left1 used s t n m a cleared) (none : new.taken ≡ None) where
  abbrev p : Name
  p = n.name slot

  abbrev others : List Name
  others = map n.name (ready_slots old.table)

  abbrev live : ℕ
  live = 32 - length (free_slots old.table)

  abbrev now : Running
  now = running_in mid.store a t left1

  at_mid : At mid.table n (record m { marks = marks_after (fetch words) m p others (n.forks slot) cleared }) slot
  at_mid = given.at_mid words old mid new slot left left1 used s t n m a cleared g

  same_ready : ready_slots mid.table ≡ ready_slots old.table
  same_ready = given.same_ready words old mid new slot left left1 used s t n m a cleared g

  put_slots : (t : Table) (x : Process) → PutsProcess 0 slot x t new.table → ((i : ℕ) → is_live t i ≡ is_live mid.table i) → home_of t.lists slot ≡ None
      → SlotsStay old.table new.table
  put_slots = given.put_slots words old mid new slot left left1 used s t n m a cleared g

  abbrev at_clear : At (unmarked mid.table) n (record m { marks = [] }) slot
  at_clear = given.at_clear words old mid new slot left left1 used s t n m a cleared g

  -- ---- an arrival, and an attempt that marks nobody

  left_standing : (k : Machine) (b : mach.Activity) (ms : List Name) (r : Running) → now ≡ r → new.arrived ≡ Some a →
      StandsArrived new (back k p (activity_of r.local b.forks mach.at_when) ms r) p
  left_standing k b ms r e arrival = record {
    activity = a;
    forks = b.forks;
    arrival = arrival;
    found =
        find-with_at-same k.activities p (activity_of r.local b.forks mach.at_when)
        ∙ sym (ap (λ x. Some (activity_of x.local b.forks mach.at_when)) e);
  }

  pub arrived : (k : Machine) (b : mach.Activity) (ms : List Name) (r : Running) (steps rest : ℕ) → Follows m k p (n.forks slot) ms b → now ≡ r →
      stint (fetch words) steps m p others ≡ stints.switched (back k p (activity_of r.local b.forks mach.at_when) [] r) (p ∷ []) →
      PutsProcess 0 slot (at_its_when (process_at mid.table slot) a) (unmarked mid.table) new.table → new.store ≡ mid.store → new.arrived ≡ Some a →
      EndsBy words new.failed m p others (back k p (activity_of r.local b.forks mach.at_when) [] r) (p ∷ []) →
      GoesBy words (stint_end.Arrived used) left old n new t m p others
  arrived k b ms r steps rest f e is put same arrival last = (
    (
      record {
        steps = steps;
        machine = back k p (activity_of r.local b.forks mach.at_when) [] r;
        joined = p ∷ [];
        is = is;
        holds = record {
          naming = n;
          stands = stood (unmarked mid.table) new.table slot a at_clear.table at_clear.taken put n (record m { marks = [] }) k b [] ms r mid.store
              at_clear.stands (follows_marks m k p (n.forks slot) ms [] b f) refl (sym (ap (λ x. x.local) e));
          memory = sym (ap (λ x. x.local.memory) e) ∙ sym same;
          is_taken = sym (ap (option_map n.name) none);
          is_ready = sym (ap (map n.name) (stood_ready (unmarked mid.table) new.table slot a at_clear.table at_clear.taken put)
              ∙ map-append n.name (ready_slots mid.table) (slot ∷ []) ∙ ap (λ xs. map n.name xs ++ p ∷ []) same_ready);
        };
        system = sym (ap (λ x. x.system) e);
        turns = sym (ap (λ x. x.turns) e) ∙ sym g.spent;
      },
      left_standing k b [] r e arrival,
    ),
    refl,
    put_slots (unmarked mid.table) (at_its_when (process_at mid.table slot) a) put (λ i. refl) at_clear.taken.homeless,
    last,
  )

  -- ---- an attempt that marks its process

  pub marked_attempt : (k : Machine) (b : mach.Activity) (r : Running) (steps rest : ℕ) (result : StintEnd) → Follows m k p (n.forks slot)
      (marks_after (fetch words) m p others (n.forks slot) cleared) b → now ≡ r →
      stint (fetch words) steps m p others ≡ stint_after (λ m. stint (fetch words) rest m p others) (at_turn k p others b (again true) r) →
      PutsProcess 0 slot (at_its_when (process_at mid.table slot) a) (marked_with mid.table slot) new.table → new.store ≡ mid.store →
      result ≡ attempt_end (marks_with mid.table slot == length (ready_slots new.table)) used → new.arrived ≡ Some a →
      ((machine : Machine) (joined : List Name) → at_turn k p others b (again true) r ≡ went machine (joins joined)
      → EndsBy words new.failed m p others machine joined) →
      GoesBy words result left old n new t m p others
  marked_attempt k b r steps rest result f e is put same ends arrival last =
      subst (λ x. GoesBy words x left old n new t m p others) (sym ends) (by_marks (marks_with mid.table slot == length (ready_slots new.table)) refl)
    where
      marked : At (marked_with mid.table slot) n (record m { marks = p ∷ marks_after (fetch words) m p others (n.forks slot) cleared }) slot
      marked = marked_at_slot mid.table n (record m { marks = marks_after (fetch words) m p others (n.forks slot) cleared }) slot at_mid

      ready : ready_slots new.table ≡ ready_slots mid.table ++ slot ∷ []
      ready = stood_ready (marked_with mid.table slot) new.table slot a marked.table marked.taken put

      after : Machine
      after = back k p (activity_of r.local b.forks mach.at_when) (p ∷ k.marks) r

      tested : (marks_with mid.table slot == length (ready_slots new.table)) ≡ all_marked (p ∷ k.marks) (p ∷ others)
      tested =
          all_ready (marked_with mid.table slot) n (record m { marks = p ∷ marks_after (fetch words) m p others (n.forks slot) cleared }) slot marked
          new.table ready
          ∙ ap (λ ms. all_marked (p ∷ ms) (p ∷ map n.name (ready_slots mid.table))) (sym f.marks_are)
          ∙ ap (λ xs. all_marked (p ∷ k.marks) (p ∷ map n.name xs)) same_ready

      slots : SlotsStay old.table new.table
      slots = put_slots (marked_with mid.table slot) (at_its_when (process_at mid.table slot) a) put (λ i. refl) marked.taken.homeless

      held : (h : Holds new (back k p (activity_of r.local b.forks mach.at_when) (p ∷ k.marks) r) None (others ++ p ∷ [])) × (h.naming ≡ n)
      held = (
        record {
          naming = n;
          stands =
              stood (marked_with mid.table slot) new.table slot a marked.table marked.taken put n
              (record m { marks = p ∷ marks_after (fetch words) m p others (n.forks slot) cleared }) k b (p ∷ k.marks)
              (marks_after (fetch words) m p others (n.forks slot) cleared) r mid.store marked.stands
              (follows_marks m k p (n.forks slot) (marks_after (fetch words) m p others (n.forks slot) cleared)
              (p ∷ marks_after (fetch words) m p others (n.forks slot) cleared) b f) (ap (λ ms. p ∷ ms) f.marks_are) (sym (ap (λ x. x.local) e));
          memory = sym (ap (λ x. x.local.memory) e) ∙ sym same;
          is_taken = sym (ap (option_map n.name) none);
          is_ready = sym (ap (map n.name) ready ∙ map-append n.name (ready_slots mid.table) (slot ∷ []) ∙ ap (λ xs. map n.name xs ++ p ∷ []) same_ready);
        },
        refl,
      )

      comes_to : (x : Bool) → all_marked (p ∷ k.marks) (p ∷ others) ≡ x →
          stint (fetch words) steps m p others ≡ stint_after (λ m. stint (fetch words) rest m p others)
          (if x then ended outcome.standstill (back k p (activity_of r.local b.forks mach.at_when) (p ∷ k.marks) r) else went
          (back k p (activity_of r.local b.forks mach.at_when) (p ∷ k.marks) r) (joins (p ∷ [])))
      comes_to x h = is ∙ ap (λ y. stint_after (λ m. stint (fetch words) rest m p others)
          (if y then ended outcome.standstill (back k p (activity_of r.local b.forks mach.at_when) (p ∷ k.marks) r) else went
          (back k p (activity_of r.local b.forks mach.at_when) (p ∷ k.marks) r) (joins (p ∷ [])))) h

      by_marks : (x : Bool) → (marks_with mid.table slot == length (ready_slots new.table)) ≡ x →
          GoesBy words (attempt_end x used) left old n new t m p others
      by_marks true h = (
        (
          record {
            steps = steps;
            machine = back k p (activity_of r.local b.forks mach.at_when) (p ∷ k.marks) r;
            end = outcome.standstill;
            is = comes_to true (sym tested ∙ h);
            same = tt;
            memory = tt;
            system = sym (ap (λ x. x.system) e);
            turns = sym (ap (λ x. x.turns) e) ∙ sym g.spent;
          },
          left_standing k b (p ∷ k.marks) r e arrival,
          sym (ap (λ x. x.local.memory) e) ∙ sym same,
          held.0,
        ),
        held.1,
        slots,
      )
      by_marks false h = (
        (
          record {
            steps = steps;
            machine = back k p (activity_of r.local b.forks mach.at_when) (p ∷ k.marks) r;
            joined = p ∷ [];
            is = comes_to false (sym tested ∙ h);
            holds = held.0;
            system = sym (ap (λ x. x.system) e);
            turns = sym (ap (λ x. x.turns) e) ∙ sym g.spent;
          },
          left_standing k b (p ∷ k.marks) r e arrival,
        ),
        held.1,
        slots,
        last (back k p (activity_of r.local b.forks mach.at_when) (p ∷ k.marks) r) (p ∷ [])
            (ap (λ y. if y then ended outcome.standstill (back k p (activity_of r.local b.forks mach.at_when) (p ∷ k.marks) r) else went
            (back k p (activity_of r.local b.forks mach.at_when) (p ∷ k.marks) r) (joins (p ∷ []))) (sym tested ∙ h)),
      )
