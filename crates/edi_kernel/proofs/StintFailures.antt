-- What a stint of the kernel leaves in which an object outside fails.
use Rattle.std.proofs.Common.{◌≡◌, ℕ, ◌-◌, Bool, true, false, List, length, map}
use Rattle.std.proofs.Common.{Option, Some, sym, ◌∙◌, ap, subst}
use Rattle.std.specs.Prelude.{◌==◌}
use Rattle.edi_calls.specs.State.{State}
use Rattle.edi_calls.specs.Calls.{call}
use Rattle.edi_calls.specs.declared.ends.Outside.{Outside}
use Rattle.edi_calls.specs.Ends.{IsUsed}
use Rattle.edi_calls.specs.Names.{Name}
use Rattle.edi_target.specs.Fetch.{fetch}
use Rattle.edi_target.specs.Mach.{Running, Machine, running_of, is_first}
use Rattle.edi_machine.specs.declared.activity.Activity.{Activity}
use Rattle.edi_machine.specs.declared.ends.TurnKind.TheVariants as kind
use Rattle.edi_machine.specs.Steps.{Tears, UsesFailed, effect_of}
use Rattle.edi_kernel.specs.declared.ends.Ending.TheVariants as ending
use Rattle.edi_kernel.specs.declared.ends.StintEnd.{StintEnd}
use Rattle.edi_kernel.specs.declared.stretch.Pause.{Pause}
use Rattle.edi_kernel.specs.declared.stretch.Pause.TheVariants as pause
use Rattle.edi_kernel.specs.declared.state.KernelState.{KernelState}
use Rattle.edi_kernel.specs.Table.{process_at, marks_with, ready_slots, free_slots}
use Rattle.edi_kernel.specs.TableIsMachine.{Naming, entry_of}
use Rattle.edi_kernel.specs.Stretch.{running_in, walked, Breaks, Stretches, AsksFailed}
use Rattle.edi_kernel.specs.Kernel.{BreaksOff, attempt_end}
use Rattle.edi_kernel.specs.Kernel.{BreaksBy, Handles}
use Rattle.edi_kernel.proofs.Changes.{length-names}
use Rattle.edi_kernel.proofs.Walks.{follows_itself, Walked, walks}
use Rattle.edi_kernel.proofs.Switches.{taken_live}
use Rattle.edi_kernel.proofs.StintGiven as given
use Rattle.edi_kernel.proofs.StintGiven.{Given, runs, first_is}

module _ (words : List ℕ) (old mid new : KernelState) (slot left left1 used : ℕ) (s t : State) (n : Naming) (m : Machine) (a : Activity) (cleared : Bool)
    (g : Given words old mid new slot left left1 used s t n m a cleared) where
  abbrev p : Name
  p = n.name slot

  abbrev others : List Name
  others = map n.name (ready_slots old.table)

  abbrev live : ℕ
  live = 32 - length (free_slots old.table)

  abbrev now : Running
  now = running_in mid.store a t left1

  abbrev start : Running
  start = given.start words old mid new slot left left1 used s t n m a cleared g

  is_live_count : live ≡ length m.activities
  is_live_count = given.is_live_count words old mid new slot left left1 used s t n m a cleared g

  -- ---- a fault

  first : (slot == 0) ≡ is_first p
  first = first_is old.table n m slot g.stands (taken_live old.table slot g.taken)

  broken_at : (h : Breaks words live (slot == 0) start false now) → Walked (fetch words) m p others (n.forks slot) h.steps m h.at h.emptied
      → BreaksOff words (left - used) t m p others
  broken_at h w = record {
    steps = h.steps;
    machine = w.machine;
    is = w.is;
    fails = record {
      activity = w.activity;
      found = w.follows.found;
      number = h.torn.number;
      arguments = h.torn.arguments;
      address = h.torn.address;
      line = h.torn.line;
      next = h.torn.next;
      effect =
          ap (λ l. effect_of words l (is_first p) (running_of w.machine w.activity).local) many
          ∙ ap (λ b. effect_of words live b (running_of w.machine w.activity).local) (sym first)
          ∙ ap (λ r. effect_of words live (slot == 0) r.local) w.runs ∙ h.torn.effect;
      tears = subst (λ r. Tears (call h.torn.number h.torn.arguments r.system) r.system t) (sym w.runs) h.torn.tears;
    };
    turns = ap (λ r. r.turns) w.runs ∙ sym h.torn.turns ∙ sym g.spent;
  }
    where
      many : length w.machine.activities ≡ live
      many = sym (length-names w.machine.activities) ∙ ap length w.follows.named ∙ length-names m.activities ∙ sym is_live_count

  pub broken : Breaks words live (slot == 0) start false now → BreaksOff words (left - used) t m p others
  broken h =
      broken_at h
      (walks (fetch words) m p others (n.forks slot) h.steps m (entry_of (process_at old.table slot) (n.forks slot)) start false h.at h.emptied
      (follows_itself m p (entry_of (process_at old.table slot) (n.forks slot)) (g.stands.found slot (taken_live old.table slot g.taken)))
      (runs m old.store s left (process_at old.table slot) (n.forks slot) g.memory g.system g.turns)
      (ap (λ l. walked (fetch words) l (is_first p) h.steps start false) (sym is_live_count) ∙ ap (λ b. walked (fetch words) live b h.steps start false)
      (sym first) ∙ h.reached))

  -- the call that failed uses what has failed
  module _ (failed : Option Outside → Type 0) where
    abbrev By : StintEnd → Type 0
    By end = BreaksBy failed words end left t m p others

    broken_by : (h : Breaks words live (slot == 0) start false now) → UsesFailed (effect_of words live (slot == 0) now.local) failed
        → (b : BreaksOff words (left - used) t m p others) × IsUsed b.fails.number failed
    unfolding broken broken_at
    broken_by h u =
        (broken h, subst (λ x. UsesFailed x failed) (ap (λ l. effect_of words live (slot == 0) l) h.torn.same ∙ h.torn.effect) u)

    attempted : (b : Bool) → By (attempt_end b used)
    attempted true = tt
    attempted false = tt

    pub breaks : (pause : Pause) (result : StintEnd) → Stretches words live (slot == 0) start false pause now cleared
        → AsksFailed (Some pause) words live (slot == 0) now.local failed → Handles pause words slot used a mid new result → By result
    breaks (pause.Over ending.Fault) result h u d = subst By (sym d.2) (broken_by h u)
    breaks (pause.Over ending.Done) result h u d = subst By (sym d.2) tt
    breaks (pause.Over (ending.Halted at)) result h u d = subst By (sym d.2) tt
    breaks (pause.Over (ending.Failed cause at)) result h u d = subst By (sym d.2) tt
    breaks (pause.Over ending.Turns) result h u d = subst By (sym d.2) tt
    breaks (pause.Over ending.Standstill) result h u d = subst By (sym d.2) tt
    breaks (pause.Over (ending.Bad at)) result h u d = subst By (sym d.2) tt
    breaks (pause.At (kind.Again true)) result h u d = subst By (sym d.2) (attempted (marks_with mid.table slot == length (ready_slots new.table)))
    breaks (pause.At (kind.Again false)) result h u d = subst By (sym d.2) tt
    breaks (pause.At (kind.Fork at)) result h u d = subst By (sym d.1) tt
    breaks (pause.At kind.Exit) result h u d = subst By (sym d.2) tt
    breaks (pause.At kind.Enter) result h u d = subst By (sym d.2) tt
    breaks (pause.At kind.End) result h u d = subst By (sym d.2) tt
    breaks (pause.At kind.Loop) result h u d = subst By (sym d.2) tt
    breaks (pause.At kind.Arrive) result h u d = subst By (sym d.2) tt
    breaks (pause.At kind.ProgramEnd) result h u d = subst By (sym d.2) tt
