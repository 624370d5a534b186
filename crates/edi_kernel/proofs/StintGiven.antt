-- A stint of the kernel: what is given of it, and how the table stands when the process pauses.
use Rattle.std.proofs.Common.{◌≡◌, ℕ, zero, suc, ◌-◌, ◌<◌, Bool, true, false, List, [], ◌∷◌, length, map}
use Rattle.std.proofs.Common.{Some, None, refl, sym, ◌∙◌, ap, arith, subst, if◌then◌else◌}
use Rattle.std.specs.Prelude.{◌==◌}
use Rattle.std.proofs.lemmas.Bool.{ne_eqb}
use Rattle.edi_calls.specs.State.{State}
use Rattle.edi_calls.specs.Names.{Name, same}
use Rattle.edi_calls.specs.Ready.{joins}
use Rattle.edi_target.specs.Attempts.{attempt_fails, is_failed_turn}
use Rattle.edi_target.specs.Fetch.{fetch}
use Rattle.edi_target.specs.Effect.{Turn}
use Rattle.edi_target.specs.Mach.{turned, local_step}
use Rattle.edi_target.specs.Mach.{Running, Machine, went, running_of, at_turn, is_first}
use Rattle.edi_ring.specs.Lists.{home_of}
use Rattle.edi_ring.proofs.Homes.{length-le-nodes}
use Rattle.edi_machine.specs.declared.activity.Activity.{Activity}
use Rattle.edi_machine.specs.Activities.{IsOrdered}
use Rattle.edi_kernel.specs.declared.state.KernelState.{KernelState}
use Rattle.edi_kernel.specs.declared.table.Standing.{Standing}
use Rattle.edi_kernel.specs.declared.table.Standing.TheVariants as standing
use Rattle.edi_kernel.specs.declared.table.Process.{Process}
use Rattle.edi_kernel.specs.declared.table.Table.{Table}
use Rattle.edi_kernel.specs.Table.{PutsProcess, process_at, unmarked, ready_slots, free_slots}
use Rattle.edi_kernel.specs.Table.{is_live, resumed}
use Rattle.edi_kernel.specs.TableIsMachine.{IsTable, IsTaken, Naming, TableIsMachine, entry_of}
use Rattle.edi_kernel.specs.Stretch.{Paused, stretch, running_in}
use Rattle.edi_kernel.specs.Kernel.{IsKernel, IsTakenIn}
use Rattle.edi_kernel.specs.Named.{SlotsStay, EndsBy}
use Rattle.edi_calls.proofs.Names.{child_not_first}
use Rattle.edi_kernel.proofs.Counts.{marked_few}
use Rattle.edi_kernel.proofs.Changes.{length-names}
use Rattle.edi_kernel.proofs.Lists.{put_lives}
use Rattle.edi_kernel.proofs.Walks.{follows_itself, marks_after, Turns, Comes, comes}
use Rattle.edi_kernel.proofs.Switches.{At, taken_live, unmarked_taken, unmarked_at_slot}

-- ---- what is taken

pub taken_at : (k : KernelState) (slot : ℕ) → IsKernel k → k.taken ≡ Some slot → IsTaken k.table slot
taken_at k slot h e = subst (IsTakenIn k.table) e h.taken

pub unmarked_if : (b : Bool) (t : Table) (slot : ℕ) → IsTaken t slot → IsTaken (if b then unmarked t else t) slot
unmarked_if true t slot h = unmarked_taken t slot h
unmarked_if false t slot h = h

pub few_marks : (t : Table) (slot : ℕ) → IsTable t → IsTaken t slot → t.marks < 64
few_marks t slot s h = omega (arith, h.counted, marked_few t (slot ∷ ready_slots t), length-le-nodes 32 2 t.lists 0 s.sound)

-- the process goes on as its entry says
pub runs : (m : Machine) (store : List ℕ) (s : State) (left : ℕ) (process : Process) (forks : ℕ) → m.memory ≡ store → m.system ≡ s → m.turns ≡ left →
    running_of m (entry_of process forks) ≡ running_in store (resumed process) s left
runs m store s left process forks e f g = alike process.standing
  where
    alike : (x : Standing) → running_of m (entry_of (record process { standing = x }) forks) ≡ running_in store
        (resumed (record process { standing = x })) s left
    alike standing.Ready = cc
    alike standing.AtWhen = cc
    alike (standing.Waiting n) = cc

-- the first process has the first slot
pub first_is : (t : Table) (n : Naming) (m : Machine) (slot : ℕ) → TableIsMachine t n m → is_live t slot ≡ true → (slot == 0) ≡ is_first (n.name slot)
first_is t n m zero s l = sym (ap is_first s.root)
first_is t n m (suc i) s l = not_zero i ∙ sym (named (n.name (suc i)) refl)
  where
    not_zero : (i : ℕ) → (suc i == 0) ≡ false
    not_zero i = ne_eqb (suc i) 0 (λ e. omega (arith, e))

    named : (q : Name) → n.name (suc i) ≡ q → is_first (n.name (suc i)) ≡ false
    named [] e = let b = s.born (suc i) l (omega arith) in absurd (child_not_first _ b.fork b.number (sym b.named ∙ e))
    named (x ∷ q) e = ap is_first e

-- ---- the stint

module _ (words : List ℕ) (old mid new : KernelState) (slot left left1 used : ℕ) (s t : State) (n : Naming) (m : Machine) (a : Activity) (cleared : Bool) where
  abbrev p : Name
  p = n.name slot

  abbrev others : List Name
  others = map n.name (ready_slots old.table)

  abbrev live : ℕ
  live = 32 - length (free_slots old.table)

  abbrev now : Running
  now = running_in mid.store a t left1

  pub record Given : Type 0 where
    pub table : IsTable old.table
    pub taken : IsTaken old.table slot
    pub stands : TableIsMachine old.table n m
    pub memory : m.memory ≡ old.store
    pub system : m.system ≡ s
    pub turns : m.turns ≡ left
    pub mid_table : mid.table ≡ (if cleared then unmarked old.table else old.table)
    pub slot_is : old.taken ≡ Some slot
    pub spent : left - used ≡ left1
    pub ordered : IsOrdered a

  module _ (g : Given) where
    pub is_live_count : live ≡ length m.activities
    is_live_count = omega (arith, g.stands.count)

    abbrev pub start : Running
    start = running_in old.store (resumed (process_at old.table slot)) s left

    pub came : (steps : ℕ) (x : Paused) → stretch (fetch words) live (slot == 0) steps (running_in old.store (resumed (process_at old.table slot)) s left) false
        ≡ x →
        Comes (fetch words) m p others (n.forks slot) steps m x
    came steps x e =
        subst (Comes (fetch words) m p others (n.forks slot) steps m)
        (ap (λ l. stretch (fetch words) l (is_first p) steps (running_in old.store (resumed (process_at old.table slot)) s left) false) (sym is_live_count)
        ∙ ap (λ b. stretch (fetch words) live b steps (running_in old.store (resumed (process_at old.table slot)) s left) false)
        (sym (first_is old.table n m slot g.stands (taken_live old.table slot g.taken)))
        ∙ e)
        (comes (fetch words) m p others (n.forks slot) steps m (entry_of (process_at old.table slot) (n.forks slot))
        (running_in old.store (resumed (process_at old.table slot)) s left) false
        (follows_itself m p (entry_of (process_at old.table slot) (n.forks slot)) (g.stands.found slot (taken_live old.table slot g.taken)))
        (runs m old.store s left (process_at old.table slot) (n.forks slot) g.memory g.system g.turns))

    -- the table is that of the machine, with its marks, when the process pauses
    pub at_mid : At mid.table n (record m { marks = marks_after (fetch words) m p others (n.forks slot) cleared }) slot
    at_mid = subst (λ u. At u n (record m { marks = marks_after (fetch words) m p others (n.forks slot) cleared }) slot) (sym g.mid_table) (by_cleared cleared)
      where
        by_cleared : (b : Bool) → At (if b then unmarked old.table else old.table) n
            (record m { marks = marks_after (fetch words) m p others (n.forks slot) b }) slot
        by_cleared true = unmarked_at_slot old.table n m slot (record { table = g.table; taken = g.taken; stands = g.stands })
        by_cleared false = record { table = g.table; taken = g.taken; stands = g.stands }

    pub same_ready : ready_slots mid.table ≡ ready_slots old.table
    same_ready = ap ready_slots g.mid_table ∙ by_cleared cleared
      where
        by_cleared : (b : Bool) → ready_slots (if b then unmarked old.table else old.table) ≡ ready_slots old.table
        by_cleared true = refl
        by_cleared false = refl

    pub same_live : (i : ℕ) → is_live mid.table i ≡ is_live old.table i
    same_live i = ap (λ t. is_live t i) g.mid_table ∙ by_cleared cleared
      where
        by_cleared : (b : Bool) → is_live (if b then unmarked old.table else old.table) i ≡ is_live old.table i
        by_cleared true = refl
        by_cleared false = refl

    -- the last instruction took this turn
    pub last_by : (turn : Turn) (r : Running) (c : Bool) (steps : ℕ) → (w : Turns (fetch words) m p others (n.forks slot) steps m turn r c)
        → new.failed ≡ is_failed_turn (turned turn r) → (machine : Machine) (joined : List Name) →
        at_turn w.machine p others w.activity turn r ≡ went machine (joins joined) → EndsBy words new.failed m p others machine joined
    last_by turn r c steps w failed machine joined is = record {
      steps = w.before;
      before = w.machine;
      reached = w.reached;
      last = w.last ∙ is;
      failed_is =
          failed ∙ sym (ap is_failed_turn w.took)
          ∙ sym (ap (λ l. is_failed_turn (local_step (fetch words) l (is_first p) (running_of w.machine w.activity))) many)
          ∙ sym (ap (attempt_fails (fetch words) w.machine p) w.follows.found);
    }
      where
        many : length w.machine.activities ≡ length m.activities
        many = sym (length-names w.machine.activities) ∙ ap length w.follows.named ∙ length-names m.activities

    -- a process that is put into the list of ready ones lived before
    pub put_slots : (t : Table) (x : Process) → PutsProcess 0 slot x t new.table → ((i : ℕ) → is_live t i ≡ is_live mid.table i) → home_of t.lists slot ≡ None
        → SlotsStay old.table new.table
    put_slots t x put same none = λ i l. sym (same_live i) ∙ sym (same i) ∙ sym (put_lives t new.table slot x put none i) ∙ l

    abbrev pub at_clear : At (unmarked mid.table) n (record m { marks = [] }) slot
    at_clear = unmarked_at_slot mid.table n (record m { marks = marks_after (fetch words) m p others (n.forks slot) cleared }) slot at_mid
