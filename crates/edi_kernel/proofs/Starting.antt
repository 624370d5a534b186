-- The first process alone.
use Rattle.std.proofs.Common.{◌≡◌, ℕ, zero, suc, ◌+◌, ◌<◌, ◌≤◌, Bool, true, false, ◌&&◌, ◌||◌, not, nat_lt, if◌then◌else◌, List, [], ◌∷◌, length, map}
use Rattle.std.proofs.Common.{inl, Option, Some, None, refl, sym, ◌∙◌, ap, arith, subst, slice_index_or}
use Rattle.std.specs.Prelude.{replicate}
use Rattle.std.specs.Option.{option_map}
use Rattle.std.proofs.lemmas.Bool.Decides.{nat_tests}
use Rattle.edi_calls.specs.Names.{same}
use Rattle.edi_calls.specs.Outcome as outcome
use Rattle.edi_calls.specs.Ready.{stays}
use Rattle.edi_calls.specs.State.{State}
use Rattle.edi_calls.proofs.Tables.{same-equal}
use Rattle.edi_target.specs.Op as op
use Rattle.edi_target.specs.Op.{Instruction}
use Rattle.edi_target.specs.Check.{CodeParts}
use Rattle.edi_target.specs.Fetch.{fetch}
use Rattle.edi_target.specs.Mach.{Machine, Activity, went, ended, ready, activity_of, running_of, first_activity, machine_at, start_memory, entered}
use Rattle.edi_machine.specs.declared.activity.Activity as code
use Rattle.edi_machine.specs.Activities.{IsOrdered, local_of}
use Rattle.edi_machine.specs.Starts.{ActivityBegins}
use Rattle.edi_kernel.specs.declared.state.KernelState.{KernelState}
use Rattle.edi_kernel.specs.declared.table.Table.{Table}
use Rattle.edi_kernel.specs.Table.{FirstAlone, beginning, first_home, process_at, ready_slots, is_live, is_free_home, is_waiting, no_process}
use Rattle.edi_kernel.specs.TableIsMachine.{IsTable, IsTaken, Naming, Awaits, TableIsMachine, entry_of, is_child_of, children_of, slots_where}
use Rattle.edi_kernel.specs.declared.ends.Ending.TheVariants as ending
use Rattle.edi_kernel.specs.Kernel.{Holds, HoldsBroken}
use Rattle.edi_kernel.specs.Runs.{Started}
use Rattle.edi_kernel.proofs.Changes.{child_live, child_later}
use Rattle.edi_kernel.proofs.Lists.{unmarked_at, none_marked}

replicate_at : {A : Type 0} (n i : ℕ) (x d : A) → i < n → slice_index_or (replicate n x) i d ≡ x
replicate_at zero i x d h = absurd (omega arith)
replicate_at (suc n) zero x d h = refl
replicate_at (suc n) (suc i) x d h = replicate_at n i x d (omega arith)

replicate_past : {A : Type 0} (n i : ℕ) (x d : A) → n ≤ i → slice_index_or (replicate n x) i d ≡ d
replicate_past zero i x d h = refl
replicate_past (suc n) zero x d h = absurd (omega arith)
replicate_past (suc n) (suc i) x d h = replicate_past n i x d (omega arith)

module _ (t : Table) (a : code.Activity) (f : FirstAlone t a) where
  -- a process of the table, or none
  standing_ready : (i : ℕ) → is_waiting (process_at t i).standing ≡ false
  standing_ready i = ap (λ xs. is_waiting (slice_index_or xs i no_process).standing) f.processes ∙ each 32 i
    where
      each : (n i : ℕ) → is_waiting (slice_index_or (replicate n (beginning 0 a)) i no_process).standing ≡ false
      each zero i = refl
      each (suc n) zero = refl
      each (suc n) (suc i) = each n i

  parent_none : (i : ℕ) → (process_at t i).parent ≡ 0
  parent_none i = ap (λ xs. (slice_index_or xs i no_process).parent) f.processes ∙ each 32 i
    where
      each : (n i : ℕ) → (slice_index_or (replicate n (beginning 0 a)) i no_process).parent ≡ 0
      each zero i = refl
      each (suc n) zero = refl
      each (suc n) (suc i) = each n i

  process_is : (i : ℕ) → i < 32 → process_at t i ≡ beginning 0 a
  process_is i h = ap (λ xs. slice_index_or xs i no_process) f.processes ∙ replicate_at 32 i (beginning 0 a) no_process h

  pub first_table : IsOrdered a → IsTable t
  first_table o = record {
    sound = f.sound;
    wide = ap length f.processes;
    marked_wide = ap length f.marked;
    clear = λ none. f.marked;
    parents = λ i. omega (arith, parent_none i);
    ordered = λ i h. subst (λ y. IsOrdered y.activity) (sym (process_is i h)) o;
    root = ap is_free_home (f.homes 0);
    waiting = λ i h. let e : true ≡ false = sym h ∙ standing_ready i in absurd (cc);
  }

  pub first_taken : IsTaken t 0
  first_taken = record {
    inside = omega arith;
    homeless = f.homes 0;
    going = standing_ready 0;
    counted = f.marks ∙ sym (none_marked t (0 ∷ ready_slots t) f.marked);
  }

  live_zero : is_live t 0 ≡ true
  live_zero = ap (λ h. not (is_free_home h)) (f.homes 0)

  -- only the first slot is live
  only_zero : (i : ℕ) → is_live t i ≡ true → i ≡ 0
  only_zero zero l = refl
  only_zero (suc i) l = absurd (dead (suc i) (omega arith) (sym (ap (λ h. nat_lt (suc i) 32 && not (is_free_home h)) (f.homes (suc i))) ∙ l))
    where
      dead : (j : ℕ) → 0 < j → (nat_lt j 32 && not (is_free_home (first_home j))) ≡ true → ⊥
      dead j pos h = by_tests (nat_lt j 32) (nat_lt 0 j) refl (positive j pos) h
        where
          positive : (j : ℕ) → 0 < j → nat_lt 0 j ≡ true
          positive j h = grind (arith, nat_tests)

          by_tests : (x y : Bool) → nat_lt j 32 ≡ x → y ≡ true → (x && not (is_free_home (if y && x then Some 1 else None))) ≡ true → ⊥
          by_tests true true e z h = let a : false ≡ true = h in absurd (cc)
          by_tests true false e z h = absurd (cc)
          by_tests false y e z h = absurd (cc)

  abbrev pub naming : Naming
  naming = record { name = λ i. []; forks = λ i. 0 }

  module _ (memory : List ℕ) (turns : ℕ) (system : State) (x : Activity) (is : activity_of (local_of [] a) 0 ready ≡ x) where
    abbrev m : Machine
    m = machine_at memory (([], x) ∷ []) turns system

    pub first_stands : TableIsMachine t naming m
    first_stands = record {
      found = λ i l. ap Some (sym is) ∙ sym (ap (λ y. Some (entry_of y 0)) (ap (process_at t) (only_zero i l) ∙ process_is 0 (omega arith)));
      all = λ q h. (0, live_zero, same-equal q [] (or_none (same q []) h));
      apart = λ i j l r e. only_zero i l ∙ sym (only_zero j r);
      once = (refl, tt);
      count = omega (arith, f.free);
      marks = λ i l. sym (ap (λ ms. slice_index_or ms i false) f.marked ∙ unmarked_at 32 i);
      root = refl;
      born = λ i l pos. absurd (omega (arith, only_zero i l, pos));
      awaits = λ i l.
          subst (λ j. Awaits (process_at t j).standing (children_of t j)) (sym (only_zero i l))
          (subst (λ y. Awaits y.standing (children_of t 0)) (sym (process_is 0 (omega arith)))
          (none (is_child_of t 0) 32 (λ j _. no_child j (is_child_of t 0 j) refl)));
    }
      where
        or_none : (b : Bool) → (b || false) ≡ true → b ≡ true
        or_none true h = refl
        or_none false h = absurd (cc)

        none : (g : ℕ → Bool) (d : ℕ) → ((j : ℕ) → j < d → g j ≡ false) → slots_where g d ≡ 0
        none g zero h = refl
        none g (suc d) h = ap (λ e. if e then suc (slots_where g d) else slots_where g d) (h d (omega arith)) ∙ none g d (λ j k. h j (omega arith))

        no_child : (j : ℕ) (b : Bool) → is_child_of t 0 j ≡ b → is_child_of t 0 j ≡ false
        no_child j false e = e
        no_child j true e = absurd (omega (arith, only_zero j (child_live t 0 j e), child_later t 0 j e))

-- ---- the machine's start

-- the first turn is the entry's, and after it the kernel is the machine
pub record Enters (code : CodeParts) (k : KernelState) (system : State) (left : ℕ) : Type 0 where
  pub machine : Machine
  pub is : entered (fetch code.words code.entry) code.entry code.calls (suc left) system ≡ went machine stays
  pub holds : Holds k machine (Some []) []
  pub system_is : machine.system ≡ system
  pub turns : machine.turns ≡ left

-- no turn is left for the entry
pub record NeverEnters (code : CodeParts) (system : State) : Type 0 where
  pub machine : Machine
  pub is : entered (fetch code.words code.entry) code.entry code.calls 0 system ≡ ended outcome.turns machine
  pub system_is : machine.system ≡ system
  pub turns : machine.turns ≡ 0

-- then the kernel is the machine that the entry would leave, and the first process has the empty name
pub record NeverGoes (code : CodeParts) (k : KernelState) (system : State) : Type 0 where
  pub enters : NeverEnters code system
  pub broken : HoldsBroken code.words ending.Turns k enters.machine [] []
  pub named : (slot : ℕ) → (broken.holds.naming.name slot ≡ []) × (broken.holds.naming.forks slot ≡ 0)

module _ (parts : CodeParts) (k : KernelState) (s : Started parts k) (system : State) where
  abbrev Entering : Option (Instruction × ℕ) → ℕ → Type 0
  Entering found left =
      (m : Machine) × (entered found parts.entry parts.calls (suc left) system ≡ went m stays) × Holds k m (Some []) [] × (m.system ≡ system) × (m.turns ≡ left)

  entering : (found : Option (Instruction × ℕ)) (left : ℕ) → ActivityBegins found parts.calls k.store s.first → Entering found left
  entering (Some (op.entry need r p v f, body)) left b = (
    machine_at (start_memory parts.calls) (([], first_activity need (5 + p + v) body) ∷ []) left system,
    refl,
    record {
      naming = naming k.table s.first s.alone;
      stands = first_stands k.table s.first s.alone (start_memory parts.calls) left system (first_activity need (5 + p + v) body) b.1;
      memory = sym b.0;
      is_taken = sym (ap (option_map (λ (i : ℕ). [])) s.taken);
      is_ready = sym (ap (map (λ (i : ℕ). [])) s.alone.ready);
    },
    refl,
    refl,
  )
  entering None left b = absurd b
  entering (Some x) left b = absurd b

  abbrev Never : Option (Instruction × ℕ) → Type 0
  Never found =
      (m : Machine) × (entered found parts.entry parts.calls 0 system ≡ ended outcome.turns m) × (m.system ≡ system) × (m.turns ≡ 0)
      × (h : HoldsBroken parts.words ending.Turns k m [] [])
      × ((slot : ℕ) → (h.holds.naming.name slot ≡ []) × (h.holds.naming.forks slot ≡ 0))

  never : (found : Option (Instruction × ℕ)) → ActivityBegins found parts.calls k.store s.first → Never found
  never (Some (op.entry need r p v f, body)) b =
      let x : Activity = first_activity need (5 + p + v) body in
      let m : Machine = machine_at (start_memory parts.calls) (([], x) ∷ []) 0 system in (
        m,
        refl,
        refl,
        refl,
        record {
          activity = x;
          found = refl;
          local = (running_of m x).local;
          goes_on = inl refl;
          holds = record {
            naming = naming k.table s.first s.alone;
            stands = first_stands k.table s.first s.alone (start_memory parts.calls) 0 system x b.1;
            memory = sym b.0;
            is_taken = sym (ap (option_map (λ (i : ℕ). [])) s.taken);
            is_ready = sym (ap (map (λ (i : ℕ). [])) s.alone.ready);
          };
        },
        λ slot. (refl, refl),
      )
  never None b = absurd b
  never (Some x) b = absurd b

  pub enters : (left : ℕ) → Enters parts k system left
  enters left = let e : Entering (fetch parts.words parts.entry) left = entering (fetch parts.words parts.entry) left s.begins in
      record { machine = e.0; is = e.1; holds = e.2; system_is = e.3; turns = e.4 }

  pub never_goes : NeverGoes parts k system
  never_goes =
      let e : Never (fetch parts.words parts.entry) = never (fetch parts.words parts.entry) s.begins in
      record { enters = record { machine = e.0; is = e.1; system_is = e.2; turns = e.3 }; broken = e.4; named = e.5 }

  pub never_enters : NeverEnters parts system
  never_enters = never_goes.enters
