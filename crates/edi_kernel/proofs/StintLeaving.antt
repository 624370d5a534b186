-- A stint of the kernel in which the process ends or forks: it is one of the machine.
use Rattle.std.proofs.Common.{◌≡◌, ℕ, zero, suc, ◌+◌, ◌-◌, ◌<◌, inl, inr, Bool, true, ◌&&◌, nat_lt, ◌*◌, List, [], ◌++◌, length, map}
use Rattle.std.proofs.Common.{Some, None, refl, sym, ◌∙◌, ap, arith, subst, nat_eq, if◌then◌else◌, eq-eqb}
use Rattle.std.specs.Option.{option_map}
use Rattle.std.proofs.lemmas.Bool.{cases_eq, ne_eqb}
use Rattle.edi_calls.specs.State.{State}
use Rattle.edi_calls.specs.Names.{Name, same}
use Rattle.edi_calls.specs.Ready.{child, children, joins}
use Rattle.edi_calls.proofs.Tables.{find-with_at-same, find-with_at-other}
use Rattle.edi_target.specs.Op.{Branch}
use Rattle.edi_target.specs.Fetch.{fetch}
use Rattle.edi_target.specs.Effect.{forking}
use Rattle.edi_target.specs.Mach as mach
use Rattle.edi_target.specs.Mach.{Running, Machine, went, activity_of, back, with_children, at_turn, exited}
use Rattle.edi_machine.specs.declared.activity.Activity.{Activity}
use Rattle.edi_kernel.specs.declared.ends.StintEnd.TheVariants as stint_end
use Rattle.edi_kernel.specs.declared.state.KernelState.{KernelState}
use Rattle.edi_kernel.specs.declared.table.Process.{Process}
use Rattle.edi_kernel.specs.declared.table.Table.{Table}
use Rattle.edi_kernel.specs.Table.{Removed, waiting_for, process_at, unmarked, ready_slots, free_slots}
use Rattle.edi_kernel.specs.Table.{is_live, with_process}
use Rattle.edi_kernel.specs.TableIsMachine.{Naming, Born, TableIsMachine, is_child_of, children_of}
use Rattle.edi_kernel.specs.Stretch.{running_in}
use Rattle.edi_kernel.specs.Stints as stints
use Rattle.edi_kernel.specs.Stints.{stint, stint_after}
use Rattle.edi_kernel.specs.Forks.{HaveBegun, share_in}
use Rattle.edi_kernel.specs.Named.{IsBorn, NamesGrow, EndsBy, GoesBy}
use Rattle.edi_calls.proofs.Names.{child_not_first, same_ends}
use Rattle.edi_kernel.proofs.Counts.{where_same}
use Rattle.edi_kernel.proofs.Changes.{one_changes, at_set_same, at_set_other}
use Rattle.edi_kernel.proofs.Lists.{written_table, unmarked_at}
use Rattle.edi_kernel.proofs.Walks.{Follows, names-with_at}
use Rattle.edi_kernel.proofs.Switches.{At, childless, taken_live, follows_marks}
use Rattle.edi_kernel.proofs.Exits.{Exited, exits, kept, none_left, removed_slots}
use Rattle.edi_kernel.proofs.Forking.{Starts, Grown, grown, drop_all}
use Rattle.edi_kernel.proofs.StintGiven as given
use Rattle.edi_kernel.proofs.StintGiven.{Given}

module _ (words : List ℕ) (old mid new : KernelState) (slot left left1 used : ℕ) (s t : State) (n : Naming) (m : Machine) (a : Activity) (cleared : Bool)
    (g : Given words old mid new slot left left1 used s t n m a cleared) (free : new.taken ≡ None) where
  abbrev p : Name
  p = n.name slot

  abbrev others : List Name
  others = map n.name (ready_slots old.table)

  abbrev live : ℕ
  live = 32 - length (free_slots old.table)

  abbrev now : Running
  now = running_in mid.store a t left1

  same_ready : ready_slots mid.table ≡ ready_slots old.table
  same_ready = given.same_ready words old mid new slot left left1 used s t n m a cleared g

  same_live : (i : ℕ) → is_live mid.table i ≡ is_live old.table i
  same_live = given.same_live words old mid new slot left left1 used s t n m a cleared g

  abbrev at_clear : At (unmarked mid.table) n (record m { marks = [] }) slot
  at_clear = given.at_clear words old mid new slot left left1 used s t n m a cleared g

  -- ---- the end of a branch

  pub gone : (k : Machine) (b : mach.Activity) (ms : List Name) (r : Running) (steps rest : ℕ) → Follows m k p (n.forks slot) ms b → now ≡ r → 0 < slot →
      stint (fetch words) steps m p others ≡ stint_after (λ m. stint (fetch words) rest m p others) (exited k p r) →
      Removed slot (unmarked mid.table) new.table → new.store ≡ mid.store →
      ((machine : Machine) (joined : List Name) → exited k p r ≡ went machine (joins joined) → EndsBy words new.failed m p others machine joined) →
      GoesBy words (stint_end.Exited used) left old n new t m p others
  gone k b ms r steps rest f e pos is removed same last =
      let x : Exited new.table n (map n.name (ready_slots (unmarked mid.table))) (map n.name (ready_slots new.table)) (exited k p r) =
      exits (unmarked mid.table) new.table n (record m { marks = [] }) k slot b ms r removed at_clear pos (follows_marks m k p (n.forks slot) ms [] b f)
      refl in (
        (
          record {
            steps = steps;
            machine = x.machine;
            joined = x.joined;
            is = is ∙ ap (stint_after (λ m. stint (fetch words) rest m p others)) x.is;
            holds = record {
              naming = n;
              stands = x.stands;
              memory = kept (λ m. m.memory) (λ m es. refl) k p r x.machine x.joined x.is ∙ sym (ap (λ x. x.local.memory) e) ∙ sym same;
              is_taken = sym (ap (option_map n.name) free);
              is_ready = sym (x.ready ∙ ap (λ xs. map n.name xs ++ x.joined) same_ready);
            };
            system = kept (λ m. m.system) (λ m es. refl) k p r x.machine x.joined x.is ∙ sym (ap (λ x. x.system) e);
            turns = kept (λ m. m.turns) (λ m es. refl) k p r x.machine x.joined x.is ∙ sym (ap (λ x. x.turns) e) ∙ sym g.spent;
          },
          none_left k p r x.machine x.joined x.is,
        ),
        refl,
        λ i l. sym (same_live i) ∙ removed_slots (unmarked mid.table) new.table slot at_clear.table at_clear.taken pos removed i l,
        last x.machine x.joined x.is,
      )

  -- ---- a fork

  module _ (k : Machine) (b : mach.Activity) (ms : List Name) (f : Follows m k p (n.forks slot) ms b) (branches : List Branch) where
    abbrev fork_number : ℕ
    fork_number = suc b.forks

    abbrev forks_now : ℕ → ℕ
    forks_now i = if nat_eq i slot then suc (n.forks slot) else n.forks i

    abbrev naming_now : Naming
    naming_now = record n { forks = forks_now }

    abbrev waits : Process
    waits = waiting_for (length branches) (process_at mid.table slot) a

    abbrev table_now : Table
    table_now = with_process (unmarked mid.table) slot waits

    abbrev machine_now : Machine
    machine_now = back k p (activity_of now.local fork_number (mach.waiting (length branches))) [] now

    forks_here : forks_now slot ≡ suc (n.forks slot)
    forks_here = ap (λ x. if x then suc (n.forks slot) else n.forks slot) (eq-eqb slot slot refl)

    no_children : children_of (unmarked mid.table) slot ≡ 0
    no_children = childless (process_at mid.table slot).standing (children_of (unmarked mid.table) slot) at_clear.taken.going
        (at_clear.stands.awaits slot (taken_live (unmarked mid.table) slot at_clear.taken))

    stands_now : TableIsMachine table_now naming_now machine_now
    stands_now =
        one_changes (unmarked mid.table) table_now n forks_now (record m { marks = [] }) machine_now slot waits
        (record {
          stands = at_clear.stands;
          live = taken_live (unmarked mid.table) slot at_clear.taken;
          wide = at_clear.table.wide;
          processes = refl;
          parent = refl;
          lives = λ i. refl;
          free = refl;
          forks_here = omega (arith, forks_here);
          forks_there = λ i ne. ap (λ x. if x then suc (n.forks slot) else n.forks i) (ne_eqb i slot ne);
          found_here =
              find-with_at-same k.activities p (activity_of now.local fork_number (mach.waiting (length branches)))
              ∙ ap (λ x. Some (activity_of now.local x (mach.waiting (length branches)))) (ap suc f.forked ∙ sym forks_here);
          found_there = λ q ne. find-with_at-other k.activities p q (activity_of now.local fork_number (mach.waiting (length branches))) ne ∙ f.others q ne;
          named = names-with_at k.activities p (activity_of now.local fork_number (mach.waiting (length branches))) b f.found ∙ f.named;
          marks = λ i l. sym (unmarked_at 32 i);
          awaits = omega (arith, no_children);
        })

    -- no child of this fork is there yet
    fresh : (i q : ℕ) → is_live table_now i ≡ true → n.name i ≡ child p fork_number q → ⊥
    fresh zero q l h = child_not_first p fork_number q (sym h ∙ at_clear.stands.root)
    fresh (suc i) q l h =
        let o : Born (unmarked mid.table) n (suc i) = at_clear.stands.born (suc i) l (omega arith) in
        let par : ℕ = (process_at (unmarked mid.table) (suc i)).parent in
        let d : (n.name par ≡ p) × (o.fork ≡ fork_number) × (o.number ≡ q) = same_ends (n.name par) p o.fork o.number fork_number q (sym o.named ∙ h) in
        let x : par ≡ slot = at_clear.stands.apart par slot o.lives (taken_live (unmarked mid.table) slot at_clear.taken) d.0 in
        let y : n.forks par ≡ n.forks slot = ap n.forks x in
        let z : o.fork ≡ fork_number = d.1 in
        omega (arith, o.earlier, y, z, f.forked)

    begins : Starts slot a branches mid.store table_now naming_now machine_now fork_number
    begins = record {
      inside = at_clear.taken.inside;
      stood = record {
        table = written_table (unmarked mid.table) slot waits at_clear.table at_clear.taken.inside (at_clear.table.parents slot) g.ordered
            at_clear.taken.homeless;
        stands = stands_now;
        live = taken_live (unmarked mid.table) slot at_clear.taken;
        homeless = at_clear.taken.homeless;
        memory = refl;
        no_marks_left = refl;
        unmarked = refl;
        none_counted = refl;
      };
      none = where_same (is_child_of table_now slot) (is_child_of (unmarked mid.table) slot) 32
          (λ i _. ap (λ y. nat_lt 0 i && is_live mid.table i && nat_eq y slot) (same_parent i)) ∙ no_children;
      waiting = ap (λ y. y.standing) here;
      fork = omega (arith, forks_here, f.forked);
      fresh = fresh;
    }
      where
        here : process_at table_now slot ≡ waits
        here = at_set_same mid.table.processes slot waits (omega (arith, at_clear.table.wide, at_clear.taken.inside))

        same_parent : (i : ℕ) → (process_at table_now i).parent ≡ (process_at mid.table i).parent
        same_parent i = elim (cases_eq i slot) [
          | inl e ↦ ap (λ j. (process_at table_now j).parent) e ∙ ap (λ y. y.parent) here ∙ sym (ap (λ j. (process_at mid.table j).parent) e)
          | inr ne ↦ ap (λ y. y.parent) (at_set_other mid.table.processes slot i waits ne)
        ]

    -- the names behind the fork
    grows : (words : List ℕ) (x : Grown slot a branches mid.store table_now naming_now machine_now fork_number (length branches) words new.table) →
        NamesGrow fork_number (length branches) old.taken old.table new.table n x.naming
    grows words x = record {
      slot = slot;
      was = g.slot_is;
      next = ap suc f.forked;
      waits = x.waiting;
      fresh = λ i q l e. fresh i q (same_live i ∙ l) e;
      forked = x.forks slot (taken_live (unmarked mid.table) slot at_clear.taken) ∙ forks_here ∙ sym (ap suc f.forked);
      lives = λ i l. x.lives i (same_live i ∙ l);
      names = λ i l. x.names i (same_live i ∙ l);
      forks = λ i l ne. x.forks i (same_live i ∙ l) ∙ ap (λ b. if b then suc (n.forks slot) else n.forks i) (ne_eqb i slot ne);
      born = λ i absent l. subst (λ c. IsBorn p fork_number c new.table x.naming i) (ap length same_ready) (x.born i (same_live i ∙ absent) l);
    }

    pub forks : (steps rest : ℕ) → stint (fetch words) steps m p others ≡ stint_after (λ m. stint (fetch words) rest m p others)
        (at_turn k p others b (forking branches) now) →
        HaveBegun slot a branches mid.store table_now (length branches) new.store new.table → 0 < length branches →
        ((machine : Machine) (joined : List Name) → at_turn k p others b (forking branches) now ≡ went machine (joins joined)
        → EndsBy words new.failed m p others machine joined) →
        GoesBy words (stint_end.Forked used) left old n new t m p others
    forks steps rest is begun some last =
        let x : Grown slot a branches mid.store table_now naming_now machine_now fork_number (length branches) new.store new.table =
        grown slot a branches mid.store table_now naming_now machine_now fork_number begins (length branches) new.store new.table (omega arith) begun in
        let chain : x.machine ≡ with_children p fork_number 0 a.base a.end (share_in a branches) branches machine_now =
        ap (λ bs. with_children p fork_number (length branches) a.base (a.end + length branches * share_in a branches) (share_in a branches) bs x.machine)
        (sym (drop_all branches)) ∙ x.chain in (
          (
            record {
              steps = steps;
              machine = x.machine;
              joined = children p fork_number 0 (length branches);
              is = is ∙ ap (λ z. stints.switched z (children p fork_number 0 (length branches))) (sym chain);
              holds = record {
                naming = x.naming;
                stands = x.stood.stands;
                memory = x.stood.memory;
                is_taken = sym (ap (option_map x.naming.name) free);
                is_ready = sym (x.ready ∙ ap (λ xs. map n.name xs ++ children p fork_number 0 (length branches)) same_ready);
              };
              system = x.system;
              turns = x.turns ∙ sym g.spent;
            },
            record { fork = fork_number; number = length branches; some = some; are = refl },
          ),
          grows new.store x,
          last x.machine (children p fork_number 0 (length branches))
              (ap (λ z. went z (joins (children p fork_number 0 (length branches)))) (sym chain)),
        )
