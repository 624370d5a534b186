-- What the kernel does at a switch, and what the machine does.
use Rattle.std.proofs.Common.{◌≡◌, ℕ, suc, ◌+◌, ◌<◌, inl, inr, Bool, true, false, ◌||◌, nat_eq, if◌then◌else◌, List, [], ◌∷◌, ◌++◌, length, map, Option}
use Rattle.std.proofs.Common.{Some, None, refl, sym, ◌∙◌, ap, arith, slice_index_or, get_or-set_same, get_or-set_other, length-set}
use Rattle.std.specs.Prelude.{◌==◌}
use Rattle.std.proofs.lemmas.Bool.{cases_eq}
use Rattle.std.proofs.lemmas.List.{length_push}
use Rattle.edi_calls.specs.Names.{Name, same}
use Rattle.edi_calls.specs.Ready.{has, all_marked}
use Rattle.edi_calls.proofs.Tables.{same-refl, find-with_at-same, find-with_at-other}
use Rattle.edi_target.specs.Effect.{Local}
use Rattle.edi_target.specs.Mach as mach
use Rattle.edi_target.specs.Mach.{Machine, Running, Stepped, went, activity_of, back, awaits, one_less, notified, exited}
use Rattle.edi_ring.specs.Lists.{home_of}
use Rattle.edi_ring.specs.Links.{IsAmong}
use Rattle.edi_machine.specs.declared.activity.Activity.{Activity}
use Rattle.edi_machine.specs.Activities.{IsOrdered, local_of}
use Rattle.edi_kernel.specs.declared.table.Standing.{Standing}
use Rattle.edi_kernel.specs.declared.table.Standing.TheVariants as standing
use Rattle.edi_kernel.specs.declared.table.Table.{Table}
use Rattle.edi_kernel.specs.Table.{PutsProcess, at_its_when, going_by, process_at, marked_at, marked_with, ready_slots, is_live, is_free_home, is_waiting}
use Rattle.edi_kernel.specs.Table.{unmarked, with_process}
use Rattle.edi_kernel.specs.TableIsMachine.{IsTable, IsTaken, IsBetween, Naming, Awaits, Born, TableIsMachine, children_of, marked_among}
use Rattle.edi_kernel.proofs.Counts.{marked-append, marked_same, all_marked-among}
use Rattle.edi_kernel.specs.Kernel.{going_on}
use Rattle.edi_kernel.proofs.Changes.{at_set_same, one_changes, names_apart}
use Rattle.edi_kernel.proofs.Lists.{written_table, home_among, live_of_home, ready_live, put_list, put_other, put_lives, unmarked_at, none_marked}
use Rattle.edi_kernel.proofs.Walks.{Follows, names-with_at}

-- the process at a slot is taken
pub record At (t : Table) (n : Naming) (m : Machine) (slot : ℕ) : Type 0 where
  pub table : IsTable t
  pub taken : IsTaken t slot
  pub stands : TableIsMachine t n m

pub taken_live : (t : Table) (p : ℕ) → IsTaken t p → is_live t p ≡ true
taken_live t p k = live_of_home t p k.inside (ap is_free_home k.homeless)

none_some : (o : Option ℕ) (x : ℕ) → o ≡ None → o ≡ Some x → ⊥
none_some None x e f = cc
none_some (Some y) x e f = cc

-- a ready one is not the one that is taken
pub ready_other : (t : Table) (p i : ℕ) → IsTable t → IsTaken t p → IsAmong i (ready_slots t) → i ≡ p → ⊥
ready_other t p i s k h e = none_some (home_of t.lists p) 0 k.homeless (ap (home_of t.lists) (sym e) ∙ home_among t 0 i s.sound (omega arith) h)

-- the machine k is m but for the activity of p, also with other marks
pub follows_marks : (m k : Machine) (p : Name) (f : ℕ) (ms xs : List Name) (a : mach.Activity) → Follows m k p f ms a → Follows (record m { marks = xs }) k p
    f ms a
follows_marks m k p f ms xs a h = record { found = h.found; forked = h.forked; others = h.others; named = h.named; marks_are = h.marks_are }

-- ---- marks

pub unmarked_table : (t : Table) → IsTable t → IsTable (unmarked t)
unmarked_table t s = record {
  sound = s.sound;
  wide = s.wide;
  marked_wide = refl;
  parents = s.parents;
  ordered = s.ordered;
  clear = λ none. refl;
  root = s.root;
  waiting = s.waiting;
}

pub unmarked_taken : (t : Table) (p : ℕ) → IsTaken t p → IsTaken (unmarked t) p
unmarked_taken t p k = record { inside = k.inside; homeless = k.homeless; going = k.going; counted = sym (none_marked (unmarked t) (p ∷ ready_slots t) refl) }

pub unmarked_stands : (t : Table) (n : Naming) (m : Machine) → TableIsMachine t n m → TableIsMachine (unmarked t) n (record m { marks = [] })
unmarked_stands t n m s = record {
  found = s.found;
  all = s.all;
  apart = s.apart;
  once = s.once;
  count = s.count;
  marks = λ i l. sym (unmarked_at 32 i);
  root = s.root;
  born = λ i l h. let b : Born t n i = s.born i l h in record { lives = b.lives; fork = b.fork; number = b.number; named = b.named; earlier = b.earlier };
  awaits = s.awaits;
}

pub unmarked_at_slot : (t : Table) (n : Naming) (m : Machine) (p : ℕ) → At t n m p → At (unmarked t) n (record m { marks = [] }) p
unmarked_at_slot t n m p a = record { table = unmarked_table t a.table; taken = unmarked_taken t p a.taken; stands = unmarked_stands t n m a.stands }

pub marked_table : (t : Table) (p : ℕ) → IsTable t → IsTable (marked_with t p)
marked_table t p s = record {
  sound = s.sound;
  wide = s.wide;
  marked_wide = length-set t.marked p true ∙ s.marked_wide;
  parents = s.parents;
  ordered = s.ordered;
  clear = λ none. absurd (some (marked_at t p) refl none);
  root = s.root;
  waiting = s.waiting;
}
  where
    some : (b : Bool) → marked_at t p ≡ b → (if b then t.marks else t.marks + 1) ≡ 0 → ⊥
    some true is none = let no : false ≡ true = sym (ap (λ ms. slice_index_or ms p false) (s.clear none) ∙ unmarked_at 32 p) ∙ is in absurd (cc)
    some false is none = omega (arith, none)

mark_there : (t : Table) (p i : ℕ) → (i ≡ p → ⊥) → marked_at (marked_with t p) i ≡ marked_at t i
mark_there t p i ne = get_or-set_other t.marked p i true false ne

mark_here : (t : Table) (p : ℕ) → p < length t.marked → marked_at (marked_with t p) p ≡ true
mark_here t p h = get_or-set_same t.marked p true false h

pub marked_taken : (t : Table) (p : ℕ) → IsTable t → IsTaken t p → IsTaken (marked_with t p) p
marked_taken t p s k = record {
  inside = k.inside;
  homeless = k.homeless;
  going = k.going;
  counted =
      go (marked_at t p) k.counted
      ∙ ap suc (sym (marked_same (marked_with t p) t (ready_slots t) (λ i h. mark_there t p i (ready_other t p i s k h))))
      ∙ sym (ap (λ b. if b then suc (marked_among (marked_with t p) (ready_slots t)) else marked_among (marked_with t p) (ready_slots t))
      (mark_here t p (omega (arith, s.marked_wide, k.inside))));
}
  where
    go : (b : Bool) → t.marks ≡ (if b then suc (marked_among t (ready_slots t)) else marked_among t (ready_slots t)) → (if b then t.marks else t.marks + 1)
        ≡ suc (marked_among t (ready_slots t))
    go true e = e
    go false e = omega (arith, e)

pub marked_stands : (t : Table) (n : Naming) (m : Machine) (p : ℕ) → At t n m p → TableIsMachine (marked_with t p) n (record m { marks = n.name p ∷ m.marks })
marked_stands t n m p a = record {
  found = a.stands.found;
  all = a.stands.all;
  apart = a.stands.apart;
  once = a.stands.once;
  count = a.stands.count;
  marks = λ i l. elim (cases_eq i p) [
    | inl e ↦
        ap (λ j. same (n.name j) (n.name p) || has m.marks (n.name j)) e ∙ ap (λ b. b || has m.marks (n.name p)) (same-refl (n.name p))
        ∙ sym (ap (marked_at (marked_with t p)) e ∙ mark_here t p (omega (arith, a.table.marked_wide, a.taken.inside)))
    | inr ne ↦
        ap (λ b. b || has m.marks (n.name i)) (names_apart t n m a.stands i p l (taken_live t p a.taken) ne) ∙ a.stands.marks i l ∙ sym (mark_there t p i ne)
  ];
  root = a.stands.root;
  born = λ i l h. let b : Born t n i = a.stands.born i l h in
      record { lives = b.lives; fork = b.fork; number = b.number; named = b.named; earlier = b.earlier };
  awaits = a.stands.awaits;
}

pub marked_at_slot : (t : Table) (n : Naming) (m : Machine) (p : ℕ) → At t n m p → At (marked_with t p) n (record m { marks = n.name p ∷ m.marks }) p
marked_at_slot t n m p a = record { table = marked_table t p a.table; taken = marked_taken t p a.table a.taken; stands = marked_stands t n m p a }

-- who does not wait has no children
pub childless : (s : Standing) (c : ℕ) → is_waiting s ≡ false → Awaits s c → c ≡ 0
childless standing.Ready c w h = h
childless standing.AtWhen c w h = h
childless (standing.Waiting x) c w h = absurd (cc)

-- ---- a process stands at its `when`

module _ (t u : Table) (slot : ℕ) (act : Activity) (table : IsTable t) (taken : IsTaken t slot)
    (put : PutsProcess 0 slot (at_its_when (process_at t slot) act) t u) where
  pub stood_ready : ready_slots u ≡ ready_slots t ++ slot ∷ []
  stood_ready = put_list t u 0 slot (at_its_when (process_at t slot) act) put table.sound (omega arith)

  pub stood_between : IsBetween u
  stood_between = record {
    counted =
        put.marks ∙ taken.counted ∙ go (marked_at t slot) ∙ sym (marked-append t (ready_slots t) (slot ∷ []))
        ∙ ap (marked_among t) (sym stood_ready) ∙ marked_same t u (ready_slots u) (λ i h. ap (λ ms. slice_index_or ms i false) (sym put.marked));
  }
    where
      go : (b : Bool) → (if b then suc (marked_among t (ready_slots t)) else marked_among t (ready_slots t)) ≡ marked_among t (ready_slots t) +
          (if b then 1 else 0)
      go true = omega arith
      go false = omega arith

  module _ (n : Naming) (m k : Machine) (a : mach.Activity) (ms xs : List Name) (r : Running) (store : List ℕ) where
    pub stood : TableIsMachine t n m → Follows m k (n.name slot) (n.forks slot) xs a → ms ≡ m.marks → r.local ≡ local_of store act →
        TableIsMachine u n (back k (n.name slot) (activity_of r.local a.forks mach.at_when) ms r)
    stood s f e l =
        one_changes t u n n.forks m (back k (n.name slot) (activity_of r.local a.forks mach.at_when) ms r) slot (at_its_when (process_at t slot) act)
        (record {
          stands = s;
          live = taken_live t slot taken;
          wide = table.wide;
          processes = put.processes;
          parent = refl;
          lives = put_lives t u slot (at_its_when (process_at t slot) act) put taken.homeless;
          free = ap length (put_other t u 0 slot (at_its_when (process_at t slot) act) put table.sound (omega arith) 1 (λ e. omega (arith, e)));
          forks_here = omega arith;
          forks_there = λ i ne. refl;
          found_here = find-with_at-same k.activities (n.name slot) (activity_of r.local a.forks mach.at_when)
              ∙ ap (λ x. Some (activity_of x a.forks mach.at_when)) l ∙ ap (λ x. Some (activity_of (local_of store act) x mach.at_when)) f.forked;
          found_there = λ q ne. find-with_at-other k.activities (n.name slot) q (activity_of r.local a.forks mach.at_when) ne ∙ f.others q ne;
          named = names-with_at k.activities (n.name slot) (activity_of r.local a.forks mach.at_when) a f.found ∙ f.named;
          marks = λ i h. ap (λ ys. has ys (n.name i)) e ∙ s.marks i h ∙ ap (λ ys. slice_index_or ys i false) (sym put.marked);
          awaits = childless (process_at t slot).standing (children_of t slot) taken.going (s.awaits slot (taken_live t slot taken));
        })

-- ---- a process that is still taken goes on by another activity

module _ (t : Table) (slot : ℕ) (act : Activity) (table : IsTable t) (taken : IsTaken t slot) where
  abbrev pub going_table : Table
  going_table = with_process t slot (going_by (process_at t slot) act)

  pub gone_table : IsOrdered act → IsTable going_table
  gone_table ordered = written_table t slot (going_by (process_at t slot) act) table taken.inside (table.parents slot) ordered taken.homeless

  pub gone_taken : IsTaken going_table slot
  gone_taken = record {
    inside = taken.inside;
    homeless = taken.homeless;
    going = ap (λ x. is_waiting x.standing)
        (at_set_same t.processes slot (going_by (process_at t slot) act) (omega (arith, table.wide, taken.inside)));
    counted = taken.counted ∙ marked_same t going_table (slot ∷ ready_slots t) (λ i h. refl);
  }

  module _ (n : Naming) (m k : Machine) (a : mach.Activity) (xs : List Name) (l : Local) (store : List ℕ) where
    pub gone_stands : TableIsMachine t n m → Follows m k (n.name slot) (n.forks slot) xs a → m.marks ≡ [] → l ≡ local_of store act →
        TableIsMachine going_table n (going_on k (n.name slot) l a.forks)
    gone_stands s f none e =
        one_changes t going_table n n.forks m (going_on k (n.name slot) l a.forks) slot (going_by (process_at t slot) act)
        (record {
          stands = s;
          live = taken_live t slot taken;
          wide = table.wide;
          processes = refl;
          parent = refl;
          lives = λ i. refl;
          free = refl;
          forks_here = omega arith;
          forks_there = λ i ne. refl;
          found_here = find-with_at-same k.activities (n.name slot) (activity_of l a.forks mach.ready)
              ∙ ap (λ x. Some (activity_of x a.forks mach.ready)) e ∙ ap (λ x. Some (activity_of (local_of store act) x mach.ready)) f.forked;
          found_there = λ q ne. find-with_at-other k.activities (n.name slot) q (activity_of l a.forks mach.ready) ne ∙ f.others q ne;
          named = names-with_at k.activities (n.name slot) (activity_of l a.forks mach.ready) a f.found ∙ f.named;
          marks = λ i h. ap (λ ys. has ys (n.name i)) (sym none) ∙ s.marks i h;
          awaits = childless (process_at t slot).standing (children_of t slot) taken.going (s.awaits slot (taken_live t slot taken));
        })

-- all that are ready are marked exactly where as many are
pub all_ready : (t : Table) (n : Naming) (m : Machine) (p : ℕ) → At t n m p → (u : Table) → ready_slots u ≡ ready_slots t ++ p ∷ [] →
    (t.marks == length (ready_slots u)) ≡ all_marked m.marks (n.name p ∷ map n.name (ready_slots t))
all_ready t n m p a u e =
    ap (λ x. nat_eq x (length (ready_slots u))) a.taken.counted ∙ ap (nat_eq (marked_among t (p ∷ ready_slots t)))
    (ap length e ∙ length_push (ready_slots t) p ∙ one (length (ready_slots t)))
    ∙ sym (all_marked-among t m.marks n.name (p ∷ ready_slots t) (λ i h. a.stands.marks i (live i h)))
  where
    one : (x : ℕ) → x + 1 ≡ suc x
    one x = omega arith

    live : (i : ℕ) → IsAmong i (p ∷ ready_slots t) → is_live t i ≡ true
    live i (inl h) = ap (is_live t) h ∙ taken_live t p a.taken
    live i (inr h) = ready_live t i a.table.sound h
