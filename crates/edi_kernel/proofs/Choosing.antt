-- The next process is taken.
use Rattle.std.proofs.Common.{◌≡◌, ℕ, suc, ◌+◌, ◌-◌, ◌<◌, inl, inr, Bool, true, false, ◌&&◌, not, nat_eq, nat_lt, if◌then◌else◌, List, [], ◌∷◌, length, map}
use Rattle.std.proofs.Common.{Option, Some, None, refl, sym, ◌∙◌, ap, arith, subst, slice_index_or, eq-eqb, ◌^◌}
use Rattle.std.specs.Prelude.{◌%◌, slice_get, IfSome}
use Rattle.std.specs.Option.{option_map}
use Rattle.std.proofs.lemmas.Bool.{cases_eq, ne_eqb}
use Rattle.edi_calls.specs.Choice.{choice}
use Rattle.edi_calls.specs.Names.{Name}
use Rattle.edi_calls.specs.Ready.{child, name_at, without_index, taking, take_next}
use Rattle.edi_target.specs.Mach.{Machine}
use Rattle.edi_ring.specs.Lists.{list_at, home_of}
use Rattle.edi_ring.specs.Links.{IsAmong, NoneTwice}
use Rattle.edi_ring.proofs.Chain.{minus, minus_none, minus_here, minus_there}
use Rattle.edi_ring.proofs.Calls.{among_at}
use Rattle.edi_trace.specs.Drawn.{Drawn}
use Rattle.edi_machine.specs.Activities.{IsOrdered}
use Rattle.edi_kernel.specs.declared.state.KernelState.{KernelState}
use Rattle.edi_kernel.specs.declared.table.Table.{Table}
use Rattle.edi_kernel.specs.Table.{Withdraws, process_at, marked_at, ready_slots, free_slots, is_live, is_free_home, is_waiting, no_process}
use Rattle.edi_kernel.specs.TableIsMachine.{IsTable, IsTaken, IsBetween, Naming, Awaits, Born, TableIsMachine, entry_of, is_child_of, children_of, marked_among}
use Rattle.edi_kernel.specs.Kernel.{IsKernel, IsTakenIn, Holds}
use Rattle.edi_kernel.specs.Runs.{PicksBy, Picks, Chooses}
use Rattle.edi_kernel.specs.Named.{HoldsBy, ChoosesBy}
use Rattle.edi_kernel.proofs.Counts.{where_same, marked_same}
use Rattle.edi_kernel.proofs.Lists.{home_among, not_both, withdrawn_table}
use Rattle.edi_kernel.proofs.Sharing.{none_twice, list_without, others_named}

-- the marks among the slots, one of them taken out and put in front
marked_minus : (t : Table) (x : ℕ) (xs : List ℕ) → NoneTwice xs → IsAmong x xs → marked_among t (x ∷ minus x xs) ≡ marked_among t xs
marked_minus t x [] n h = absurd h
marked_minus t x (y ∷ xs) n (inl e) =
    ap (λ ys. marked_among t (x ∷ ys)) (minus_here x y xs e (λ i. n.0 (subst (λ z. IsAmong z xs) e i))) ∙ ap (λ z. marked_among t (z ∷ xs)) e
marked_minus t x (y ∷ xs) n (inr h) =
    ap (λ ys. marked_among t (x ∷ ys)) (minus_there x y xs (λ e. n.0 (subst (λ z. IsAmong z xs) e h)))
    ∙ swap (marked_at t x) (marked_at t y) (marked_among t (minus x xs))
    ∙ ap (λ k. if marked_at t y then suc k else k) (marked_minus t x xs n.1 h)
  where
    swap : (a b : Bool) (k : ℕ) → (if a then suc (if b then suc k else k) else (if b then suc k else k))
        ≡ (if b then suc (if a then suc k else k) else (if a then suc k else k))
    swap true true k = refl
    swap true false k = refl
    swap false true k = refl
    swap false false k = refl

module _ (t u : Table) (at x : ℕ) (s : IsTable t) (lt : x < 32) (was : slice_get (ready_slots t) at ≡ Some x) (w : Withdraws x t u) where
  among : IsAmong x (ready_slots t)
  among = among_at (ready_slots t) at x was

  ready_now : ready_slots u ≡ minus x (ready_slots t)
  ready_now = ap (λ ls. list_at ls 0) w.lists ∙ list_without t.lists 0 x

  home_was : home_of t.lists x ≡ Some 0
  home_was = home_among t 0 x s.sound (omega arith) among

  same_process : (i : ℕ) → process_at u i ≡ process_at t i
  same_process i = ap (λ xs. slice_index_or xs i no_process) w.processes

  pub chosen_taken : IsBetween t → IsTaken u x
  chosen_taken b = record {
    inside = lt;
    homeless = w.homes x ∙ ap (λ b. if b then None else home_of t.lists x) (eq-eqb x x refl);
    going = going (is_waiting (process_at t x).standing) refl;
    counted =
        w.marks ∙ b.counted ∙ sym (marked_minus t x (ready_slots t) (none_twice (ready_slots t) (s.sound.once 0)) among)
        ∙ ap (λ xs. marked_among t (x ∷ xs)) (sym ready_now) ∙ marked_same t u (x ∷ ready_slots u) (λ i h. ap (λ ms. slice_index_or ms i false) (sym w.marked));
  }
    where
      going : (b : Bool) → is_waiting (process_at t x).standing ≡ b → is_waiting (process_at u x).standing ≡ false
      going true e = absurd (some_none (home_of t.lists x) home_was (s.waiting x e))
        where
          some_none : (o : Option ℕ) → o ≡ Some 0 → o ≡ None → ⊥
          some_none None e f = let a : None ≡ Some 0 = e in absurd (cc)
          some_none (Some y) e f = let a : Some y ≡ None = f in absurd (cc)
      going false e = ap (λ y. is_waiting y.standing) (same_process x) ∙ e

  same_live : (i : ℕ) → is_live u i ≡ is_live t i
  same_live i = ap (λ b. nat_lt i 32 && not b) (elim (cases_eq i x) [
    | inl e ↦ ap (λ j. is_free_home (home_of u.lists j)) e ∙ ap is_free_home (w.homes x ∙ ap (λ b. if b then None else home_of t.lists x) (eq-eqb x x refl))
        ∙ sym (ap (λ j. is_free_home (home_of t.lists j)) e ∙ ap is_free_home home_was)
    | inr ne ↦ ap is_free_home (w.homes i ∙ ap (λ b. if b then None else home_of t.lists i) (ne_eqb i x ne))
  ])

  same_free : free_slots u ≡ free_slots t
  same_free =
      ap (λ ls. list_at ls 1) w.lists ∙ list_without t.lists 1 x
      ∙ minus_none x (free_slots t) (λ i. not_both (home_of t.lists x) home_was (home_among t 1 x s.sound (omega arith) i))

  pub chosen_stands : (n : Naming) (m : Machine) → TableIsMachine t n m → TableIsMachine u n m
  chosen_stands n m h = record {
    found = λ i l. h.found i (sym (same_live i) ∙ l) ∙ sym (ap (λ y. Some (entry_of y (n.forks i))) (same_process i));
    all = λ q a. let r : (i : ℕ) × (is_live t i ≡ true) × (q ≡ n.name i) = h.all q a in (r.0, same_live r.0 ∙ r.1, r.2);
    apart = λ i j l r e. h.apart i j (sym (same_live i) ∙ l) (sym (same_live j) ∙ r) e;
    once = h.once;
    count = omega (arith, h.count, ap length same_free);
    marks = λ i l. h.marks i (sym (same_live i) ∙ l) ∙ ap (λ ms. slice_index_or ms i false) (sym w.marked);
    root = h.root;
    born = λ i l pos.
        let b : Born t n i = h.born i (sym (same_live i) ∙ l) pos in
        let pa : (process_at u i).parent ≡ (process_at t i).parent = ap (λ y. y.parent) (same_process i) in
        record {
          lives = ap (is_live u) pa ∙ same_live (process_at t i).parent ∙ b.lives;
          fork = b.fork;
          number = b.number;
          named = b.named ∙ sym (ap (λ j. child (n.name j) b.fork b.number) pa);
          earlier = let e : n.forks (process_at u i).parent ≡ n.forks (process_at t i).parent = ap n.forks pa in omega (arith, e, b.earlier);
        };
    awaits = λ i l.
        subst (λ y. Awaits y.standing (children_of u i)) (sym (same_process i))
        (subst (λ c. Awaits (process_at t i).standing c)
        (sym (where_same (is_child_of u i) (is_child_of t i) 32
        (λ j _. ap (λ b. nat_lt 0 j && b && nat_eq (process_at u j).parent i) (same_live j) ∙ ap (λ y. nat_lt 0 j && is_live t j && nat_eq y.parent i)
        (same_process j))))
        (h.awaits i (sym (same_live i) ∙ l)));
  }

  pub chosen_named : (name : ℕ → Name) → (name_at (map name (ready_slots t)) at ≡ name x)
      × (map name (ready_slots u) ≡ without_index (map name (ready_slots t)) at)
  chosen_named name =
      let r : (name_at (map name (ready_slots t)) at ≡ name x) × (map name (minus x (ready_slots t)) ≡ without_index (map name (ready_slots t)) at) =
      others_named name (ready_slots t) at x (none_twice (ready_slots t) (s.sound.once 0)) was in
      (r.0, ap (map name) ready_now ∙ r.1)

-- the slot that is picked is that of the rule
picked : (old new : Drawn) (ready : List Name) (at : ℕ) → at < length ready → old.drawn < 2 ^ 64 - 1 → Picks (length ready) old at new →
    take_next old.source old.drawn ready ≡ taking (name_at ready at) (without_index ready at) new.drawn
picked old new [] at lt less h = absurd (omega arith)
picked old new (p ∷ []) at lt less h =
    let e : at ≡ 0 = h.0 in ap (λ d. taking p [] d) (sym (ap (λ x. x.drawn) h.1))
    ∙ sym (ap (λ i. taking (name_at (p ∷ []) i) (without_index (p ∷ []) i) new.drawn) e)
picked old new (p ∷ q ∷ ready) at lt less h =
    let more : nat_eq (length (p ∷ q ∷ ready)) 1 ≡ false = ne_eqb (length (p ∷ q ∷ ready)) 1 (λ e. omega (arith, e)) in
    let k : (at ≡ choice old.source (old.drawn + 1) % length (p ∷ q ∷ ready)) × (new ≡ record old { drawn = old.drawn + 1 }) =
    subst (λ b. PicksBy b (length (p ∷ q ∷ ready)) old at new) more h less in
    ap (λ i. taking (name_at (p ∷ q ∷ ready) i) (without_index (p ∷ q ∷ ready) i) (old.drawn + 1)) (sym k.0)
    ∙ ap (λ d. taking (name_at (p ∷ q ∷ ready) at) (without_index (p ∷ q ∷ ready) at) d) (sym (ap (λ x. x.drawn) k.1))

length-map : {X : Type 0} (f : ℕ → X) (xs : List ℕ) → length (map f xs) ≡ length xs
length-map f [] = refl
length-map f (x ∷ xs) = ap suc (length-map f xs)

module _ (old new : KernelState) (at x : ℕ) (before after : Drawn) (kernel : IsKernel old) (free : old.taken ≡ None) (lt : x < 32)
    (was : slice_get (ready_slots old.table) at ≡ Some x)
    (w : Withdraws x old.table new.table) (taken : new.taken ≡ Some x) (same : new.store ≡ old.store) (arrived : new.arrived ≡ old.arrived) where
  pub chosen_kernel : IsKernel new
  chosen_kernel = record {
    table = withdrawn_table old.table new.table x kernel.table w;
    taken = subst (IsTakenIn new.table) (sym taken)
        (chosen_taken old.table new.table at x kernel.table lt was w (subst (IsTakenIn old.table) free kernel.taken));
    arrived = subst (λ a. IfSome a IsOrdered) (sym arrived) kernel.arrived;
  }

  pub chooses : (ready : ℕ) → ready ≡ length (ready_slots old.table) → at < ready → Picks ready before at after → before.drawn < 2 ^ 64 - 1 →
      (m : Machine) (names : List Name) → Holds old m None names → Chooses new m before after names
  chooses ready e less pick drawn m names h =
      let many : ready ≡ length (map h.naming.name (ready_slots old.table)) = e ∙ sym (length-map h.naming.name (ready_slots old.table)) in
      let r : (name_at (map h.naming.name (ready_slots old.table)) at ≡ h.naming.name x)
      × (map h.naming.name (ready_slots new.table) ≡ without_index (map h.naming.name (ready_slots old.table)) at) =
      chosen_named old.table new.table at x kernel.table lt was w h.naming.name in
      record {
        name = h.naming.name x;
        others = map h.naming.name (ready_slots new.table);
        is =
            ap (take_next before.source before.drawn) h.is_ready
            ∙ picked before after (map h.naming.name (ready_slots old.table)) at (omega (arith, less, many)) drawn
            (subst (λ k. Picks k before at after) many pick)
            ∙ ap (λ p. taking p (without_index (map h.naming.name (ready_slots old.table)) at) after.drawn) r.0
            ∙ ap (λ ps. taking (h.naming.name x) ps after.drawn) (sym r.1);
        holds = record {
          naming = h.naming;
          stands = chosen_stands old.table new.table at x kernel.table lt was w h.naming m h.stands;
          memory = h.memory ∙ sym same;
          is_taken = sym (ap (option_map h.naming.name) taken);
          is_ready = refl;
        };
      }

  -- by the same names
  pub chooses_by : (ready : ℕ) → ready ≡ length (ready_slots old.table) → at < ready → Picks ready before at after → before.drawn < 2 ^ 64 - 1 →
      (n : Naming) (m : Machine) (names : List Name) → HoldsBy n old m None names → ChoosesBy n new m before after names
  unfolding chooses
  chooses_by ready e less pick drawn n m names h = (chooses ready e less pick drawn m names h.holds, h.by)
