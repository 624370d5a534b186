-- In every state that permitted steps reach, what cells and static parents mean lives.
use Rattle.std.proofs.Common.{◌≡◌, ℕ, zero, suc, ◌-◌, ◌<◌, ◌≤◌, ◌⊎◌, inl, inr, false, true, List, [], ◌∷◌, map, length, Option, Some, None, refl, sym, subst}
use Rattle.std.proofs.Common.{ap, ◌∙◌, arith}
use Rattle.std.specs.Prelude.{⊤}
use Rattle.edi_calls.specs.State.{State}
use Rattle.edi_calls.specs.Names.{Name, Table, same, find, with_at, without}
use Rattle.edi_calls.specs.Ready.{child, parent_of}
use Rattle.edi_calls.proofs.Tables.{same-refl, same-or-other, same-symmetric, find-with_at-same, find-with_at-other, find-without-same, find-without-other}
use Rattle.edi_unit.specs.Need.{block_at}
use Rattle.edi_unit.specs.Tree.{ProgramUnit}
use Rattle.edi_meaning.specs.Store.{Spot, system_procedure, procedure, Instance, Store, Shape, instances, frames, shape, now, ancestor, Owns, IsLive, above}
use Rattle.edi_meaning.specs.Evaluation.{World, Evaluation, gives, ends, turn_from}
use Rattle.edi_meaning.specs.Whole.{instance_of}
use Rattle.edi_meaning.specs.Step.{Work, program_entry, branch_end, body_of, Standing, ready, at_when, waiting, Asks, goes, Process, Processes, Stepped}
use Rattle.edi_meaning.specs.Step.{went, ended, back, child_process, with_child, with_children, fork_taken, awaits, local_step, kernel, step_of, step, start}
use Rattle.edi_meaning.specs.Permitted.{is_running, at, permitted}
use Rattle.edi_meaning.specs.Laws.{IsWaiting, CellMeans, ReferencesLive}
use Rattle.edi_meaning.proofs.Lasting.{Gives, Keeps}
use Rattle.edi_meaning.proofs.Kernel.{Handles, kernel_handles, of_process, After, permitted_keep}
use Rattle.edi_calls.proofs.Names.{some_is, no_some, same_ends}
use Rattle.edi_meaning.proofs.Own.{owns_first, owns_parent, new_cells_fit, instances-same, instances-other, instances-gone, instances-left}
use Rattle.edi_meaning.proofs.Frames.{own_shape, framing, Steps, local_steps}
use Rattle.edi_meaning.proofs.Family.{free_name, free_next}
use Rattle.edi_meaning.proofs.Parents.{child_differs, Family, waiting_does_not_run}
use Rattle.edi_meaning.proofs.Private.{no_frames, none_before}
use Rattle.edi_meaning.proofs.Waiting.{WithFamily, step_both, start_with}
use Rattle.edi_meaning.proofs.References.{InstancesMean, Refers, nothing_dangles}
use Rattle.edi_meaning.proofs.Living.{NoFewer, instances_more, refers_with, refers_less, Alone, begun_refers, local_refers}
use Rattle.edi_meaning.proofs.Due.{Due, DueAs, DueAsks, due_some, due_all, due_awaits, local_due}

-- ---- ancestors wait

-- each ancestor of a live process is the process or waits
pub waiting_ancestor : (live : Table Process) → Family live → (r : Name) (q : Process) → find live r ≡ Some q → (n : ℕ) → (ancestor n r ≡ r)
    ⊎ IsWaiting live (ancestor n r)
waiting_ancestor live f r q e zero = inl refl
waiting_ancestor live f r q e (suc n) = elim (waiting_ancestor live f r q e n) [
  | inl same ↦ elim (f.parents r q e) [
    | inl first ↦ inl (ap parent_of same ∙ ap parent_of first ∙ sym first)
    | inr w ↦ inr (subst (IsWaiting live) (sym (ap parent_of same)) w)
  ]
  | inr w ↦ elim (f.parents (ancestor n r) w.process w.found) [
    | inl first ↦ inr (subst (IsWaiting live) (first ∙ sym (ap parent_of first)) w)
    | inr up ↦ inr up
  ]
]

pub owner_waits : (live : Table Process) → Family live → (r p : Name) (q : Process) → find live r ≡ Some q → same r p ≡ false → Owns r p → IsWaiting live p
owner_waits live f r p q e n o = elim (waiting_ancestor live f r q e o.generation) [
  | inl same ↦ absurd (not_other (o.is ∙ same) n)
  | inr w ↦ subst (IsWaiting live) (sym o.is) w
]
  where
    not_other : p ≡ r → same r p ≡ false → ⊥
    not_other h n = let a : true ≡ false = sym (same-refl r) ∙ sym (ap (same r) h) ∙ n in absurd (cc)

-- ---- what every state keeps

pub record Coherent (s : Processes) : Type 0 where
  pub family : WithFamily s
  pub due : (r : Name) (q : Process) → find s.live r ≡ Some q → DueAs r q.standing q.work (length (shape s.world.store r))
  pub refers : Refers (shape s.world.store) s.world.store

pub record Lives (s : Processes) : Type 0 where
  pub due : (r : Name) (q : Process) → find s.live r ≡ Some q → DueAs r q.standing q.work (length (shape s.world.store r))
  pub refers : Refers (shape s.world.store) s.world.store

-- ---- children

module _ (unit : ProgramUnit) (p : Name) (f share : ℕ) (parent : Spot) (mine : parent.0 ≡ p) where
  record Nursing (k : ℕ) (s : Processes) : Type 0 where
    lives : Lives s
    parent_lives : IsLive (shape s.world.store) parent
    bare : (j : ℕ) → k ≤ j → instances s.world.store (child p f j) ≡ []

  module _ (k b : ℕ) (s : Processes) (n : Nursing k s) where
    abbrev c : Name
    c = child p f k

    abbrev i : Instance
    i = instance_of unit c share b parent []

    abbrev after : Store
    after = with_at s.world.store c (i ∷ [])

    abbrev F : Shape
    F = shape s.world.store

    abbrev G : Shape
    G = shape after

    one : length (G c) ≡ 1
    one = ap (λ is. length (frames is)) (instances-same s.world.store c (i ∷ []))

    others : (r : Name) → same r c ≡ false → G r ≡ F r
    others r m = ap frames (instances-other s.world.store c r (i ∷ []) m)

    more : NoFewer F G
    more r = go (same-or-other r c)
      where
        go : (r ≡ c) ⊎ (same r c ≡ false) → length (F r) ≤ length (G r)
        go (inl e) = omega (arith, ap (λ x. length (F x)) e, ap (λ is. length (frames is)) (n.bare k (omega arith)))
        go (inr m) = omega (arith, ap length (others r m))

    parent_apart : same parent.0 c ≡ false
    parent_apart = ap (λ x. same x c) mine ∙ same-symmetric c p (child_differs p f k)

    child_refers : Refers G after
    child_refers =
        refers_with G s.world.store c (i ∷ []) (own_shape after) (
          record {
            parent = record {
              live = omega (arith, n.parent_lives, more parent.0);
              older = above parent_apart (subst (Owns c) (sym mine) (owns_parent p f k));
            };
            cells = new_cells_fit (CellMeans G (c, 0)) (λ v. tt) unit c share b parent [] tt;
          },
          tt,
        )
        (λ r m. instances_more F G more r (instances s.world.store r) (n.lives.refers.each r))

    child_due : (r : Name) (q : Process) → find (with_at s.live c (child_process unit share b)) r ≡ Some q → DueAs r q.standing q.work (length (G r))
    child_due r q e = go (same-or-other r c)
      where
        go : (r ≡ c) ⊎ (same r c ≡ false) → DueAs r q.standing q.work (length (G r))
        go (inl h) =
            let is : child_process unit share b ≡ q = some_is
            (sym (find-with_at-same s.live c (child_process unit share b)) ∙ sym (ap (find (with_at s.live c (child_process unit share b))) h) ∙ e) in
            subst (λ x. DueAs r x.standing x.work (length (G r))) is
            (subst (Due r (body_of unit b (branch_end ∷ []))) (sym (ap (λ x. length (G x)) h ∙ one))
            (due_all r (block_at unit.blocks b).body _ 0 (branch_end ∷ []) 1 (omega arith) (omega arith)))
        go (inr m) = subst (λ l. DueAs r q.standing q.work (length l)) (sym (others r m))
            (n.lives.due r q (sym (find-with_at-other s.live c r (child_process unit share b) m) ∙ e))

    later_bare : (j : ℕ) → suc k ≤ j → instances after (child p f j) ≡ []
    later_bare j le = go (same-or-other (child p f j) c)
      where
        go : (child p f j ≡ c) ⊎ (same (child p f j) c ≡ false) → instances after (child p f j) ≡ []
        go (inl e) = let ends : (p ≡ p) × (f ≡ f) × (j ≡ k) = same_ends p p f j f k e in let q : j ≡ k = ends.2 in absurd (omega arith)
        go (inr m) = instances-other s.world.store c (child p f j) (i ∷ []) m ∙ n.bare j (omega arith)

    nursed : Nursing (suc k) (with_child unit (child p f k) share parent b s)
    nursed = record {
      lives = record { due = child_due; refers = child_refers };
      parent_lives = omega (arith, n.parent_lives, more parent.0);
      bare = later_bare;
    }

  children_live : (bs : List ℕ) (k : ℕ) (s : Processes) → Nursing k s → Lives (with_children unit p f k share parent bs s)
  children_live [] k s n = n.lives
  children_live (b ∷ bs) k s n = children_live bs (suc k) (with_child unit (child p f k) share parent b s) (nursed k b s n)

-- ---- a step

-- what a local step of p leaves
record Did (before : Store) (p : Name) (a : Asks) (w : World) : Type 0 where
  refers : Refers (shape w.store) w.store
  due : DueAsks p a w
  steps : Steps p before w.store

module _ (unit : ProgramUnit) (s : Processes) (p : Name) (q : Process) (found : find s.live p ≡ Some q) (runs : is_running q.standing ≡ true)
    (coherent : Coherent s) where
  -- whoever has an instance is live
  live_of : (r : Name) → 0 < length (shape s.world.store r) → (x : Process) × (find s.live r ≡ Some x)
  live_of r l = go (find s.live r) refl
    where
      go : (x : Option Process) → find s.live r ≡ x → (x : Process) × (find s.live r ≡ Some x)
      go None e = absurd (omega (arith, l, ap (λ is. length (frames is)) (coherent.family.proper.bare r e)))
      go (Some x) e = (x, e)

  pub alone_now : Alone p (shape s.world.store)
  alone_now r l n o =
      let x : (x : Process) × (find s.live r ≡ Some x) = live_of r l in
      let w : IsWaiting s.live p = owner_waits s.live coherent.family.family r p x.0 x.1 n o in
      waiting_does_not_run q.standing w.number runs (ap (λ y. y.standing) (some_is (sym found ∙ w.found)) ∙ w.standing)

  waits_some : (r : Name) → IsWaiting s.live r → 0 < length (shape s.world.store r)
  waits_some r w =
      let d : DueAs r w.process.standing w.process.work (length (shape s.world.store r)) = coherent.due r w.process w.found in
      (subst (λ x. DueAs r x w.process.work (length (shape s.world.store r))) w.standing d).0

  first_now : (p ≡ []) ⊎ (0 < length (shape s.world.store []))
  first_now = go (same-or-other [] p)
    where
      go : ([] ≡ p) ⊎ (same [] p ≡ false) → (p ≡ []) ⊎ (0 < length (shape s.world.store []))
      go (inl e) = inl (sym e)
      go (inr n) = inr (waits_some [] (owner_waits s.live coherent.family.family p [] q found (same-symmetric [] p n) (owns_first p)))

  -- the others have the instances that they had
  other_due : (w : World) → Steps p s.world.store w.store → (live : Table Process)
      → ((r : Name) (x : Process) → same r p ≡ false → find live r ≡ Some x → find s.live r ≡ Some x) → (r : Name) (x : Process) → same r p ≡ false
      → find live r ≡ Some x → DueAs r x.standing x.work (length (shape w.store r))
  other_due w t live was r x n e = subst (λ l. DueAs r x.standing x.work (length l)) (sym (t.others r n)) (coherent.due r x (was r x n e))

  back_lives : (q' : Process) (w : World) → Refers (shape w.store) w.store → Steps p s.world.store w.store
      → DueAs p q'.standing q'.work (length (shape w.store p)) → Lives (back s p q' w)
  back_lives q' w refers t due = record { due = λ r x e. go r x e (same-or-other r p); refers = refers }
    where
      go : (r : Name) (x : Process) → find (with_at s.live p q') r ≡ Some x → (r ≡ p) ⊎ (same r p ≡ false)
          → DueAs r x.standing x.work (length (shape w.store r))
      go r x e (inl h) =
          let is : q' ≡ x = some_is (sym (find-with_at-same s.live p q') ∙ sym (ap (find (with_at s.live p q')) h) ∙ e) in
          subst (λ y. DueAs r y.standing y.work (length (shape w.store r))) is (subst (λ y. DueAs y q'.standing q'.work (length (shape w.store y))) (sym h) due)
      go r x e (inr n) = other_due w t (with_at s.live p q') (λ r x n e. sym (find-with_at-other s.live p r q' n) ∙ e) r x n e

  fork_lives : (bs : List ℕ) (work : List Work) (w : World) (n share : ℕ) → Refers (shape w.store) w.store → Steps p s.world.store w.store
      → (0 < length (shape w.store p)) × Due p work (length (shape w.store p)) → After Lives (fork_taken unit s p q bs work w (suc n) share)
  fork_lives bs work w n share refers t due =
      children_live unit p (suc q.forks) share (now (shape w.store) p) refl bs 0 s1
      (record { lives = back_lives q' (record w { turns = n }) refers t due; parent_lives = omega (arith, due.0); bare = λ j le. bare j })
    where
      q' : Process
      q' = record q { forks = suc q.forks; work = work; standing = waiting (length bs) }

      s1 : Processes
      s1 = back s p q' (record w { turns = n })

      -- the names of the children are free
      bare : (j : ℕ) → instances w.store (child p (suc q.forks) j) ≡ []
      bare j =
          let free : find s.live (child p (suc q.forks) j) ≡ None = none_before s.live p q' (child p (suc q.forks) j)
          (free_name (with_at s.live p q') p (suc q.forks) 0 j (omega arith) (free_next s.live p q q' found coherent.family.proper.fresh)) in
          no_frames (instances w.store (child p (suc q.forks) j))
          (t.others (child p (suc q.forks) j) (child_differs p (suc q.forks) j) ∙ ap frames (coherent.family.proper.bare (child p (suc q.forks) j) free))

  -- p and its instances go
  gone_refers : (w : World) → Refers (shape w.store) w.store → Steps p s.world.store w.store → Refers (shape (without w.store p)) (without w.store p)
  gone_refers w refers t = refers_less (shape w.store) (shape (without w.store p)) (without w.store p) p alone (own_shape (without w.store p)) each others fewer
    where
      alone : Alone p (shape w.store)
      alone r l n o = alone_now r (omega (arith, l, ap length (t.others r n))) n o

      each : (r : Name) → InstancesMean (shape w.store) r 0 (instances (without w.store p) r)
      each r = elim (same-or-other r p) [
        | inl e ↦ subst (InstancesMean (shape w.store) r 0) (sym (ap (instances (without w.store p)) e ∙ instances-gone w.store p)) tt
        | inr n ↦ subst (InstancesMean (shape w.store) r 0) (sym (instances-left w.store p r n)) (refers.each r)
      ]

      others : (r : Name) → same r p ≡ false → length (shape (without w.store p) r) ≡ length (shape w.store r)
      others r n = ap (λ is. length (frames is)) (instances-left w.store p r n)

      fewer : length (shape (without w.store p) p) ≤ length (shape w.store p)
      fewer = omega (arith, ap (λ is. length (frames is)) (instances-gone w.store p))

  left_due : (w : World) → Steps p s.world.store w.store → (r : Name) (x : Process) → find (without s.live p) r ≡ Some x
      → DueAs r x.standing x.work (length (shape (without w.store p) r))
  left_due w t r x e = go (same-or-other r p)
    where
      go : (r ≡ p) ⊎ (same r p ≡ false) → DueAs r x.standing x.work (length (shape (without w.store p) r))
      go (inl h) = absurd (no_some (find (without s.live p) r) (ap (find (without s.live p)) h ∙ find-without-same s.live p) e)
      go (inr n) =
          subst (λ is. DueAs r x.standing x.work (length (frames is))) (sym (instances-left w.store p r n))
          (other_due w t (without s.live p) (λ r x n e. sym (find-without-other s.live p r n) ∙ e) r x n e)

  awaited_due : (w : World) (y : Process) (n : ℕ) → find (without s.live p) (parent_of p) ≡ Some y → y.standing ≡ waiting n → Steps p s.world.store w.store →
      (r : Name) (x : Process) → find (with_at (without s.live p) (parent_of p) (record y { standing = awaits (n - 1) })) r ≡ Some x
      → DueAs r x.standing x.work (length (shape (without w.store p) r))
  awaited_due w y n e g t r x h = go (same-or-other r (parent_of p))
    where
      y' : Process
      y' = record y { standing = awaits (n - 1) }

      mine : DueAs (parent_of p) (awaits (n - 1)) y.work (length (shape (without w.store p) (parent_of p)))
      mine = due_awaits (parent_of p) y.work (length (shape (without w.store p) (parent_of p))) (n - 1)
          (subst (λ z. DueAs (parent_of p) z y.work (length (shape (without w.store p) (parent_of p)))) g (left_due w t (parent_of p) y e))

      go : (r ≡ parent_of p) ⊎ (same r (parent_of p) ≡ false) → DueAs r x.standing x.work (length (shape (without w.store p) r))
      go (inl k) =
          let is : y' ≡ x = some_is (sym (find-with_at-same (without s.live p) (parent_of p) y')
          ∙ sym (ap (find (with_at (without s.live p) (parent_of p) y')) k) ∙ h) in
          subst (λ z. DueAs r z.standing z.work (length (shape (without w.store p) r))) is
          (subst (λ z. DueAs z (awaits (n - 1)) y.work (length (shape (without w.store p) z))) (sym k) mine)
      go (inr m) = left_due w t r x (sym (find-with_at-other (without s.live p) (parent_of p) r y' m) ∙ h)

  living_on : Handles unit s p q (Did s.world.store p) (λ ending system turns. ⊤) (After Lives)
  living_on = record {
    of_end = λ ending system turns h. tt;
    of_goes = λ work w h. back_lives (record q { work = work; standing = ready }) w h.refers h.steps h.due;
    of_arrives = λ cs position work w h. back_lives (record q { work = work; standing = at_when cs position }) w h.refers h.steps h.due;
    of_again = λ cs position quiet work w h. back_lives (record q { work = work; standing = at_when cs position }) w h.refers h.steps h.due;
    of_no_fork = λ bs line work w ending o h. tt;
    of_fork = λ bs line work w n share e h. fork_lives bs work w n share h.refers h.steps h.due;
    of_leaves = λ w k h. record { due = left_due w h.steps; refers = gone_refers w h.refers h.steps };
    of_awaited = λ w y n e g h. record { due = awaited_due w y n e g h.steps; refers = gone_refers w h.refers h.steps };
  }

  -- the program's entry, where no process has an instance
  entered_first : (n : ℕ) (work : List Work) (w : World) → p ≡ [] → Refers (shape w.store) w.store → Alone p (shape w.store) →
      Gives (λ a v. Refers (shape v.store) v.store) (λ ending system turns. ⊤)
      (turn_from n w (λ w. gives (goes (body_of unit unit.program work))
      (record w { store = with_at w.store p (instance_of unit p q.size unit.program ([], 0) (map (λ n. procedure (system_procedure n)) unit.calls) ∷ []) })))
  entered_first zero work w e h a = tt
  entered_first (suc n) work w e h a = begun_refers unit p q.size (shape w.store) w.store h a (inl e)

  local_lives : (standing : Standing) (work : List Work) → DueAs p standing work (length (shape s.world.store p))
      → Gives (λ a v. Refers (shape v.store) v.store) (λ ending system turns. ⊤) (local_step unit p q.size standing work s.world)
  local_lives standing work d = go standing work d (some standing work d)
    where
      some : (standing : Standing) (work : List Work) → DueAs p standing work (length (shape s.world.store p)) → (0 < length (shape s.world.store p))
          ⊎ ((rest : List Work) × (standing ≡ ready) × (work ≡ program_entry ∷ rest) × (p ≡ []))
      some ready work d = elim (due_some p work (length (shape s.world.store p)) d) [ inl l ↦ inl l | inr e ↦ inr (e.0, refl, e.1, e.2) ]
      some (at_when cs position) work d = inl d.0
      some (waiting n) work d = inl d.0

      first : 0 < length (shape s.world.store p) → (p ≡ []) ⊎ (0 < length (shape s.world.store [])) → 0 < length (shape s.world.store [])
      first l (inl e) = subst (λ x. 0 < length (shape s.world.store x)) e l
      first l (inr h) = h

      go : (standing : Standing) (work : List Work) → DueAs p standing work (length (shape s.world.store p)) → (0 < length (shape s.world.store p))
          ⊎ ((rest : List Work) × (standing ≡ ready) × (work ≡ program_entry ∷ rest) × (p ≡ [])) →
          Gives (λ a v. Refers (shape v.store) v.store) (λ ending system turns. ⊤) (local_step unit p q.size standing work s.world)
      go standing work d (inl l) = (local_refers unit p q.size standing work s.world (record { some = l; alone = alone_now; first = first l first_now })
          coherent.refers).is
      go standing work d (inr e) =
          let P : Standing → List Work → Type 0 = λ x y. Gives (λ a v. Refers (shape v.store) v.store) (λ ending system turns. ⊤)
          (local_step unit p q.size x y s.world) in
          subst (λ x. P x work) (sym e.1) (subst (P ready) (sym e.2) (entered_first s.world.turns e.0 s.world e.3 coherent.refers alone_now))

  all_did : (r : Evaluation Asks) → Gives (λ a v. Refers (shape v.store) v.store) (λ ending system turns. ⊤) r → Keeps (framing unit p q.size) (DueAsks p) r
      → Keeps (framing unit p q.size) (λ a v. Steps p s.world.store v.store) r →
      Gives (Did s.world.store p) (λ ending system turns. ⊤) r
  all_did (gives a w) h k l = record { refers = h; due = k.is; steps = l.is }
  all_did (ends ending system turns) h k l = tt

  running_lives : After Lives (kernel unit s p q (local_step unit p q.size q.standing q.work s.world))
  running_lives =
      let d : DueAs p q.standing q.work (length (shape s.world.store p)) = coherent.due p q found in
      kernel_handles unit s p q _ _ (After Lives) living_on (local_step unit p q.size q.standing q.work s.world)
      (all_did (local_step unit p q.size q.standing q.work s.world) (local_lives q.standing q.work d) (local_due unit p q.size q.standing q.work s.world d)
      (local_steps unit p q.size q.standing q.work s.world))

step_lives : (unit : ProgramUnit) (s : Processes) (p : Name) → Coherent s → After Lives (step unit s p)
step_lives unit s p coherent = go (find s.live p) refl
  where
    of_standing : (q : Process) → find s.live p ≡ Some q → (standing : Standing) → q.standing ≡ standing
        → After Lives (kernel unit s p q (local_step unit p q.size q.standing q.work s.world))
    of_standing q e ready g = running_lives unit s p q e (ap is_running g) coherent
    of_standing q e (at_when cs position) g = running_lives unit s p q e (ap is_running g) coherent
    of_standing q e (waiting n) g = subst (λ x. After Lives (kernel unit s p q (local_step unit p q.size x q.work s.world))) (sym g) tt

    go : (x : Option Process) → find s.live p ≡ x → After Lives (step unit s p)
    go None e = subst (λ x. After Lives (step_of unit s p x)) (sym e) tt
    go (Some q) e = of_process unit s p q (After Lives) e (of_standing q e q.standing refl)

-- ---- along permitted steps

pub step_coherent : (unit : ProgramUnit) (s : Processes) (p : Name) → Coherent s → After Coherent (step unit s p)
step_coherent unit s p h = go (step unit s p) (step_both unit s p h.family) (step_lives unit s p h)
  where
    go : (x : Stepped) → After WithFamily x → After Lives x → After Coherent x
    go (went t next quiet) a b = record { family = a; due = b.due; refers = b.refers }
    go (ended ending system turns) a b = tt

pub start_coherent : (unit : ProgramUnit) (system : State) (bound : ℕ) → Coherent (start unit system bound)
start_coherent unit system bound = record { family = start_with unit system bound; due = due; refers = record { shape = own_shape []; each = λ r. tt } }
  where
    due : (r : Name) (q : Process) → find (start unit system bound).live r ≡ Some q → DueAs r q.standing q.work 0
    due [] q e = subst (λ x. DueAs [] x.standing x.work 0) (some_is e) (refl, refl, omega arith)
    due (y ∷ ys) q e = absurd (cc)

pub permitted_coherent : (unit : ProgramUnit) (system : State) (bound : ℕ) (order : List Name) (s : Processes)
    → permitted unit order (start unit system bound) ≡ at s → Coherent s
permitted_coherent unit system bound order s e = permitted_keep unit Coherent (step_coherent unit) order (start unit system bound) s
    (start_coherent unit system bound) e

pub references_live : ReferencesLive
references_live unit system bound order s e = nothing_dangles s.world.store (permitted_coherent unit system bound order s e).refers
