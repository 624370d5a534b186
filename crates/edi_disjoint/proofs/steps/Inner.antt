-- Without open uses each inner step keeps to itself, or is one of a process that is alone.
use Rattle.std.proofs.Common.{◌≡◌, ◌⊎◌, inl, inr, ℕ, zero, suc, ◌+◌, ◌-◌, ◌<◌, ◌≤◌, Bool, true, false, if◌then◌else◌, List, [], length, Option, Some, None}
use Rattle.std.proofs.Common.{refl, sym, ap, subst, ◌∙◌, arith}
use Rattle.std.specs.Prelude.{⊤, nat_lt}
use Rattle.std.specs.List.{list_any}
use Rattle.std.proofs.lemmas.Bool.{false≢true}
use Rattle.edi_calls.specs.Forks.{most_processes, equal_share}
use Rattle.edi_calls.specs.Names.{Name, same, find}
use Rattle.edi_calls.specs.Outcome as outcome
use Rattle.edi_calls.specs.Outcome.{Ending}
use Rattle.edi_calls.specs.Ready.{Next, stays, joins, freed, parent_of}
use Rattle.edi_calls.specs.State.{Traced}
use Rattle.edi_calls.proofs.Names.{some_is}
use Rattle.edi_calls.proofs.Tables.{same-refl, same-or-other}
use Rattle.edi_unit.specs.Fits.{Fits}
use Rattle.edi_unit.specs.Tree.{ProgramUnit}
use Rattle.edi_meaning.specs.Store.{Shape, instances, shape, room, Owns}
use Rattle.edi_meaning.specs.Evaluation.{World, Evaluation, gives, ends}
use Rattle.edi_meaning.specs.Step.{Standing, ready, at_when, waiting, Work, Asks, goes, arrives, again, forks, leaves, Process, Processes, Stepped, went, ended, back}
use Rattle.edi_meaning.specs.Step.{exceeds, fork_taken, awaits, one_less, notified, kernel, local_step, step_of, step}
use Rattle.edi_meaning.specs.Permitted.{is_running, is_running_process}
use Rattle.edi_meaning.specs.Laws.{IsWaiting}
use Rattle.edi_meaning.proofs.Due.{DueAs, due_some}
use Rattle.edi_meaning.proofs.Kernel.{rest_of}
use Rattle.edi_meaning.proofs.Own.{owns_first}
use Rattle.edi_meaning.proofs.Parents.{waiting_does_not_run}
use Rattle.edi_meaning.proofs.Dangling.{owner_waits}
use Rattle.edi_disjoint.specs.Footprints.{Variable}
use Rattle.edi_disjoint.specs.Open.{UsesOpenly, NoOpenUses}
use Rattle.edi_disjoint.specs.steps.Own.{FindsSame, GoesAlone, IsSpent, KeepsToItself}
use Rattle.edi_disjoint.specs.steps.Turns.{with_more, StepsSo}
use Rattle.edi_disjoint.specs.steps.Inner.{IsAlone, WithoutOpenUses}
use Rattle.edi_disjoint.proofs.FirstLaw.{first_block}
use Rattle.edi_disjoint.proofs.Kept.{Lawful, permitted_lawful, open_now, owns_now}
use Rattle.edi_disjoint.proofs.steps.Following.{Follows}
use Rattle.edi_disjoint.proofs.steps.Owning.{Owned, local_owned}
use Rattle.edi_disjoint.proofs.steps.Leading.{finds_itself}
use Rattle.edi_disjoint.proofs.steps.Turns.{more_turns_do_the_same}

-- ---- a local step that goes on wherever the process finds the same, with no fewer turns

module _ (unit : ProgramUnit) (s : Processes) (p : Name) (q : Process) (found : find s.live p ≡ Some q) (runs : is_running q.standing ≡ true) (work : List Work) (w : World)
    (few : w.turns ≤ s.world.turns) where
  -- what it leaves in such a state
  pub record Left (t : Processes) (more : ℕ) : Type 0 where
    pub world : World
    pub is : local_step unit p q.size q.standing q.work t.world ≡ gives (goes work) world
    pub own : instances world.store p ≡ instances w.store p
    pub others : (r : Name) → same r p ≡ false → instances world.store r ≡ instances t.world.store r
    pub system : world.system ≡ t.world.system
    pub turns : world.turns ≡ w.turns + more

  module _ (does : (more : ℕ) (t : Processes) → FindsSame p s t → t.world.turns ≡ s.world.turns + more → Left t more) where
    abbrev after : Process
    after = record q { work = work; standing = ready }

    abbrev Alone : Processes → Type 0
    Alone t = GoesAlone unit p after (instances w.store p) stays false (s.world.turns - w.turns) t

    goes_too : (t : Processes) → FindsSame p s t → s.world.turns ≤ t.world.turns → Alone t
    goes_too t f enough = go (does (t.world.turns - s.world.turns) t f (omega (arith, enough)))
      where
        go : Left t (t.world.turns - s.world.turns) → Alone t
        go l = (
          back t p after l.world,
          ap (step_of unit t p) (f.process ∙ found) ∙ ap (kernel unit t p q) l.is,
          record { live = refl; store = λ r. store r (same-or-other r p); system = sym l.system },
          omega (arith, l.turns, few, enough),
        )
          where
            store : (r : Name) → (r ≡ p) ⊎ (same r p ≡ false) → instances l.world.store r ≡ (if same r p then instances w.store p else instances t.world.store r)
            store r (inl e) =
                ap (instances l.world.store) e ∙ l.own
                ∙ sym (ap (λ b. if b then instances w.store p else instances t.world.store r) (ap (λ z. same z p) e ∙ same-refl p))
            store r (inr n) = l.others r n ∙ sym (ap (λ b. if b then instances w.store p else instances t.world.store r) n)

    -- with fewer turns it does so, or they run out: with more turns it does the same
    module _ (t : Processes) (f : FindsSame p s t) where
      abbrev m : ℕ
      m = s.world.turns

      richer_alone : Alone (with_more m t)
      richer_alone = goes_too (with_more m t) (record { process = f.process; own = f.own; frames = f.frames; references = f.references }) (omega arith)

      world_of : (a : Processes) (n : Next) (quiet : Bool) (b : Processes) → went a stays false ≡ went b n quiet → (a ≡ b) × (went b stays false ≡ went b n quiet)
      world_of a n quiet b e = (first e, ap (λ z. went z stays false) (sym (first e)) ∙ e)
        where
          first : went a stays false ≡ went b n quiet → a ≡ b
          first g = cc

      no_end : {e : Ending} {system : Traced} {turns : ℕ} (a : Processes) → went a stays false ≡ ended e system turns → ⊥
      no_end a g = cc

      unmore : (a : Processes) (n : Next) (quiet : Bool) → went (with_more m a) stays false ≡ went (with_more m a) n quiet → went a n quiet ≡ went a stays false
      unmore a n quiet g = sym (ap (λ x. went a x false) (next g) ∙ ap (λ x. went a n x) (mark g))
        where
          next : went (with_more m a) stays false ≡ went (with_more m a) n quiet → stays ≡ n
          next h = cc

          mark : went (with_more m a) stays false ≡ went (with_more m a) n quiet → false ≡ quiet
          mark h = cc

      poorer : (x : Stepped) → step unit t p ≡ x → StepsSo m x (step unit (with_more m t) p) → Alone t ⊎ IsSpent unit p t
      poorer (went a n quiet) e h =
          let r : Alone (with_more m t) = richer_alone in
          let g : (r.0 ≡ with_more m a) × (went (with_more m a) stays false ≡ went (with_more m a) n quiet) = world_of r.0 n quiet (with_more m a) (sym r.1 ∙ h) in
          let left : r.0.world.turns ≡ a.world.turns + m = ap (λ z. z.world.turns) g.0 in
          inl (
            a,
            e ∙ unmore a n quiet g.1,
            record {
              live = ap (λ z. z.live) (sym g.0) ∙ r.2.live;
              store = λ k. ap (λ z. instances z.world.store k) (sym g.0) ∙ r.2.store k;
              system = r.2.system ∙ ap (λ z. z.world.system) g.0;
            },
            omega (arith, left, r.3),
          )
      poorer (ended outcome.turns system turns) e h = inr (system, turns, e)
      poorer (ended outcome.done system turns) e h = absurd (no_end richer_alone.0 (sym richer_alone.1 ∙ h other))
        where
          other : outcome.done ≡ outcome.turns → ⊥
          other k = cc
      poorer (ended (outcome.halted line) system turns) e h = absurd (no_end richer_alone.0 (sym richer_alone.1 ∙ h other))
        where
          other : outcome.halted line ≡ outcome.turns → ⊥
          other k = cc
      poorer (ended (outcome.failed cause line) system turns) e h = absurd (no_end richer_alone.0 (sym richer_alone.1 ∙ h other))
        where
          other : outcome.failed cause line ≡ outcome.turns → ⊥
          other k = cc
      poorer (ended outcome.standstill system turns) e h = absurd (no_end richer_alone.0 (sym richer_alone.1 ∙ h other))
        where
          other : outcome.standstill ≡ outcome.turns → ⊥
          other k = cc
      poorer (ended (outcome.bad address) system turns) e h = absurd (no_end richer_alone.0 (sym richer_alone.1 ∙ h other))
        where
          other : outcome.bad address ≡ outcome.turns → ⊥
          other k = cc

    pub keeps : KeepsToItself unit s p
    keeps = record {
      process = q;
      found = found;
      runs = runs;
      after = after;
      own = instances w.store p;
      next = stays;
      quiet = false;
      taken = s.world.turns - w.turns;
      enough = s.world.turns;
      goes = goes_too;
      either = λ t f. poorer t f (step unit t p) refl ((more_turns_do_the_same unit s.world.turns t).one p);
    }

-- ---- a step after which the process goes on

-- it does not go on
abbrev IsNoStay : Stepped → Type 0
IsNoStay (went a stays quiet) = ⊥
IsNoStay (went a (joins names) quiet) = ⊤
IsNoStay (ended e system turns) = ⊤

if_no : (b : Bool) (x y : Stepped) → IsNoStay x → IsNoStay y → IsNoStay (if b then x else y)
if_no true x y h k = h
if_no false x y h k = k

module _ (unit : ProgramUnit) (s : Processes) (p : Name) (q : Process) where
  taken_no : (bs : List ℕ) (work : List Work) (w : World) (turns share : ℕ) → IsNoStay (fork_taken unit s p q bs work w turns share)
  taken_no bs work w zero share = tt
  taken_no bs work w (suc n) share = tt

  freed_no : (a : Processes) (n : ℕ) (r : Name) → IsNoStay (went a (freed n r) false)
  freed_no a zero r = tt
  freed_no a (suc n) r = tt

  told_no : (a : Processes) (o : Option Process) → IsNoStay (notified a (parent_of p) o)
  told_no a None = tt
  told_no a (Some z) = go z.standing refl
    where
      go : (x : Standing) → z.standing ≡ x → IsNoStay (one_less a (parent_of p) z x)
      go ready e = tt
      go (at_when cs position) e = tt
      go (waiting n) e = freed_no (back a (parent_of p) (record z { standing = awaits (n - 1) }) a.world) (n - 1) (parent_of p)

  -- what it asked for
  stays_goes : (t : Processes) (quiet : Bool) (r : Evaluation Asks) → kernel unit s p q r ≡ went t stays quiet → (work : List Work) × (w : World) × (r ≡ gives (goes work) w)
  stays_goes t quiet (gives (goes work) w) e = (work, w, refl)
  stays_goes t quiet (gives (arrives cs position work) w) e = absurd (subst IsNoStay e tt)
  stays_goes t quiet (gives (again cs position mark work) w) e = absurd (subst IsNoStay e tt)
  stays_goes t quiet (gives (forks bs line work) w) e =
      absurd (subst IsNoStay e
      (if_no (nat_lt most_processes (length s.live + length bs)) _ _ tt
      (if_no (list_any (exceeds unit (equal_share (room q.size (shape w.store p)) (length bs))) bs) _ _ tt
      (taken_no bs work w w.turns (equal_share (room q.size (shape w.store p)) (length bs))))))
  stays_goes t quiet (gives leaves w) e = absurd (subst IsNoStay e (told_no (rest_of s p w) (find (rest_of s p w).live (parent_of p))))
  stays_goes t quiet (ends ending system turns) e = absurd (subst IsNoStay e tt)

-- ---- the law

module _ (unit : ProgramUnit) (ok : Fits unit) (none : NoOpenUses unit) (s : Processes) (lawful : Lawful unit ok none.unnamed s) (p : Name) (q : Process)
    (found : find s.live p ≡ Some q) (standing : q.standing ≡ ready) where
  abbrev F : Shape
  F = shape s.world.store

  runs : is_running q.standing ≡ true
  runs = ap is_running standing

  -- ---- the first process is alone

  alone : p ≡ [] → IsAlone s p
  alone e r may = go (same-or-other r p) (find s.live r) refl
    where
      waits_not : IsWaiting s.live p → ⊥
      waits_not w = waiting_does_not_run q.standing w.number runs (ap (λ z. z.standing) (some_is (sym found ∙ w.found)) ∙ w.standing)

      go : (r ≡ p) ⊎ (same r p ≡ false) → (o : Option Process) → find s.live r ≡ o → r ≡ p
      go (inl h) o f = h
      go (inr n) None f = absurd (false≢true (ap is_running_process (sym f) ∙ may))
      go (inr n) (Some y) f =
          absurd (waits_not (owner_waits s.live lawful.coherent.family.family r p y f n (subst (λ z. Owns r z) (sym e) (owns_first r))))

  -- ---- one of a branch

  module _ (other : p ≡ [] → ⊥) where
    lives : 0 < length (F p)
    lives = elim (due_some p q.work (length (F p)) (subst (λ x. DueAs p x q.work (length (F p))) standing (lawful.coherent.due p q found))) [
      | inl l ↦ l
      | inr e ↦ absurd (other e.2)
    ]

    no_use : (v : Variable) → UsesOpenly unit (first_block (F p)) v → ⊥
    no_use v u = none.none (first_block (F p)) v ((lawful.stood.branches p other).branch lives) u

    module _ (more : ℕ) (t : Processes) (f : FindsSame p s t) (turns : t.world.turns ≡ s.world.turns + more) where
      follows : Follows (λ z. t.world.system) more (λ a w u. Owned unit ok none.unnamed (first_block (F p)) no_use p q.size more s.world t.world w u)
          (local_step unit p q.size ready q.work s.world) (local_step unit p q.size ready q.work t.world)
      follows =
          (local_owned unit ok none.unnamed (first_block (F p)) no_use p q.size more s.world t.world F ready q.work s.world t.world
          (open_now unit ok none.unnamed s p q found runs lawful.coherent lawful.stood lives standing)
          (owns_now unit ok none.unnamed s p q found runs lawful.coherent lawful.stood other lives no_use more t.world
          (record { own = f.own; alike = f.frames; references = f.references; others = λ r n. refl }) turns)).is

    abbrev Kept : ℕ → Processes → Asks → World → World → Type 0
    Kept more t a w u = Owned unit ok none.unnamed (first_block (F p)) no_use p q.size more s.world t.world w u

    at_ready : (t : Processes) → local_step unit p q.size q.standing q.work t.world ≡ local_step unit p q.size ready q.work t.world
    at_ready t = ap (λ x. local_step unit p q.size x q.work t.world) standing

    -- what the second world of two becomes
    module _ (work : List Work) (w : World) (is : local_step unit p q.size ready q.work s.world ≡ gives (goes work) w) (few : w.turns ≤ s.world.turns) where
      left : (more : ℕ) (t : Processes) → FindsSame p s t → t.world.turns ≡ s.world.turns + more → Left unit s p q found runs work w few t more
      left more t f turns = go (local_step unit p q.size ready q.work t.world) refl (subst (λ x. Follows (λ z. t.world.system) more (Kept more t) x (local_step unit p q.size ready q.work t.world)) is (follows more t f turns))
        where
          go : (x : Evaluation Asks) → local_step unit p q.size ready q.work t.world ≡ x → Follows (λ z. t.world.system) more (Kept more t) (gives (goes work) w) x →
              Left unit s p q found runs work w few t more
          go (gives a u) e h = record {
            world = u;
            is = at_ready t ∙ e ∙ ap (λ c. gives c u) (sym h.0);
            own = h.1.store.own;
            others = h.1.store.others;
            system = h.1.system;
            turns = h.1.turns;
          }
          go (ends ending system turns) e h = absurd h

    inner : (t : Processes) (quiet : Bool) → step unit s p ≡ went t stays quiet → KeepsToItself unit s p
    inner t quiet e = go (stays_goes unit s p q t quiet (local_step unit p q.size ready q.work s.world) (ap (kernel unit s p q) (sym (at_ready s)) ∙ sym (ap (step_of unit s p) found) ∙ e))
      where
        fewer : (x : Evaluation Asks) (work : List Work) (w : World) → x ≡ gives (goes work) w →
            Follows (λ z. s.world.system) 0 (λ a w u. Owned unit ok none.unnamed (first_block (F p)) no_use p q.size 0 s.world s.world w u) x x → w.turns ≤ s.world.turns
        fewer x work w f h =
            (subst (λ y. Follows (λ z. s.world.system) 0 (λ a w u. Owned unit ok none.unnamed (first_block (F p)) no_use p q.size 0 s.world s.world w u) y y) f h).1.few

        none_more : s.world.turns ≡ s.world.turns + 0
        none_more = omega arith

        go : (work : List Work) × (w : World) × (local_step unit p q.size ready q.work s.world ≡ gives (goes work) w) → KeepsToItself unit s p
        go g =
            let few : g.1.turns ≤ s.world.turns = fewer (local_step unit p q.size ready q.work s.world) g.0 g.1 g.2 (follows 0 s (finds_itself p s) none_more) in
            keeps unit s p q found runs g.0 g.1 few (left g.0 g.1 g.2 few)

pub without_open_uses : WithoutOpenUses
without_open_uses unit ok none system bound order s t p quiet comes r e = go (same-or-other p [])
  where
    lawful : Lawful unit ok none.unnamed s
    lawful = permitted_lawful unit ok none.unnamed system bound order s comes

    not_first : same p [] ≡ false → p ≡ [] → ⊥
    not_first n h = false≢true (sym n ∙ ap (λ z. same z []) h)

    go : (p ≡ []) ⊎ (same p [] ≡ false) → KeepsToItself unit s p ⊎ IsAlone s p
    go (inl h) = inr (alone unit ok none s lawful p r.process r.found r.standing h)
    go (inr n) = inl (inner unit ok none s lawful p r.process r.found r.standing (not_first n) t quiet e)
