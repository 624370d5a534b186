-- A step of one process in two states, the second with other instances of others, and with no fewer turns: it does the same in both.
use Rattle.std.proofs.Common.{◌≡◌, ℕ, zero, suc, ◌+◌, ◌-◌, ◌⊎◌, inl, inr, Bool, true, false, if◌then◌else◌, List, [], ◌∷◌, length, Option, Some, None}
use Rattle.std.proofs.Common.{refl, sym, ap, subst, ◌∙◌, arith}
use Rattle.std.specs.Prelude.{⊤, nat_lt}
use Rattle.std.specs.List.{list_any}
use Rattle.edi_calls.specs.Forks.{most_processes, equal_share}
use Rattle.edi_calls.specs.declared.kinds.Cause.TheVariants as cause
use Rattle.edi_calls.specs.Names.{Name, find}
use Rattle.edi_calls.specs.Outcome as outcome
use Rattle.edi_calls.specs.Outcome.{Ending}
use Rattle.edi_calls.specs.Ready.{Next, stays, joins, children, parent_of, freed}
use Rattle.edi_calls.specs.State.{Traced}
use Rattle.edi_unit.specs.Tree.{ProgramUnit}
use Rattle.edi_meaning.specs.Store.{Instance, Frame, Owns, instances, shape, now, room}
use Rattle.edi_meaning.specs.Evaluation.{World, Evaluation, gives, ends}
use Rattle.edi_meaning.specs.Step.{Standing, ready, at_when, waiting, Work, Asks, goes, arrives, again, forks, leaves, Process, Processes, Stepped, went, ended}
use Rattle.edi_meaning.specs.Step.{back, exceeds, with_children, fork_taken, awaits, one_less, notified, exited, local_step, kernel, step_of, step}
use Rattle.edi_meaning.proofs.Kernel.{After, if_either, rest_of}
use Rattle.edi_meaning.proofs.Own.{Owned, owns_self}
use Rattle.edi_disjoint.proofs.Effects.{Results, results}
use Rattle.edi_disjoint.proofs.steps.Following.{Follows}
use Rattle.edi_disjoint.proofs.steps.Differing.{Differ, same_frames, local_alike}
use Rattle.edi_orders.specs.Orders.{IsProcessLimit}

-- ---- what the kernel answers

abbrev pub IsNext : Asks → Next → (quiet : Bool) → Type 0
IsNext (goes work) n quiet = (n ≡ stays) × (quiet ≡ false)
IsNext (arrives cs position work) n quiet = (ps : List Name) × (n ≡ joins ps) × (quiet ≡ false)
IsNext (again cs position failed work) n quiet = (ps : List Name) × (n ≡ joins ps) × (quiet ≡ failed)
IsNext (forks bs line work) n quiet = (ps : List Name) × (n ≡ joins ps) × (quiet ≡ false)
IsNext leaves n quiet = (ps : List Name) × (n ≡ joins ps) × (quiet ≡ false)

abbrev NextOf : Asks → Stepped → Type 0
NextOf c (went t n quiet) = IsNext c n quiet
NextOf c (ended e system turns) = ⊤

freed_joins : (n : ℕ) (r : Name) → (ps : List Name) × (freed n r ≡ joins ps)
freed_joins zero r = (r ∷ [], refl)
freed_joins (suc n) r = ([], refl)

-- the end of a process always goes on
pub exited_goes : (s : Processes) (p : Name) (w : World) → (t : Processes) × (ps : List Name) × (exited s p w ≡ went t (joins ps) false)
exited_goes s p w = told (find (rest_of s p w).live (parent_of p))
  where
    rest : Processes
    rest = rest_of s p w

    by : (y : Process) (standing : Standing) → (t : Processes) × (ps : List Name) × (one_less rest (parent_of p) y standing ≡ went t (joins ps) false)
    by y ready = (rest, [], refl)
    by y (at_when cs position) = (rest, [], refl)
    by y (waiting n) =
        let f : (ps : List Name) × (freed (n - 1) (parent_of p) ≡ joins ps) = freed_joins (n - 1) (parent_of p) in
        let b : Processes = back rest (parent_of p) (record y { standing = awaits (n - 1) }) rest.world in
        (b, f.0, ap (λ m. went b m false) f.1)

    told : (o : Option Process) → (t : Processes) × (ps : List Name) × (notified rest (parent_of p) o ≡ went t (joins ps) false)
    told None = (rest, [], refl)
    told (Some y) = by y y.standing

module _ (unit : ProgramUnit) where
  kernel_next : (s : Processes) (p : Name) (x : Process) (c : Asks) (w : World) → NextOf c (kernel unit s p x (gives c w))
  kernel_next s p x (goes work) w = (refl, refl)
  kernel_next s p x (arrives cs position work) w = (p ∷ [], refl, refl)
  kernel_next s p x (again cs position failed work) w = (p ∷ [], refl, refl)
  kernel_next s p x (forks bs line work) w =
      if_either (NextOf (forks bs line work)) (nat_lt most_processes (length s.live + length bs)) _ _ tt
      (if_either (NextOf (forks bs line work)) (list_any (exceeds unit share) bs) _ _ tt (taken w.turns))
    where
      share : ℕ
      share = equal_share (room x.size (shape w.store p)) (length bs)

      taken : (n : ℕ) → NextOf (forks bs line work) (fork_taken unit s p x bs work w n share)
      taken zero = tt
      taken (suc n) = (children p (suc x.forks) 0 (length bs), refl, refl)
  kernel_next s p x leaves w =
      let g : (t : Processes) × (ps : List Name) × (exited s p w ≡ went t (joins ps) false) = exited_goes s p w in
      subst (NextOf leaves) (sym g.2) (g.1, refl, refl)

  -- p, which is this process, asks for this, leaves this world, and goes on
  pub record Took (s : Processes) (p : Name) (x : Process) (c : Asks) (w : World) (t : Processes) (n : Next) (quiet : Bool) : Type 0 where
    pub local : local_step unit p x.size x.standing x.work s.world ≡ gives c w
    pub on : kernel unit s p x (gives c w) ≡ went t n quiet
    pub results : Results unit s p x c w t
    pub next : IsNext c n quiet

  pub took_of : (s : Processes) (p : Name) (x : Process) (c : Asks) (w : World) (t : Processes) (n : Next) (quiet : Bool) →
      local_step unit p x.size x.standing x.work s.world ≡ gives c w → kernel unit s p x (gives c w) ≡ went t n quiet → Took s p x c w t n quiet
  took_of s p x c w t n quiet local on = record {
    local = local;
    on = on;
    results = subst (After (Results unit s p x c w)) on (results unit s p x c w);
    next = subst (NextOf c) on (kernel_next s p x c w);
  }

  pub took : (s : Processes) (p : Name) (x : Process) → find s.live p ≡ Some x → (t : Processes) (n : Next) (quiet : Bool) → step unit s p ≡ went t n quiet →
      (c : Asks) × (w : World) × Took s p x c w t n quiet
  took s p x found t n quiet e = go (local_step unit p x.size x.standing x.work s.world) refl (sym (ap (step_of unit s p) found) ∙ e)
    where
      go : (r : Evaluation Asks) → local_step unit p x.size x.standing x.work s.world ≡ r → kernel unit s p x r ≡ went t n quiet →
          (c : Asks) × (w : World) × Took s p x c w t n quiet
      go (gives c w) f g = (c, w, took_of s p x c w t n quiet f g)
      go (ends ending system turns) f g = absurd (cc)

  pub steps_so : (s : Processes) (p : Name) (x : Process) (c : Asks) (w : World) (t : Processes) (n : Next) (quiet : Bool) → find s.live p ≡ Some x →
      Took s p x c w t n quiet → step unit s p ≡ went t n quiet
  steps_so s p x c w t n quiet found k = ap (step_of unit s p) found ∙ ap (kernel unit s p x) k.local ∙ k.on

-- ---- two states

pub ended_is : (e f : Ending) (rest end : Traced) (left turns : ℕ) → ended e rest left ≡ ended f end turns → e ≡ f
ended_is e f rest end left turns g = cc

turns_or : (e : Ending) → (e ≡ outcome.turns) ⊎ (e ≡ outcome.turns → ⊥)
turns_or outcome.done = inr (λ e. absurd (cc))
turns_or (outcome.halted line) = inr (λ e. absurd (cc))
turns_or (outcome.failed c line) = inr (λ e. absurd (cc))
turns_or outcome.turns = inl refl
turns_or outcome.standstill = inr (λ e. absurd (cc))
turns_or (outcome.bad address) = inr (λ e. absurd (cc))

module _ (unit : ProgramUnit) (p : Name) (x : Process) (change : Name → List Instance → List Instance)
    (fixes : (r : Name) → Owns p r → (is : List Instance) → change r is ≡ is) (more : ℕ) (a b : Processes) (owned : Owned a.world.store)
    (there : find a.live p ≡ Some x) (here : find b.live p ≡ Some x)
    (store : (r : Name) → instances b.world.store r ≡ change r (instances a.world.store r)) (system : a.world.system ≡ b.world.system)
    (turns : b.world.turns ≡ a.world.turns + more) where
  abbrev pub Differs : World → World → Type 0
  Differs w u = Differ unit p x.size more change fixes w u

  abbrev first : Evaluation Asks
  first = local_step unit p x.size x.standing x.work a.world

  abbrev second : Evaluation Asks
  second = local_step unit p x.size x.standing x.work b.world

  follows : Follows (λ z. z) more (λ c w u. Differs w u) first second
  follows =
      (local_alike unit p x.size more change fixes x.standing x.work a.world b.world
      (record { owned = owned; store = store; system = system; turns = turns })).is

  -- it asks for the same
  pub follow : (c : Asks) (w : World) → first ≡ gives c w → (u : World) × (second ≡ gives c u) × Differs w u
  follow c w e = go second refl (subst (λ r. Follows (λ z. z) more (λ c w u. Differs w u) r second) e follows)
    where
      go : (v : Evaluation Asks) → second ≡ v → Follows (λ z. z) more (λ c w u. Differs w u) (gives c w) v → (u : World) × (second ≡ gives c u) × Differs w u
      go (gives d u) f h = (u, f ∙ ap (λ z. gives z u) (sym h.0), h.1)
      go (ends ending rest left) f h = absurd h

  -- ---- the kernel

  -- it goes on, or the limit of processes forbids the fork
  abbrev pub GoesOn : Stepped → Type 0
  GoesOn z =
      ((t : Processes) × (n : Next) × (quiet : Bool) × (z ≡ went t n quiet))
      ⊎ ((line : ℕ) × (rest : Traced) × (left : ℕ) × (z ≡ ended (outcome.failed cause.ProcessLimit line) rest left))

  module _ (bs : List ℕ) (line : ℕ) (work : List Work) (w u : World) (d : Differs w u) where
    abbrev shared : ℕ
    shared = equal_share (room x.size (shape w.store p)) (length bs)

    abbrev share : ℕ
    share = equal_share (room x.size (shape u.store p)) (length bs)

    same_share : share ≡ shared
    same_share = ap (λ (fs : List Frame). equal_share (room x.size fs) (length bs)) (same_frames unit p x.size more change fixes w u d p (owns_self p))

    -- the tests of a fork
    abbrev forked_by : Bool → Bool → ℕ → Stepped
    forked_by many large n =
        if many then ended (outcome.failed cause.ProcessLimit line) u.system u.turns
        else if large then ended (outcome.failed cause.VariableLimit line) u.system u.turns
        else fork_taken unit b p x bs work u n share

    -- what the first says of its tests
    fits : (many large : Bool) (n : ℕ) (t : Processes) (m : Next) (quiet : Bool) →
        (if many then ended (outcome.failed cause.ProcessLimit line) w.system w.turns
        else if large then ended (outcome.failed cause.VariableLimit line) w.system w.turns
        else fork_taken unit a p x bs work w n shared) ≡ went t m quiet → (large ≡ false) × (k : ℕ) × (n ≡ suc k)
    fits true large n t m quiet e = absurd (cc)
    fits false true n t m quiet e = absurd (cc)
    fits false false zero t m quiet e = absurd (cc)
    fits false false (suc k) t m quiet e = (refl, k, refl)

    many_or : (many large : Bool) (n k : ℕ) → large ≡ false → n ≡ suc k → GoesOn (forked_by many large n)
    many_or true large n k f e = inr (line, u.system, u.turns, refl)
    many_or false true n k f e = absurd (cc)
    many_or false false n k f e =
        inl (
          with_children unit p (suc x.forks) 0 share (now (shape u.store) p) bs
              (back b p (record x { forks = suc x.forks; work = work; standing = waiting (length bs) }) (record u { turns = k })),
          joins (children p (suc x.forks) 0 (length bs)),
          false,
          ap (λ (z : ℕ). fork_taken unit b p x bs work u z share) e,
        )

    fork_on : (t : Processes) (m : Next) (quiet : Bool) → kernel unit a p x (gives (forks bs line work) w) ≡ went t m quiet →
        GoesOn (kernel unit b p x (gives (forks bs line work) u))
    fork_on t m quiet e =
        let f : (list_any (exceeds unit shared) bs ≡ false) × (k : ℕ) × (w.turns ≡ suc k) =
        fits (nat_lt most_processes (length a.live + length bs)) (list_any (exceeds unit shared) bs) w.turns t m quiet e in
        many_or (nat_lt most_processes (length b.live + length bs)) (list_any (exceeds unit share) bs) u.turns (f.1 + more)
        (ap (λ (n : ℕ). list_any (exceeds unit n) bs) same_share ∙ f.0) (omega (arith, d.turns, f.2))

    -- and where the first ends the program
    abbrev EndsOn : Ending → Stepped → Type 0
    EndsOn e z =
        (e ≡ outcome.turns) ⊎ IsProcessLimit e
        ⊎ ((f : Ending) × (rest : Traced) × (left : ℕ) × (z ≡ ended f rest left) × ((f ≡ e) ⊎ IsProcessLimit f))

    large_or : (many large : Bool) (n : ℕ) → large ≡ true → EndsOn (outcome.failed cause.VariableLimit line) (forked_by many large n)
    large_or true large n f = inr (inr (outcome.failed cause.ProcessLimit line, u.system, u.turns, refl, inr (line, refl)))
    large_or false true n f = inr (inr (outcome.failed cause.VariableLimit line, u.system, u.turns, refl, inl refl))
    large_or false false n f = absurd (cc)

    fork_ends_by : (many large : Bool) (n : ℕ) (e : Ending) (rest : Traced) (left : ℕ) →
        (if many then ended (outcome.failed cause.ProcessLimit line) w.system w.turns
        else if large then ended (outcome.failed cause.VariableLimit line) w.system w.turns
        else fork_taken unit a p x bs work w n shared) ≡ ended e rest left → (e ≡ outcome.turns) ⊎ IsProcessLimit e ⊎ ((large ≡ true) × (outcome.failed cause.VariableLimit line ≡ e))
    fork_ends_by true large n e rest left g = inr (inl (line, sym (ended_is _ e _ rest _ left g)))
    fork_ends_by false true n e rest left g = inr (inr (refl, ended_is _ e _ rest _ left g))
    fork_ends_by false false zero e rest left g = inl (sym (ended_is _ e _ rest _ left g))
    fork_ends_by false false (suc k) e rest left g = absurd (cc)

    fork_ends : (e : Ending) (rest : Traced) (left : ℕ) → kernel unit a p x (gives (forks bs line work) w) ≡ ended e rest left →
        EndsOn e (kernel unit b p x (gives (forks bs line work) u))
    fork_ends e rest left g =
        go (fork_ends_by (nat_lt most_processes (length a.live + length bs)) (list_any (exceeds unit shared) bs) w.turns e rest left g)
      where
        go : (e ≡ outcome.turns) ⊎ IsProcessLimit e ⊎ ((list_any (exceeds unit shared) bs ≡ true) × (outcome.failed cause.VariableLimit line ≡ e)) →
            EndsOn e (kernel unit b p x (gives (forks bs line work) u))
        go (inl h) = inl h
        go (inr (inl h)) = inr (inl h)
        go (inr (inr h)) =
            subst (λ (f : Ending). EndsOn f (kernel unit b p x (gives (forks bs line work) u))) h.1
            (large_or (nat_lt most_processes (length b.live + length bs)) (list_any (exceeds unit share) bs) u.turns
            (ap (λ (n : ℕ). list_any (exceeds unit n) bs) same_share ∙ h.0))

  kernel_on : (c : Asks) (w u : World) → Differs w u → (t : Processes) (n : Next) (quiet : Bool) → kernel unit a p x (gives c w) ≡ went t n quiet →
      GoesOn (kernel unit b p x (gives c u))
  kernel_on (goes work) w u d t n quiet e = inl (back b p (record x { work = work; standing = ready }) u, stays, false, refl)
  kernel_on (arrives cs position work) w u d t n quiet e = inl (back b p (record x { work = work; standing = at_when cs position }) u, joins (p ∷ []), false, refl)
  kernel_on (again cs position failed work) w u d t n quiet e =
      inl (back b p (record x { work = work; standing = at_when cs position }) u, joins (p ∷ []), failed, refl)
  kernel_on (forks bs line work) w u d t n quiet e = fork_on bs line work w u d t n quiet e
  kernel_on leaves w u d t n quiet e =
      let g : (t : Processes) × (ps : List Name) × (exited b p u ≡ went t (joins ps) false) = exited_goes b p u in inl (g.0, joins g.1, false, g.2)

  -- ---- steps

  -- THE STEP goes on in the second as in the first, but for the limit of processes
  pub record TookToo (c : Asks) (w : World) : Type 0 where
    pub world : World
    pub differs : Differs w world
    pub after : Processes
    pub next : Next
    pub quiet : Bool
    pub took : Took unit b p x c world after next quiet

  pub took_too : (c : Asks) (w : World) (t : Processes) (n : Next) (quiet : Bool) → Took unit a p x c w t n quiet →
      TookToo c w ⊎ ((line : ℕ) × (rest : Traced) × (left : ℕ) × (step unit b p ≡ ended (outcome.failed cause.ProcessLimit line) rest left))
  took_too c w t n quiet k =
      let f : (u : World) × (second ≡ gives c u) × Differs w u = follow c w k.local in go f.0 f.1 f.2 (kernel_on c w f.0 f.2 t n quiet k.on)
    where
      go : (u : World) → second ≡ gives c u → Differs w u → GoesOn (kernel unit b p x (gives c u)) →
          TookToo c w ⊎ ((line : ℕ) × (rest : Traced) × (left : ℕ) × (step unit b p ≡ ended (outcome.failed cause.ProcessLimit line) rest left))
      go u f d (inl h) =
          inl (record { world = u; differs = d; after = h.0; next = h.1; quiet = h.2; took = took_of unit b p x c u h.0 h.1 h.2 f h.3 })
      go u f d (inr h) = inr (h.0, h.1, h.2, ap (step_of unit b p) here ∙ ap (kernel unit b p x) f ∙ h.3)

  -- and where the first ends the program for no want of turns, so does the second
  abbrev pub EndsToo : Ending → Type 0
  EndsToo e =
      (e ≡ outcome.turns) ⊎ IsProcessLimit e
      ⊎ ((f : Ending) × (rest : Traced) × (left : ℕ) × (step unit b p ≡ ended f rest left) × ((f ≡ e) ⊎ IsProcessLimit f))

  pub ends_too : (e : Ending) (rest : Traced) (left : ℕ) → step unit a p ≡ ended e rest left → EndsToo e
  ends_too e rest left g = go first refl (sym (ap (step_of unit a p) there) ∙ g) follows
    where
      to_step : (r : Evaluation Asks) → second ≡ r → step unit b p ≡ kernel unit b p x r
      to_step r f = ap (step_of unit b p) here ∙ ap (kernel unit b p x) f

      over : (f : Ending) (end : Traced) (turns : ℕ) → f ≡ e → ((f ≡ outcome.turns → ⊥) → second ≡ ends f end (turns + more)) → (f ≡ outcome.turns) ⊎ (f ≡ outcome.turns → ⊥) →
          EndsToo e
      over f end turns is h (inl k) = inl (sym is ∙ k)
      over f end turns is h (inr k) = inr (inr (f, end, turns + more, to_step (ends f end (turns + more)) (h k), inl is))

      asked : (c : Asks) (w u : World) → Differs w u → second ≡ gives c u → kernel unit a p x (gives c w) ≡ ended e rest left → EndsToo e
      asked (goes work) w u d f k = absurd (cc)
      asked (arrives cs position work) w u d f k = absurd (cc)
      asked (again cs position failed work) w u d f k = absurd (cc)
      asked (forks bs line work) w u d f k = lift (fork_ends bs line work w u d e rest left k)
        where
          lift : EndsOn bs line work w u d e (kernel unit b p x (gives (forks bs line work) u)) → EndsToo e
          lift (inl h) = inl h
          lift (inr (inl h)) = inr (inl h)
          lift (inr (inr h)) = inr (inr (h.0, h.1, h.2, to_step (gives (forks bs line work) u) f ∙ h.3, h.4))
      asked leaves w u d f k =
          let x : (t : Processes) × (ps : List Name) × (exited a p w ≡ went t (joins ps) false) = exited_goes a p w in
          let no : went x.0 (joins x.1) false ≡ ended e rest left = sym x.2 ∙ k in absurd (cc)

      go : (r : Evaluation Asks) → first ≡ r → kernel unit a p x r ≡ ended e rest left → Follows (λ z. z) more (λ c w u. Differs w u) first second → EndsToo e
      go (gives c w) f k h = let n : (u : World) × (second ≡ gives c u) × Differs w u = follow c w f in asked c w n.0 n.2 n.1 k
      go (ends g end turns) f k h =
          over g end turns (ended_is g e end rest turns left k) (subst (λ r. Follows (λ z. z) more (λ c w u. Differs w u) r second) f h) (turns_or g)
