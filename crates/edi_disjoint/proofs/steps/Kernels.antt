-- What the kernel makes of what a process asks for, in a state and in one that is this but for another process: the same.
use Rattle.std.proofs.Common.{◌≡◌, ℕ, zero, suc, ◌+◌, ◌-◌, ◌⊎◌, inl, inr, Bool, true, false, if◌then◌else◌, List, [], ◌∷◌, length, Option, Some, None}
use Rattle.std.proofs.Common.{refl, sym, ap, subst, ◌∙◌, arith}
use Rattle.std.specs.Prelude.{nat_lt}
use Rattle.std.specs.List.{list_any}
use Rattle.edi_calls.specs.Forks.{most_processes, equal_share}
use Rattle.edi_calls.specs.declared.kinds.Cause.TheVariants as cause
use Rattle.edi_calls.specs.Names.{Name, Table, same, find, with_at, without}
use Rattle.edi_calls.specs.Outcome as outcome
use Rattle.edi_calls.specs.Outcome.{Ending}
use Rattle.edi_calls.specs.Ready.{Next, stays, joins, child, children, parent_of, freed}
use Rattle.edi_calls.proofs.Names.{parent-child, no_some}
use Rattle.edi_calls.proofs.Tables.{same-equal, same-refl, same-or-other, same-symmetric, find-with_at-other, find-without-other}
use Rattle.edi_unit.specs.Tree.{ProgramUnit}
use Rattle.edi_meaning.specs.Store.{Spot, Instance, Frame, Owns, instances, frames, shape, now, room}
use Rattle.edi_meaning.specs.Evaluation.{World, Evaluation, gives, ends}
use Rattle.edi_meaning.specs.Whole.{instance_of}
use Rattle.edi_meaning.specs.Step.{Standing, ready, at_when, waiting, Work, Asks, goes, arrives, again, forks, leaves, Process, Processes, Stepped, went, ended}
use Rattle.edi_meaning.specs.Step.{back, exceeds, child_process, with_child, with_children, fork_taken, awaits, one_less, notified, exited, kernel}
use Rattle.edi_meaning.proofs.Kernel.{rest_of}
use Rattle.edi_meaning.proofs.Own.{instances-same, instances-other, instances-gone, instances-left, owns_self}
use Rattle.edi_disjoint.specs.steps.Own.{IsBut, GoesAlike}
use Rattle.edi_disjoint.proofs.steps.Following.{Follows}
use Rattle.edi_disjoint.proofs.steps.Differing.{Differ}

-- ---- tables: the entry of p is in its place whatever happens to others

module _ {A : Type 0} where
  swap_with : (t : Table A) (p n : Name) (a b old : A) → find t p ≡ Some old → same n p ≡ false → with_at (with_at t p a) n b ≡ with_at (with_at t n b) p a
  swap_with [] p n a b old f m = absurd (no_some None refl f)
  swap_with (entry ∷ t) p n a b old f m = go (same p entry.0) refl (same n entry.0) refl (swap_with t p n a b old)
    where
      go : (x : Bool) → same p entry.0 ≡ x → (y : Bool) → same n entry.0 ≡ y →
          (find t p ≡ Some old → same n p ≡ false → with_at (with_at t p a) n b ≡ with_at (with_at t n b) p a) →
          with_at (with_at (entry ∷ t) p a) n b ≡ with_at (with_at (entry ∷ t) n b) p a
      go true d true e h =
          let is : n ≡ p = same-equal n entry.0 e ∙ sym (same-equal p entry.0 d) in
          let no : true ≡ false = sym (same-refl p) ∙ sym (ap (λ z. same z p) is) ∙ m in absurd (cc)
      go true d false e h =
          ap (λ x. with_at (if x then (entry.0, a) ∷ t else entry ∷ with_at t p a) n b) d
          ∙ ap (λ y. if y then (entry.0, b) ∷ t else (entry.0, a) ∷ with_at t n b) e
          ∙ sym (ap (λ x. if x then (entry.0, a) ∷ with_at t n b else entry ∷ with_at (with_at t n b) p a) d)
          ∙ sym (ap (λ y. with_at (if y then (entry.0, b) ∷ t else entry ∷ with_at t n b) p a) e)
      go false d true e h =
          ap (λ x. with_at (if x then (entry.0, a) ∷ t else entry ∷ with_at t p a) n b) d
          ∙ ap (λ y. if y then (entry.0, b) ∷ with_at t p a else entry ∷ with_at (with_at t p a) n b) e
          ∙ sym (ap (λ x. if x then (entry.0, a) ∷ t else (entry.0, b) ∷ with_at t p a) d)
          ∙ sym (ap (λ y. with_at (if y then (entry.0, b) ∷ t else entry ∷ with_at t n b) p a) e)
      go false d false e h =
          let found : find t p ≡ Some old = sym (ap (λ x. if x then Some entry.1 else find t p) d) ∙ f in
          ap (λ x. with_at (if x then (entry.0, a) ∷ t else entry ∷ with_at t p a) n b) d
          ∙ ap (λ y. if y then (entry.0, b) ∷ with_at t p a else entry ∷ with_at (with_at t p a) n b) e
          ∙ ap (λ (l : Table A). entry ∷ l) (h found m)
          ∙ sym (ap (λ x. if x then (entry.0, a) ∷ with_at t n b else entry ∷ with_at (with_at t n b) p a) d)
          ∙ sym (ap (λ y. with_at (if y then (entry.0, b) ∷ t else entry ∷ with_at t n b) p a) e)

  swap_without : (t : Table A) (p n : Name) (a old : A) → find t p ≡ Some old → same n p ≡ false → without (with_at t p a) n ≡ with_at (without t n) p a
  swap_without [] p n a old f m = absurd (no_some None refl f)
  swap_without (entry ∷ t) p n a old f m = go (same p entry.0) refl (same n entry.0) refl (swap_without t p n a old)
    where
      go : (x : Bool) → same p entry.0 ≡ x → (y : Bool) → same n entry.0 ≡ y →
          (find t p ≡ Some old → same n p ≡ false → without (with_at t p a) n ≡ with_at (without t n) p a) →
          without (with_at (entry ∷ t) p a) n ≡ with_at (without (entry ∷ t) n) p a
      go true d true e h =
          let is : n ≡ p = same-equal n entry.0 e ∙ sym (same-equal p entry.0 d) in
          let no : true ≡ false = sym (same-refl p) ∙ sym (ap (λ z. same z p) is) ∙ m in absurd (cc)
      go true d false e h =
          ap (λ x. without (if x then (entry.0, a) ∷ t else entry ∷ with_at t p a) n) d
          ∙ ap (λ y. if y then without t n else (entry.0, a) ∷ without t n) e
          ∙ sym (ap (λ x. if x then (entry.0, a) ∷ without t n else entry ∷ with_at (without t n) p a) d)
          ∙ sym (ap (λ y. with_at (if y then without t n else entry ∷ without t n) p a) e)
      go false d true e h =
          let found : find t p ≡ Some old = sym (ap (λ x. if x then Some entry.1 else find t p) d) ∙ f in
          ap (λ x. without (if x then (entry.0, a) ∷ t else entry ∷ with_at t p a) n) d
          ∙ ap (λ y. if y then without (with_at t p a) n else entry ∷ without (with_at t p a) n) e
          ∙ h found m
          ∙ sym (ap (λ y. with_at (if y then without t n else entry ∷ without t n) p a) e)
      go false d false e h =
          let found : find t p ≡ Some old = sym (ap (λ x. if x then Some entry.1 else find t p) d) ∙ f in
          ap (λ x. without (if x then (entry.0, a) ∷ t else entry ∷ with_at t p a) n) d
          ∙ ap (λ y. if y then without (with_at t p a) n else entry ∷ without (with_at t p a) n) e
          ∙ ap (λ (l : Table A). entry ∷ l) (h found m)
          ∙ sym (ap (λ x. if x then (entry.0, a) ∷ without t n else entry ∷ with_at (without t n) p a) d)
          ∙ sym (ap (λ y. with_at (if y then without t n else entry ∷ without t n) p a) e)

  as_long : (t : Table A) (p : Name) (a old : A) → find t p ≡ Some old → length (with_at t p a) ≡ length t
  as_long [] p a old f = absurd (no_some None refl f)
  as_long (entry ∷ t) p a old f = go (same p entry.0) refl (as_long t p a old)
    where
      go : (x : Bool) → same p entry.0 ≡ x → (find t p ≡ Some old → length (with_at t p a) ≡ length t) → length (with_at (entry ∷ t) p a) ≡ length (entry ∷ t)
      go true d h = ap (λ x. length (if x then (entry.0, a) ∷ t else entry ∷ with_at t p a)) d
      go false d h =
          ap (λ x. length (if x then (entry.0, a) ∷ t else entry ∷ with_at t p a)) d
          ∙ ap (λ n. suc n) (h (sym (ap (λ x. if x then Some entry.1 else find t p) d) ∙ f))

-- ---- two states, of which the second is the first but for p

module _ (unit : ProgramUnit) (p q : Name) (size more : ℕ) (x old : Process) (own : List Instance) where
  abbrev pub other_at : Name → List Instance → List Instance
  other_at r is = if same r p then own else is

  module _ (fixes : (r : Name) → Owns q r → (is : List Instance) → other_at r is ≡ is) (apart : same q p ≡ false)
      (above : same (parent_of q) p ≡ false) (not_child : parent_of p ≡ q → ⊥) where
    abbrev Differs : World → World → Type 0
    Differs w u = Differ unit q size more other_at fixes w u

    -- the two states, in which p is live
    record Both (a b : Processes) : Type 0 where
      but : IsBut p x own a b
      turns : b.world.turns ≡ a.world.turns + more
      found : find a.live p ≡ Some old

    alike : (a b : Processes) (n : Next) (quiet : Bool) → Both a b → GoesAlike p x own more (went a n quiet) (went b n quiet)
    alike a b n quiet h = (h.but, h.turns, refl, refl)

    -- another has another entry, and worlds so related come
    back_both : (a b : Processes) (n : Name) (z : Process) (w u : World) → same n p ≡ false → b.live ≡ with_at a.live p x → find a.live p ≡ Some old →
        ((r : Name) → instances u.store r ≡ other_at r (instances w.store r)) → w.system ≡ u.system → u.turns ≡ w.turns + more → Both (back a n z w) (back b n z u)
    back_both a b n z w u m live found store system turns = record {
      but = record {
        live = ap (λ (l : Table Process). with_at l n z) live ∙ swap_with a.live p n x z old found m;
        store = store;
        system = system;
      };
      turns = turns;
      found = find-with_at-other a.live n p z (same-symmetric n p m) ∙ found;
    }

    ended_alike : (e : Ending) (w u : World) → Differs w u → GoesAlike p x own more (ended e w.system w.turns) (ended e u.system u.turns)
    ended_alike e w u d some = ap (λ z. ended e z u.turns) (sym d.system) ∙ ap (λ n. ended e w.system n) d.turns

    if_alike : (b : Bool) (k l m n : Stepped) → GoesAlike p x own more k m → GoesAlike p x own more l n →
        GoesAlike p x own more (if b then k else l) (if b then m else n)
    if_alike true k l m n h i = h
    if_alike false k l m n h i = i

    -- ---- children

    off_child : (f k : ℕ) → same (child q f k) p ≡ false
    off_child f k = go (same-or-other (child q f k) p)
      where
        go : (child q f k ≡ p) ⊎ (same (child q f k) p ≡ false) → same (child q f k) p ≡ false
        go (inl e) = absurd (not_child (ap parent_of (sym e) ∙ parent-child q f k))
        go (inr m) = m

    child_both : (c : Name) (share number : ℕ) (parent : Spot) (a b : Processes) → same c p ≡ false → Both a b →
        Both (with_child unit c share parent number a) (with_child unit c share parent number b)
    child_both c share number parent a b m h =
        let is : List Instance = instance_of unit c share number parent [] ∷ [] in
        back_both a b c (child_process unit share number) (record a.world { store = with_at a.world.store c is }) (record b.world { store = with_at b.world.store c is })
        m h.but.live h.found (λ r. go is r (same-or-other r c)) h.but.system h.turns
      where
        go : (is : List Instance) (r : Name) → (r ≡ c) ⊎ (same r c ≡ false) →
            instances (with_at b.world.store c is) r ≡ other_at r (instances (with_at a.world.store c is) r)
        go is r (inl e) =
            let off : same r p ≡ false = ap (λ z. same z p) e ∙ m in
            ap (instances (with_at b.world.store c is)) e ∙ instances-same b.world.store c is ∙ sym (instances-same a.world.store c is)
            ∙ ap (instances (with_at a.world.store c is)) (sym e) ∙ sym (ap (λ y. if y then own else instances (with_at a.world.store c is) r) off)
        go is r (inr n) =
            instances-other b.world.store c r is n ∙ h.but.store r
            ∙ ap (λ js. if same r p then own else js) (sym (instances-other a.world.store c r is n))

    children_both : (bs : List ℕ) (f k share : ℕ) (parent : Spot) (a b : Processes) → Both a b →
        Both (with_children unit q f k share parent bs a) (with_children unit q f k share parent bs b)
    children_both [] f k share parent a b h = h
    children_both (n ∷ bs) f k share parent a b h =
        children_both bs f (suc k) share parent (with_child unit (child q f k) share parent n a) (with_child unit (child q f k) share parent n b)
        (child_both (child q f k) share n parent a b (off_child f k) h)

    -- ---- what q asks for

    module _ (s t : Processes) (y : Process) (live : t.live ≡ with_at s.live p x) (found : find s.live p ≡ Some old) where
      same_shape : (w u : World) → Differs w u → shape u.store q ≡ shape w.store q
      same_shape w u d = ap frames (d.store q ∙ fixes q (owns_self q) (instances w.store q))

      back_alike : (z : Process) (w u : World) (n : Next) (quiet : Bool) → Differs w u →
          GoesAlike p x own more (went (back s q z w) n quiet) (went (back t q z u) n quiet)
      back_alike z w u n quiet d =
          alike (back s q z w) (back t q z u) n quiet (back_both s t q z w u apart live found d.store d.system d.turns)

      taken_alike : (bs : List ℕ) (work : List Work) (share m n : ℕ) (w u : World) → w.turns ≡ m → u.turns ≡ n → Differs w u →
          GoesAlike p x own more (fork_taken unit s q y bs work w m share) (fork_taken unit t q y bs work u n share)
      taken_alike bs work share zero n w u d e h = λ some. absurd (some refl)
      taken_alike bs work share (suc m) zero w u d e h = absurd (omega (arith, d, e, h.turns))
      taken_alike bs work share (suc m) (suc n) w u d e h =
          subst (λ (fs : List Frame). GoesAlike p x own more (fork_taken unit s q y bs work w (suc m) share)
          (went (with_children unit q (suc y.forks) 0 share (q, length fs - 1) bs (back t q z (record u { turns = n }))) (joins (children q (suc y.forks) 0 (length bs))) false))
          (sym (same_shape w u h))
          (alike _ _ (joins (children q (suc y.forks) 0 (length bs))) false
          (children_both bs (suc y.forks) 0 share (now (shape w.store) q) (back s q z (record w { turns = m })) (back t q z (record u { turns = n }))
          (back_both s t q z (record w { turns = m }) (record u { turns = n }) apart live found h.store h.system (omega (arith, d, e, h.turns)))))
        where
          z : Process
          z = record y { forks = suc y.forks; work = work; standing = waiting (length bs) }

      fork_alike : (bs : List ℕ) (line : ℕ) (work : List Work) (w u : World) → Differs w u →
          GoesAlike p x own more (kernel unit s q y (gives (forks bs line work) w)) (kernel unit t q y (gives (forks bs line work) u))
      fork_alike bs line work w u d =
          subst (λ (n : ℕ). GoesAlike p x own more (kernel unit s q y (gives (forks bs line work) w)) (forked_in n (shape u.store q)))
          (sym (ap length live ∙ as_long s.live p x old found))
          (subst (λ (fs : List Frame). GoesAlike p x own more (kernel unit s q y (gives (forks bs line work) w)) (forked_in (length s.live) fs))
          (sym (same_shape w u d))
          (if_alike (nat_lt most_processes (length s.live + length bs)) _ _ _ _ (ended_alike (outcome.failed cause.ProcessLimit line) w u d)
          (if_alike (list_any (exceeds unit share) bs) _ _ _ _ (ended_alike (outcome.failed cause.VariableLimit line) w u d)
          (taken_alike bs work share w.turns u.turns w u refl refl d))))
        where
          share : ℕ
          share = equal_share (room y.size (shape w.store q)) (length bs)

          forked_in : ℕ → List Frame → Stepped
          forked_in n fs =
              if nat_lt most_processes (n + length bs) then ended (outcome.failed cause.ProcessLimit line) u.system u.turns
              else if list_any (exceeds unit (equal_share (room y.size fs) (length bs))) bs then ended (outcome.failed cause.VariableLimit line) u.system u.turns
              else fork_taken unit t q y bs work u u.turns (equal_share (room y.size fs) (length bs))

      -- the end of q
      rest_both : (w u : World) → Differs w u → Both (rest_of s q w) (rest_of t q u)
      rest_both w u d = record {
        but = record {
          live = ap (λ (l : Table Process). without l q) live ∙ swap_without s.live p q x old found apart;
          store = λ r. go r (same-or-other r q);
          system = d.system;
        };
        turns = d.turns;
        found = find-without-other s.live q p (same-symmetric q p apart) ∙ found;
      }
        where
          go : (r : Name) → (r ≡ q) ⊎ (same r q ≡ false) → instances (without u.store q) r ≡ other_at r (instances (without w.store q) r)
          go r (inl e) =
              ap (instances (without u.store q)) e ∙ instances-gone u.store q
              ∙ sym (ap (instances (without w.store q)) e ∙ instances-gone w.store q)
              ∙ sym (fixes r (subst (Owns q) (sym e) (owns_self q)) (instances (without w.store q) r))
          go r (inr n) = instances-left u.store q r n ∙ d.store r ∙ ap (other_at r) (sym (instances-left w.store q r n))

      less_alike : (a b : Processes) (z : Process) (standing : Standing) → Both a b →
          GoesAlike p x own more (one_less a (parent_of q) z standing) (one_less b (parent_of q) z standing)
      less_alike a b z ready h = alike a b (joins []) false h
      less_alike a b z (at_when cs position) h = alike a b (joins []) false h
      less_alike a b z (waiting n) h =
          alike _ _ (freed (n - 1) (parent_of q)) false
          (back_both a b (parent_of q) (record z { standing = awaits (n - 1) }) a.world b.world above h.but.live h.found h.but.store h.but.system h.turns)

      told_alike : (a b : Processes) (o : Option Process) → Both a b → GoesAlike p x own more (notified a (parent_of q) o) (notified b (parent_of q) o)
      told_alike a b None h = alike a b (joins []) false h
      told_alike a b (Some z) h = less_alike a b z z.standing h

      leave_alike : (w u : World) → Differs w u → GoesAlike p x own more (exited s q w) (exited t q u)
      leave_alike w u d =
          let h : Both (rest_of s q w) (rest_of t q u) = rest_both w u d in
          let parent : find (without t.live q) (parent_of q) ≡ find (without s.live q) (parent_of q) =
          ap (λ (l : Table Process). find l (parent_of q)) h.but.live ∙ find-with_at-other (without s.live q) p (parent_of q) x above in
          subst (λ (o : Option Process). GoesAlike p x own more (exited s q w) (notified (rest_of t q u) (parent_of q) o)) (sym parent)
          (told_alike (rest_of s q w) (rest_of t q u) (find (without s.live q) (parent_of q)) h)

      asks_alike : (a : Asks) (w u : World) → Differs w u → GoesAlike p x own more (kernel unit s q y (gives a w)) (kernel unit t q y (gives a u))
      asks_alike (goes work) w u d = back_alike (record y { work = work; standing = ready }) w u stays false d
      asks_alike (arrives cs position work) w u d = back_alike (record y { work = work; standing = at_when cs position }) w u (joins (q ∷ [])) false d
      asks_alike (again cs position quiet work) w u d = back_alike (record y { work = work; standing = at_when cs position }) w u (joins (q ∷ [])) quiet d
      asks_alike (forks bs line work) w u d = fork_alike bs line work w u d
      asks_alike leaves w u d = leave_alike w u d

      -- THE KERNEL GOES ON ALIKE
      pub kernel_alike : (r v : Evaluation Asks) → Follows (λ z. z) more (λ a w u. Differs w u) r v → GoesAlike p x own more (kernel unit s q y r) (kernel unit t q y v)
      kernel_alike (gives a w) (gives b u) h = subst (λ (c : Asks). GoesAlike p x own more (kernel unit s q y (gives a w)) (kernel unit t q y (gives c u))) h.0 (asks_alike a w u h.1)
      kernel_alike (gives a w) (ends e system turns) h = absurd h
      kernel_alike (ends e system turns) v h = λ some. ap (kernel unit t q y) (h some)
