-- A stint of a kernel to which a state was put back, as the laws of a search speak of it.
use Rattle.std.proofs.Common.{◌≡◌, ◌⊎◌, inl, inr, ℕ, ◌-◌, ◌<◌, ◌^◌, Bool, false, ◌||◌, List, [], ◌∷◌, ◌++◌, length, Option, Some, None, refl, sym, ap, subst, ◌∙◌}
use Rattle.edi_calls.specs.Names.{Name, same}
use Rattle.edi_calls.specs.Outcome as outcome
use Rattle.edi_calls.specs.Outcome.{Ending}
use Rattle.edi_calls.specs.Ready.{has}
use Rattle.edi_calls.specs.State.{State}
use Rattle.edi_calls.proofs.Tables.{same-refl}
use Rattle.edi_target.specs.Check.{CodeParts}
use Rattle.edi_target.specs.Fetch.{fetch}
use Rattle.edi_target.specs.Mach.{Machine}
use Rattle.edi_kernel.specs.Stints.{Stint, stint, switched, over}
use Rattle.edi_kernel.specs.declared.ends.Ending.TheVariants as ending
use Rattle.edi_kernel.specs.declared.ends.StintEnd.{StintEnd}
use Rattle.edi_kernel.specs.declared.ends.StintEnd.TheVariants as stint_end
use Rattle.edi_kernel.specs.declared.kept.Kept.{Kept}
use Rattle.edi_kernel.specs.declared.state.KernelState.{KernelState}
use Rattle.edi_kernel.specs.Kernel.{IsKernel, Holds, EndsAs, Switches, EndsRun, GoesTo, is_over}
use Rattle.edi_kernel.specs.Kept.{restarted}
use Rattle.edi_kernel.proofs.Again.{mark_count}
use Rattle.edi_follows.specs.places.Coded.{Coded}
use Rattle.edi_follows.specs.places.Related.{Related}
use Rattle.edi_explored.specs.Covered.{Report, Tells, tells_shown}
use Rattle.edi_explored.specs.machine.Alike.{Alike}
use Rattle.edi_explored.specs.machine.Machines.{Fails, ServesAs}
use Rattle.edi_explored.specs.machine.PutBacks.{KeepsBy, IsFollowed}
use Rattle.edi_explored.specs.machine.Kernels.{IsBack, IsCodeOf, IsFailed, LeadsOn, IsFound}
use Rattle.edi_explored.proofs.Members.{last_has}
use Rattle.edi_explored.proofs.machine.Again.{holds_by_name}
use Rattle.edi_explored.proofs.machine.PutBacks.{IsOver, determined}
use Rattle.edi_explored.proofs.machine.Kernels.{same_processes}

module _ (g : Coded) (code : CodeParts) (is : IsCodeOf g code) (start : State) (bound : ℕ) (report : Report) (V : Type 0) (processes : V → List Kept)
    (slots : V → List ℕ) (system : V → State) (Begun : ℕ → Type 0) (Has : ℕ → V → Type 0) where
  abbrev told : Bool
  told = tells_shown report

  -- ---- what is put back

  -- a kernel that has what is kept is this machine, with turns for a stint
  pub record IsPut (v : V) (t : Machine) (order : List Name) : Type 0 where
    pub kernel : KernelState
    pub back : IsBack (processes v) kernel
    pub holds : Holds kernel t None order
    pub marks : t.marks ≡ []
    pub turns : t.turns ≡ bound
    pub is_system : t.system ≡ system v

  abbrev pub PutBack : Option V → Machine → List Name → Type 0
  PutBack None t order = ⊥
  PutBack (Some v) t order = IsPut v t order

  abbrev pub HasIt : ℕ → Option V → Type 0
  HasIt n None = Begun n
  HasIt n (Some v) = Has n v

  abbrev Known : ℕ → List Name → Stint → Type 0
  Known n rest x = IsFollowed g start report (Option V) None PutBack HasIt n rest x

  abbrev Keeps : Option V → Machine → List Name → Type 0
  Keeps v t names = KeepsBy g start report (Option V) None PutBack HasIt v t names

  abbrev Found : ℕ → StintEnd → KernelState → State → Type 0
  Found n end k now = IsFound code start bound report V processes slots system Begun Has n end k now

  abbrev On : ℕ → KernelState → State → Type 0
  On n k now = LeadsOn code start bound report V processes slots system Begun Has n k now

  -- ---- where a stint leads

  -- the kernel behind a stint that leaves nobody marked is what it is kept as
  keeps_on : (n : ℕ) (k : KernelState) (now : State) (u : Machine) (names : List Name) → IsKernel k → k.taken ≡ None → length k.store ≡ 2 ^ 16 →
      Holds k u None names → u.system ≡ now → On n k now → u.marks ≡ [] →
      (w : Option V) × HasIt n w × (m : List ℕ) × ServesAs g u m × Keeps w (record u { memory = m }) names
  keeps_on n k now u names kernel free long h same on unmarked =
      let none : k.table.marks ≡ 0 = (mark_count k u names kernel free h).none unmarked in
      let l = on none in
      let b : IsBack (processes l.0) k = record { kernel = kernel; free = free; unmarked = kernel.table.clear none; long = long; has = l.2 } in
      let t : Machine = restarted u k.store bound (system l.0) in
      let again : Holds k t None names =
      subst (Holds k t None) (sym h.is_ready)
      (holds_by_name k k u names bound (system l.0) kernel kernel h (same_processes (processes l.0) k k b b)) in (
        Some l.0,
        l.1,
        k.store,
        (λ s r. subst (λ m. Related g s (record u { memory = m })) h.memory r),
        record {
          machine = t;
          order = names;
          put = record { kernel = k; back = b; holds = again; marks = refl; turns = refl; is_system = refl };
          other = record { memory = refl; activities = refl; system = subst (Alike told (system l.0)) (sym same) l.3 };
          reordered = record { members = λ x. refl; once = λ o. o };
        },
      )

  -- ---- what a stint came to

  switch_known : (n left : ℕ) (k : KernelState) (now : State) (m : Machine) (p : Name) (rest : List Name) → Switches code.words left k now m p rest →
      IsKernel k → k.taken ≡ None → length k.store ≡ 2 ^ 16 → On n k now → (steps : ℕ) × Known n rest (stint (fetch code.words) steps m p rest)
  switch_known n left k now m p rest h kernel free long on =
      (h.steps, subst (Known n rest) (sym h.is) (λ e. keeps_on n k now h.machine (rest ++ h.joined) kernel free long h.holds h.system on e))

  end_known : (n left : ℕ) (e : Rattle.edi_kernel.specs.declared.ends.Ending.Ending) (k : KernelState) (now : State) (m : Machine) (p : Name) (rest : List Name)
      (h : EndsRun code.words left e k now m p rest) → (h.end ≡ outcome.turns → ⊥) → (h.end ≡ outcome.standstill) ⊎ Tells report h.end now.shown →
      (steps : ℕ) × Known n rest (stint (fetch code.words) steps m p rest)
  end_known n left e k now m p rest h uncut told = (
    h.steps,
    subst (Known n rest) (sym h.is) (
      uncut,
      elim told [
        | inl s ↦ inl s
        | inr t ↦ inr (subst (Tells report h.end) (sym (ap (λ (y : State). y.shown) h.system)) t)
      ],
    ),
  )

  stands_as : (e : Ending) → EndsAs e ending.Standstill → e ≡ outcome.standstill
  stands_as outcome.standstill s = refl
  stands_as outcome.done s = absurd s
  stands_as (outcome.halted line) s = absurd s
  stands_as (outcome.failed cause line) s = absurd s
  stands_as outcome.turns s = absurd s
  stands_as (outcome.bad address) s = absurd s

  pub goes_known : (n : ℕ) (end : StintEnd) (k : KernelState) (now : State) (m : Machine) (p : Name) (rest : List Name) →
      GoesTo code.words end bound k now m p rest → IsKernel k → (is_over end ≡ false → k.taken ≡ None) → length k.store ≡ 2 ^ 16 → Found n end k now →
      (steps : ℕ) × Known n rest (stint (fetch code.words) steps m p rest)
  goes_known n (stint_end.Arrived used) k now m p rest h kernel free long on = switch_known n (bound - used) k now m p rest h.0 kernel (free refl) long on
  goes_known n (stint_end.Forked used) k now m p rest h kernel free long on = switch_known n (bound - used) k now m p rest h.0 kernel (free refl) long on
  goes_known n (stint_end.Exited used) k now m p rest h kernel free long on = switch_known n (bound - used) k now m p rest h.0 kernel (free refl) long on
  goes_known n (stint_end.Over used ending.Turns) k now m p rest h kernel free long f = absurd f
  goes_known n (stint_end.Over used ending.Fault) k now m p rest h kernel free long f = absurd f
  goes_known n (stint_end.Over used ending.Standstill) k now m p rest h kernel free long f =
      let s : h.0.end ≡ outcome.standstill = stands_as h.0.end h.0.same in
      end_known n (bound - used) ending.Standstill k now m p rest h.0
      (λ t. subst (λ x. EndsAs x ending.Standstill) t h.0.same) (inl s)
  goes_known n (stint_end.Over used ending.Done) k now m p rest h kernel free long f =
      end_known n (bound - used) ending.Done k now m p rest h (λ t. subst (λ x. EndsAs x ending.Done) t h.same) (inr (f h.end h.same))
  goes_known n (stint_end.Over used (ending.Halted line)) k now m p rest h kernel free long f =
      end_known n (bound - used) (ending.Halted line) k now m p rest h (λ t. subst (λ x. EndsAs x (ending.Halted line)) t h.same) (inr (f h.end h.same))
  goes_known n (stint_end.Over used (ending.Failed cause line)) k now m p rest h kernel free long f =
      end_known n (bound - used) (ending.Failed cause line) k now m p rest h
      (λ t. subst (λ x. EndsAs x (ending.Failed cause line)) t h.same) (inr (f h.end h.same))
  goes_known n (stint_end.Over used (ending.Bad at)) k now m p rest h kernel free long f =
      end_known n (bound - used) (ending.Bad at) k now m p rest h (λ t. subst (λ x. EndsAs x (ending.Bad at)) t h.same) (inr (f h.end h.same))

  -- ---- who has only failed

  same_stint : (a b : ℕ) (m : Machine) (p : Name) (rest : List Name) (x y : Stint) → IsOver x → IsOver y → stint (fetch code.words) a m p rest ≡ x →
      stint g.fetched b m p rest ≡ y → x ≡ y
  same_stint a b m p rest x y o q h k =
      let here : stint g.fetched a m p rest ≡ x = ap (λ f. stint f a m p rest) is.fetched ∙ h in
      sym here ∙ determined g a b m p rest (subst IsOver (sym here) o) (subst IsOver (sym k) q) ∙ k

  same_end : (a b : Ending) (u v : Machine) → over a u ≡ over b v → a ≡ b
  same_end a b u v e = cc

  not_both : (a : Ending) (u v : Machine) (joined : List Name) → over a u ≡ switched v joined → ⊥
  not_both a u v joined e = absurd (cc)

  same_switch : (u v : Machine) (a b : List Name) → switched u a ≡ switched v b → (u ≡ v) × (a ≡ b)
  same_switch u v a b e = (cc, cc)

  -- one that ends the run in another way has not failed
  end_stands : (left : ℕ) (e : Rattle.edi_kernel.specs.declared.ends.Ending.Ending) (k : KernelState) (now : State) (m : Machine) (p : Name) (rest : List Name) →
      EndsRun code.words left e k now m p rest → Fails g m p rest → EndsAs outcome.standstill e
  end_stands left e k now m p rest h (b, u, inl s) =
      subst (λ x. EndsAs x e) (same_end h.end outcome.standstill h.machine u
      (same_stint h.steps b m p rest (over h.end h.machine) (over outcome.standstill u) tt tt h.is s)) h.same
  end_stands left e k now m p rest h (b, u, inr s) =
      absurd (not_both h.end h.machine u (p ∷ []) (same_stint h.steps b m p rest (over h.end h.machine) (switched u (p ∷ [])) tt tt h.is s.0))

  switch_marks : (left : ℕ) (k : KernelState) (now : State) (m : Machine) (p : Name) (rest : List Name) → Switches code.words left k now m p rest →
      IsKernel k → k.taken ≡ None → Fails g m p rest → 0 < k.table.marks
  switch_marks left k now m p rest h kernel free (b, u, inl s) =
      absurd (not_both outcome.standstill u h.machine h.joined
      (sym (same_stint h.steps b m p rest (switched h.machine h.joined) (over outcome.standstill u) tt tt h.is s)))
  switch_marks left k now m p rest h kernel free (b, u, inr s) =
      let e = same_switch h.machine u h.joined (p ∷ []) (same_stint h.steps b m p rest (switched h.machine h.joined) (switched u (p ∷ [])) tt tt h.is s.0) in
      (mark_count k h.machine (rest ++ h.joined) kernel free h.holds).some p
      (ap (λ j. has (rest ++ j) p) e.1 ∙ last_has rest p)
      (ap (λ (x : Machine). has x.marks p) e.0 ∙ ap (λ l. has l p) s.1 ∙ ap (λ b. b || false) (same-refl p))

  pub goes_failed : (n : ℕ) (end : StintEnd) (k : KernelState) (now : State) (m : Machine) (p : Name) (rest : List Name) →
      GoesTo code.words end bound k now m p rest → IsKernel k → (is_over end ≡ false → k.taken ≡ None) → Found n end k now → Fails g m p rest →
      IsFailed end k
  goes_failed n (stint_end.Arrived used) k now m p rest h kernel free f fails = switch_marks (bound - used) k now m p rest h.0 kernel (free refl) fails
  goes_failed n (stint_end.Forked used) k now m p rest h kernel free f fails = switch_marks (bound - used) k now m p rest h.0 kernel (free refl) fails
  goes_failed n (stint_end.Exited used) k now m p rest h kernel free f fails = switch_marks (bound - used) k now m p rest h.0 kernel (free refl) fails
  goes_failed n (stint_end.Over used ending.Turns) k now m p rest h kernel free f fails = absurd f
  goes_failed n (stint_end.Over used ending.Fault) k now m p rest h kernel free f fails = absurd f
  goes_failed n (stint_end.Over used ending.Standstill) k now m p rest h kernel free f fails = tt
  goes_failed n (stint_end.Over used ending.Done) k now m p rest h kernel free f fails = end_stands (bound - used) ending.Done k now m p rest h fails
  goes_failed n (stint_end.Over used (ending.Halted line)) k now m p rest h kernel free f fails =
      end_stands (bound - used) (ending.Halted line) k now m p rest h fails
  goes_failed n (stint_end.Over used (ending.Failed cause line)) k now m p rest h kernel free f fails =
      end_stands (bound - used) (ending.Failed cause line) k now m p rest h fails
  goes_failed n (stint_end.Over used (ending.Bad at)) k now m p rest h kernel free f fails =
      end_stands (bound - used) (ending.Bad at) k now m p rest h fails
