-- A search that has expanded states has followed all of them, or those of fewer levels.
use Rattle.std.proofs.Common.{◌≡◌, ◌⊎◌, inl, inr, ℕ, zero, suc, ◌-◌, ◌<◌, ◌≤◌, List, length, refl, sym, subst, ◌∙◌, arith}
use Rattle.std.specs.Prelude.{⊤}
use Rattle.edi_calls.specs.Outcome as outcome
use Rattle.edi_calls.specs.Outcome.{Ending}
use Rattle.edi_calls.specs.State.{State}
use Rattle.edi_target.specs.Check.{CodeParts}
use Rattle.edi_kernel.specs.declared.ends.Ending.TheVariants as ending
use Rattle.edi_kernel.specs.declared.ends.StintEnd.{StintEnd}
use Rattle.edi_kernel.specs.declared.ends.StintEnd.TheVariants as stint_end
use Rattle.edi_kernel.specs.declared.state.KernelState.{KernelState}
use Rattle.edi_explored.specs.Covered.{Report, Tells, tells_shown}
use Rattle.edi_explored.specs.machine.Alike.{Alike}
use Rattle.edi_explored.specs.machine.Kernels.{AreKeptOf, AreApart, IsFound, LeadsOn, StintOf, FirstStint, OneGoes, FollowedKernels}
use Rattle.edi_explored.specs.machine.Levels.{StateTable, Nothing, Below, IsExpanded, IsClosed, IsLevelled}

-- ---- what was found stays found

-- the report tells more, and the states that are led to are the same, and had
pub record IsLater (report report' : Report) (table table' : StateTable) (Had Has : ℕ → Type 0) : Type 0 where
  pub tells : (e : Ending) (shown : List ℕ) → Tells report e shown → Tells report' e shown
  pub alike : tells_shown report' ≡ tells_shown report
  pub states : (w : ℕ) → Had w → Has w × (table'.processes w ≡ table.processes w) × (table'.system w ≡ table.system w)

module _ (code : CodeParts) (start : State) (bound : ℕ) (report report' : Report) (table table' : StateTable) (Begun Begun' : ℕ → Type 0)
    (Had Has : ℕ → ℕ → Type 0) (n m : ℕ) (later : IsLater report report' table table' (Had n) (Has m)) where
  abbrev Was : StintEnd → KernelState → State → Type 0
  Was end k now = IsFound code start bound report ℕ table.processes table.slots table.system Begun Had n end k now

  abbrev Is : StintEnd → KernelState → State → Type 0
  Is end k now = IsFound code start bound report' ℕ table'.processes table'.slots table'.system Begun' Has m end k now

  leads : (k : KernelState) (now : State) → LeadsOn code start bound report ℕ table.processes table.slots table.system Begun Had n k now →
      LeadsOn code start bound report' ℕ table'.processes table'.slots table'.system Begun' Has m k now
  leads k now on none =
      let l = on none in
      let s = later.states l.0 l.1 in (
        l.0,
        s.0,
        subst (λ ps. AreKeptOf ps k) (sym s.1) l.2,
        subst (λ t. Alike t (table'.system l.0) now) (sym later.alike) (subst (λ x. Alike (tells_shown report) x now) (sym s.2) l.3),
      )

  pub found_later : (end : StintEnd) (k : KernelState) (now : State) → Was end k now → Is end k now
  found_later (stint_end.Arrived used) k now f = leads k now f
  found_later (stint_end.Forked used) k now f = leads k now f
  found_later (stint_end.Exited used) k now f = leads k now f
  found_later (stint_end.Over used ending.Turns) k now f = f
  found_later (stint_end.Over used ending.Fault) k now f = f
  found_later (stint_end.Over used ending.Standstill) k now f = tt
  found_later (stint_end.Over used ending.Done) k now f = λ e a. later.tells e now.shown (f e a)
  found_later (stint_end.Over used (ending.Halted line)) k now f = λ e a. later.tells e now.shown (f e a)
  found_later (stint_end.Over used (ending.Failed cause line)) k now f = λ e a. later.tells e now.shown (f e a)
  found_later (stint_end.Over used (ending.Bad at)) k now f = λ e a. later.tells e now.shown (f e a)

  pub stint_later : (v index : ℕ) → table'.processes v ≡ table.processes v → table'.slots v ≡ table.slots v → table'.system v ≡ table.system v →
      StintOf code start bound report ℕ table.processes table.slots table.system Begun Had n v index →
      StintOf code start bound report' ℕ table'.processes table'.slots table'.system Begun' Has m v index
  stint_later v index p q r s = record {
    back = s.back;
    is_back = subst (λ ps. Rattle.edi_explored.specs.machine.Kernels.IsBack ps s.back) (sym p) s.is_back;
    order = s.order ∙ sym q;
    taken = s.taken;
    takes = s.takes;
    entering = s.entering;
    end = s.end;
    after = s.after;
    now = s.now;
    goes = λ x name others at. s.goes x name others (subst (λ y. Rattle.edi_kernel.specs.Runs.IsAt code s.taken y bound x name others) r at);
    kernel = s.kernel;
    long = s.long;
    free = s.free;
    found = found_later s.end s.after s.now s.found;
  }

  pub first_later : FirstStint code start bound report ℕ table.processes table.slots table.system Begun Had n →
      FirstStint code start bound report' ℕ table'.processes table'.slots table'.system Begun' Has m
  first_later s = record {
    started = s.started;
    starts = s.starts;
    end = s.end;
    after = s.after;
    now = s.now;
    goes = s.goes;
    kernel = s.kernel;
    long = s.long;
    free = s.free;
    found = found_later s.end s.after s.now s.found;
  }

  pub goes_later : (v : ℕ) → table'.processes v ≡ table.processes v → table'.slots v ≡ table.slots v → table'.system v ≡ table.system v →
      OneGoes code start bound report ℕ table.processes table.slots table.system Begun Had n v →
      OneGoes code start bound report' ℕ table'.processes table'.slots table'.system Begun' Has m v
  unfolding stint_later
  goes_later v p q r x = record {
    index = x.index;
    among = subst (λ xs. x.index < length xs) (sym q) x.among;
    one = stint_later v x.index p q r x.one;
    goes = x.goes;
  }

-- A STATE THAT WAS EXPANDED stays so
pub expanded_later : (code : CodeParts) (start : State) (bound : ℕ) (report report' : Report) (table table' : StateTable) (next next' v : ℕ) →
    IsLater report report' table table' (Below code start bound report table next 0) (Below code start bound report' table' next' 0) →
    table'.processes v ≡ table.processes v → table'.slots v ≡ table.slots v → table'.system v ≡ table.system v →
    IsExpanded code start bound report table next v → IsExpanded code start bound report' table' next' v
expanded_later code start bound report report' table table' next next' v later p q r x = record {
  follows = λ apart index among.
      stint_later code start bound report report' table table' (Nothing code start bound report table) (Nothing code start bound report' table')
      (Below code start bound report table next) (Below code start bound report' table' next') 0 0 later v index p q r
      (x.follows (subst AreApart p apart) index (subst (λ xs. index < length xs) q among));
  stands = λ apart. elim (x.stands (subst AreApart p apart)) [
    | inl told ↦ inl (later.tells outcome.standstill (table'.system v).shown
        (subst (λ (y : State). Tells report outcome.standstill y.shown) (sym r) told))
    | inr goes ↦ inr (goes_later code start bound report report' table table' (Nothing code start bound report table) (Nothing code start bound report' table')
        (Below code start bound report table next) (Below code start bound report' table' next') 0 0 later v p q r goes)
  ];
}

-- ---- all states, and those of fewer levels

module _ (code : CodeParts) (start : State) (bound : ℕ) (report : Report) (table : StateTable) where
  -- the same report and states, of which others are had
  pub same_later : (Had Has : ℕ → Type 0) → ((w : ℕ) → Had w → Has w) → IsLater report report table table Had Has
  same_later Had Has h = record { tells = λ e s t. t; alike = refl; states = λ w i. (h w i, refl, refl) }

  abbrev Followed : (ℕ → Type 0) → (ℕ → ℕ → Type 0) → Type 0
  Followed Begun Has = FollowedKernels code start bound report ℕ table.processes table.slots table.system Begun Has

  abbrev None : ℕ → Type 0
  None = Nothing code start bound report table

  abbrev Under : ℕ → ℕ → ℕ → Type 0
  Under = Below code start bound report table

  pub closed_followed : (count : ℕ) → IsClosed code start bound report table count → Followed (λ n. ⊤) (λ n v. v < count)
  closed_followed count c = record {
    some = c.some;
    first = λ n h. first_later code start bound report report table table None (λ n. ⊤) (Under count) (λ n v. v < count) 0 n
        (same_later (Under count 0) (λ v. v < count) (λ w l. l)) c.first;
    kept = λ n v h. c.kept v h;
    follows = λ n v h apart index among. stint_later code start bound report report table table None (λ n. ⊤) (Under count) (λ n v. v < count) 0 n
        (same_later (Under count 0) (λ v. v < count) (λ w l. l)) v index refl refl refl ((c.expanded v h).follows apart index among);
    stands = λ n v h apart. elim ((c.expanded v h).stands apart) [
      | inl told ↦ inl told
      | inr goes ↦ inr (goes_later code start bound report report table table None (λ n. ⊤) (Under count) (λ n v. v < count) 0 n
          (same_later (Under count 0) (λ v. v < count) (λ w l. l)) v refl refl refl goes)
    ];
  }

  module _ (starts : ℕ → ℕ) (depth : ℕ) (l : IsLevelled code start bound report table starts depth) where
    abbrev HasLevel : ℕ → ℕ → Type 0
    HasLevel n v = v < starts (suc depth - n)

    abbrev BegunLevel : ℕ → Type 0
    BegunLevel n = n ≤ suc depth

    rises_to : (i j : ℕ) → i ≤ j → starts i ≤ starts j
    rises_to i zero h = let e : 0 ≡ i = omega (arith, h) in subst (λ k. starts k ≤ starts 0) e (omega arith)
    rises_to i (suc j) h = go (last i j h) (λ k. rises_to i j k)
      where
        last : (i j : ℕ) → i ≤ suc j → (i ≤ j) ⊎ (i ≡ suc j)
        last i j h = grind (arith, h)

        go : (i ≤ j) ⊎ (i ≡ suc j) → (i ≤ j → starts i ≤ starts j) → starts i ≤ starts (suc j)
        go (inl k) more = omega (arith, more k, l.rises j)
        go (inr e) more = subst (λ k. starts k ≤ starts (suc j)) (sym e) (omega arith)

    -- the depth of a state
    record IsAtDepth (v k : ℕ) : Type 0 where
      at : ℕ
      below : at < k
      from : starts at ≤ v
      to : v < starts (suc at)

    depth_of : (v k : ℕ) → v < starts k → IsAtDepth v k
    depth_of v zero h = absurd (omega (arith, h, l.begins))
    depth_of v (suc k) h = go (split v (starts k)) (depth_of v k)
      where
        split : (a b : ℕ) → (a < b) ⊎ (b ≤ a)
        split a b = grind arith

        go : (v < starts k) ⊎ (starts k ≤ v) → (v < starts k → IsAtDepth v k) → IsAtDepth v (suc k)
        go (inl less) more = let r = more less in record { at = r.at; below = omega (arith, r.below); from = r.from; to = r.to }
        go (inr high) more = record { at = k; below = omega arith; from = high; to = h }

    -- what a state at a depth leads to is had
    reaches : (n v : ℕ) (d : IsAtDepth v (suc depth - suc n)) (w : ℕ) → w < starts (suc (suc d.at)) → HasLevel n w
    reaches n v d w h = omega (arith, h, rises_to (suc (suc d.at)) (suc depth - n) (omega (arith, d.below)))

    expanded_at : (n v : ℕ) (d : IsAtDepth v (suc depth - suc n)) → IsExpanded code start bound report table (starts (suc (suc d.at))) v
    expanded_at n v d = l.expanded d.at v (omega (arith, d.below)) d.from d.to

    pub levels_followed : Followed BegunLevel HasLevel
    levels_followed = record {
      some = l.some;
      first = λ n h. first_later code start bound report report table table None BegunLevel (Under (starts 1)) HasLevel 0 n
          (same_later (Under (starts 1) 0) (HasLevel n) (λ w k. omega (arith, k, rises_to 1 (suc depth - n) (omega (arith, h))))) l.first;
      kept = λ n v h. l.kept v (omega (arith, h, rises_to (suc depth - suc n) depth (omega arith)));
      follows = λ n v h apart index among.
          let d = depth_of v (suc depth - suc n) h in
          stint_later code start bound report report table table None BegunLevel (Under (starts (suc (suc d.at)))) HasLevel 0 n
          (same_later (Under (starts (suc (suc d.at))) 0) (HasLevel n) (reaches n v d)) v index refl refl refl ((expanded_at n v d).follows apart index among);
      stands = λ n v h apart.
          let d = depth_of v (suc depth - suc n) h in
          elim ((expanded_at n v d).stands apart) [
            | inl told ↦ inl told
            | inr goes ↦ inr (goes_later code start bound report report table table None BegunLevel (Under (starts (suc (suc d.at)))) HasLevel 0 n
                (same_later (Under (starts (suc (suc d.at))) 0) (HasLevel n) (reaches n v d)) v refl refl refl goes)
          ];
    }
