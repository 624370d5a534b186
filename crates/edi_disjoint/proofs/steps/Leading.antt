-- A step that keeps to itself may come before any permitted steps of others, or after them.
use Rattle.std.proofs.Common.{◌≡◌, ℕ, ◌+◌, Bool, true, false, ◌||◌, if◌then◌else◌, List, [], ◌∷◌, ◌++◌, refl, sym, ap, subst, ◌∙◌}
use Rattle.edi_calls.specs.Names.{Name, same, find}
use Rattle.edi_calls.specs.Outcome.{Ending}
use Rattle.edi_calls.specs.Ready.{Next, has}
use Rattle.edi_calls.specs.State.{State, Traced}
use Rattle.edi_calls.proofs.Tables.{same-refl, same-symmetric, find-with_at-other}
use Rattle.edi_unit.specs.Tree.{ProgramUnit}
use Rattle.edi_meaning.specs.Store.{Instance}
use Rattle.edi_meaning.specs.Step.{Process, Processes, Stepped, went, ended, step, start}
use Rattle.edi_meaning.specs.Permitted.{is_running_process, may_step, at, nowhere, onward, permitted}
use Rattle.edi_disjoint.specs.steps.Own.{IsBut, FindsSame, KeepsToItself, GoesAlike, PassesBy, LeadsAlike, OwnStepsComeBefore}
use Rattle.edi_disjoint.proofs.steps.Passing.{own_steps_pass}

-- ---- an order of steps with one more at its end

pub same_state : (s t : Processes) → at s ≡ at t → s ≡ t
same_state s t e = cc

module _ (unit : ProgramUnit) (q : Name) (s a : Processes) (n : Next) (quiet : Bool) (may : may_step s q ≡ true) (goes : step unit s q ≡ went a n quiet) where
  -- the step itself
  one_more : permitted unit (q ∷ []) s ≡ at a
  one_more =
      ap (λ b. if b then onward (step unit s q) [] (permitted unit []) else nowhere) may ∙ ap (λ x. onward x [] (permitted unit [])) goes

  tested : (b : Bool) (x : Stepped) (ps : List Name) (before : (f : Processes) → permitted unit ps f ≡ at s → permitted unit (ps ++ q ∷ []) f ≡ at a) →
      (if b then onward x ps (permitted unit ps) else nowhere) ≡ at s → (if b then onward x (ps ++ q ∷ []) (permitted unit (ps ++ q ∷ [])) else nowhere) ≡ at a
  tested true (went f m other) ps before e = before f e
  tested true (ended ending system turns) [] before e = absurd (cc)
  tested true (ended ending system turns) (p ∷ ps) before e = absurd (cc)
  tested false x ps before e = absurd (cc)

  pub further : (order : List Name) (f : Processes) → permitted unit order f ≡ at s → permitted unit (order ++ q ∷ []) f ≡ at a
  further [] f e = ap (permitted unit (q ∷ [])) (same_state f s e) ∙ one_more
  further (p ∷ ps) f e = tested (may_step f p) (step unit f p) ps (λ g h. further ps g h) e

-- ---- what p finds

pub finds_itself : (p : Name) (s : Processes) → FindsSame p s s
finds_itself p s = record { process = refl; own = refl; frames = λ r o. refl; references = λ r d k o. refl }

pub finds_on : (p : Name) (s a t : Processes) → FindsSame p s a → FindsSame p a t → FindsSame p s t
finds_on p s a t h k = record {
  process = k.process ∙ h.process;
  own = k.own ∙ h.own;
  frames = λ r o. k.frames r o ∙ h.frames r o;
  references = λ r depth variable o. k.references r depth variable o ∙ h.references r depth variable o;
}

-- where p finds the same its next step keeps to itself as well
abbrev pub keeps_on : (unit : ProgramUnit) (s a : Processes) (p : Name) → KeepsToItself unit s p → FindsSame p s a → KeepsToItself unit a p
keeps_on unit s a p k h = record {
  process = k.process;
  found = h.process ∙ k.found;
  runs = k.runs;
  after = k.after;
  own = k.own;
  next = k.next;
  quiet = k.quiet;
  taken = k.taken;
  enough = k.enough;
  goes = λ t f enough. k.goes t (finds_on p s a t h f) enough;
  either = λ t f. k.either t (finds_on p s a t h f);
}

-- ---- names that are not p

both_false : (a b : Bool) → (a || b) ≡ false → (a ≡ false) × (b ≡ false)
both_false true b e = absurd (cc)
both_false false b e = (refl, e)

different_from : (p q : Name) → same p q ≡ false → p ≡ q → ⊥
different_from p q m e = let a : true ≡ false = sym (same-refl p) ∙ ap (same p) e ∙ m in absurd (cc)

-- ---- the walk along the order

module _ (unit : ProgramUnit) (system : State) (bound : ℕ) (p : Name) where
  abbrev Comes : List Name → Processes → Type 0
  Comes order s = permitted unit order (start unit system bound) ≡ at s

  -- behind the steps p finds the same
  abbrev Stay : List Name → Type 0
  Stay names =
      (order : List Name) (s : Processes) → Comes order s → (k : KeepsToItself unit s p) → has names p ≡ false → (a : Processes) →
      permitted unit names s ≡ at a → FindsSame p s a

  stays_by : (qs : List Name) → Stay qs → (order : List Name) (s : Processes) (q : Name) → Comes order s → (k : KeepsToItself unit s p) → same p q ≡ false →
      has qs p ≡ false → (a : Processes) → (b : Bool) → may_step s q ≡ b → (x : Stepped) → step unit s q ≡ x →
      (if b then onward x qs (permitted unit qs) else nowhere) ≡ at a → FindsSame p s a
  stays_by qs rest order s q comes k m off a true may (went c n quiet) goes e =
      let h : FindsSame p s c = (own_steps_pass unit system bound order s p q comes k (different_from p q m) may).stays c n quiet goes in
      finds_on p s c a h (rest (order ++ q ∷ []) c (further unit q s c n quiet may goes order (start unit system bound) comes) (keeps_on unit s c p k h) off a e)
  stays_by [] rest order s q comes k m off a true may (ended ending system' turns) goes e = absurd (cc)
  stays_by (r ∷ rs) rest order s q comes k m off a true may (ended ending system' turns) goes e = absurd (cc)
  stays_by qs rest order s q comes k m off a false may x goes e = absurd (cc)

  stays_along : (names : List Name) → Stay names
  stays_along [] order s comes k off a e = subst (FindsSame p s) (same_state s a e) (finds_itself p s)
  stays_along (q ∷ qs) order s comes k off a e =
      let o : (same p q ≡ false) × (has qs p ≡ false) = both_false (same p q) (has qs p) off in
      stays_by qs (stays_along qs) order s q comes k o.0 o.1 a (may_step s q) refl (step unit s q) refl e

  -- where p has done its step, all goes alike
  module _ (after : Process) (own : List Instance) (more : ℕ) where
    ended_alike : (qs : List Name) (e : Ending) (rest : Traced) (turns : ℕ) (y : Stepped) → GoesAlike p after own more (ended e rest turns) y →
        LeadsAlike p after own more (onward (ended e rest turns) qs (permitted unit qs)) (onward y qs (permitted unit qs))
    ended_alike [] e rest turns y h = λ some. ap (λ z. onward z [] (permitted unit [])) (h some)
    ended_alike (q ∷ qs) e rest turns y h = tt

    -- p makes this of itself by its next step
    record Makes (s : Processes) (k : KeepsToItself unit s p) : Type 0 where
      process : k.after ≡ after
      instances : k.own ≡ own

    abbrev Alike : List Name → Type 0
    Alike names =
        (order : List Name) (s t : Processes) → Comes order s → (k : KeepsToItself unit s p) → Makes s k → has names p ≡ false →
        IsBut p after own s t → t.world.turns ≡ s.world.turns + more → LeadsAlike p after own more (permitted unit names s) (permitted unit names t)

    stepped : (qs : List Name) → Alike qs → (order : List Name) (s : Processes) (q : Name) → Comes order s → (k : KeepsToItself unit s p) → Makes s k →
        has qs p ≡ false → may_step s q ≡ true → (x : Stepped) → step unit s q ≡ x → (y : Stepped) →
        ((c : Processes) (n : Next) (quiet : Bool) → step unit s q ≡ went c n quiet → FindsSame p s c) → GoesAlike p after own more x y →
        LeadsAlike p after own more (onward x qs (permitted unit qs)) (onward y qs (permitted unit qs))
    stepped qs rest order s q comes k makes off may (went c n quiet) goes (went d j other) stays h =
        rest (order ++ q ∷ []) c d (further unit q s c n quiet may goes order (start unit system bound) comes)
        (keeps_on unit s c p k (stays c n quiet goes)) (record { process = makes.process; instances = makes.instances }) off h.0 h.1
    stepped qs rest order s q comes k makes off may (went c n quiet) goes (ended e system' turns) stays h = absurd h
    stepped qs rest order s q comes k makes off may (ended e system' turns) goes y stays h = ended_alike qs e system' turns y h

    alike_by : (qs : List Name) → Alike qs → (order : List Name) (s t : Processes) (q : Name) → Comes order s → (k : KeepsToItself unit s p) → Makes s k →
        same p q ≡ false → has qs p ≡ false → IsBut p after own s t → t.world.turns ≡ s.world.turns + more → (b : Bool) → may_step s q ≡ b →
        LeadsAlike p after own more (if b then onward (step unit s q) qs (permitted unit qs) else nowhere)
        (if b then onward (step unit t q) qs (permitted unit qs) else nowhere)
    alike_by qs rest order s t q comes k makes m off but turns false may = tt
    alike_by qs rest order s t q comes k makes m off but turns true may =
        let pass : PassesBy unit s p k q = own_steps_pass unit system bound order s p q comes k (different_from p q m) may in
        stepped qs rest order s q comes k makes off may (step unit s q) refl (step unit t q)
        (λ c n quiet goes. pass.stays c n quiet goes)
        (subst (λ (z : Process). GoesAlike p z own more (step unit s q) (step unit t q)) makes.process
        (subst (λ (z : List Instance). GoesAlike p k.after z more (step unit s q) (step unit t q)) makes.instances
        (pass.alike t more (subst (λ (z : List Instance). IsBut p k.after z s t) (sym makes.instances) (subst (λ (z : Process). IsBut p z own s t) (sym makes.process) but)) turns)))

    alike_along : (names : List Name) → Alike names
    alike_along [] order s t comes k makes off but turns = (t, refl, but, turns)
    alike_along (q ∷ qs) order s t comes k makes off but turns =
        let o : (same p q ≡ false) × (has qs p ≡ false) = both_false (same p q) (has qs p) off in
        let found : find t.live q ≡ find s.live q = ap (λ l. find l q) but.live ∙ find-with_at-other s.live p q after (same-symmetric p q o.0) in
        subst (λ (b : Bool). LeadsAlike p after own more (permitted unit (q ∷ qs) s) (if b then onward (step unit t q) qs (permitted unit qs) else nowhere))
        (sym (ap is_running_process found))
        (alike_by qs (alike_along qs) order s t q comes k makes o.0 o.1 but turns (may_step s q) refl)

pub own_steps_come_before : OwnStepsComeBefore
own_steps_come_before unit system bound order s p names comes k off = record {
  stays = λ a e. stays_along unit system bound p names order s comes k off a e;
  alike = λ t more but turns. alike_along unit system bound p k.after k.own more names order s t comes k (record { process = refl; instances = refl }) off but turns;
}
