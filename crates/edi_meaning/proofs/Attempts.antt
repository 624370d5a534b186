-- An attempt at a `when` is one step, with all of its body.
use Rattle.std.proofs.Common.{◌≡◌, ℕ, zero, suc, Bool, true, false, if◌then◌else◌, List, [], ◌∷◌, ◌++◌, Option, Some, None, refl, sym, subst, ap, ◌∙◌}
use Rattle.edi_calls.specs.Names.{Name}
use Rattle.edi_unit.specs.Tree as tree
use Rattle.edi_unit.specs.Tree.{Acts, Clauses, ProgramUnit}
use Rattle.edi_unit.specs.Values.{Value, is_true}
use Rattle.edi_meaning.specs.Evaluation.{World, Evaluation, gives, ends, ◌>>=◌, turn_from, turn}
use Rattle.edi_meaning.specs.Whole.{expression, acts, first, below, whole_first}
use Rattle.edi_meaning.specs.Step.{Position, Standing, at_when, Asks, goes, again, is_quiet, local_step, Process, Processes, Stepped, went, ended, kernel}
use Rattle.edi_meaning.specs.Step.{step_of, step, start}
use Rattle.edi_meaning.specs.Permitted.{is_running, is_running_process, may_step, at, nowhere, onward, permitted}
use Rattle.edi_meaning.specs.Laws.{IsWhole, AttemptsAreWhole}
use Rattle.edi_meaning.specs.Attempts.{tested, IsExecuted, IsFailed, IsAttempt, AttemptsExecute, AttemptsAreOneStep}

module _ (unit : ProgramUnit) (s : Processes) (p : Name) (q : Process) (cs : Clauses) (position : Position) where
  failed_is_whole : (n : ℕ) (w : World) → IsWhole s p q cs position (kernel unit s p q (turn_from n w (gives (again cs position (is_quiet cs) q.work))))
  failed_is_whole zero w = tt
  failed_is_whole (suc n) w = (refl, refl, refl)

  run_is_whole : (r : Evaluation Bool) → IsWhole s p q cs position
      (kernel unit s p q (r >>= λ ran w. if ran then gives (goes q.work) w else turn w (gives (again cs position (is_quiet cs) q.work))))
  run_is_whole (gives true w) = (refl, refl)
  run_is_whole (gives false w) = failed_is_whole w.turns w
  run_is_whole (ends ending system turns) = tt

  standing_is_whole : (standing : Standing) → standing ≡ at_when cs position
      → IsWhole s p q cs position (kernel unit s p q (local_step unit p q.size standing q.work s.world))
  standing_is_whole standing e =
      let P : Standing → Type 0 = λ x. IsWhole s p q cs position (kernel unit s p q (local_step unit p q.size x q.work s.world)) in
      subst P (sym e) (run_is_whole (whole_first unit p q.size cs s.world))

pub attempts_are_whole : AttemptsAreWhole
attempts_are_whole unit s p q cs position found e =
    let P : Option Process → Type 0 = λ x. IsWhole s p q cs position (step_of unit s p x) in
    subst P (sym found) (standing_is_whole unit s p q cs position q.standing e)

-- ---- what the step does

module _ (unit : ProgramUnit) (p : Name) (size : ℕ) (deeper : Acts → World → Evaluation (Unit {0})) where
  -- the list that was found is executed
  abbrev ran : Option Acts → World → Evaluation Bool
  ran None w = gives false w
  ran (Some body) w = acts unit p size deeper body w >>= λ _ w. gives true w

  executed_first : (cs : Clauses) (body : Evaluation (Unit {0}))
      → ((body >>= λ _ w. gives true w) >>= λ found w. if found then gives true w else first unit p size deeper cs w) ≡ (body >>= λ _ w. gives true w)
  executed_first cs (gives done w) = refl
  executed_first cs (ends ending system turns) = refl

  first_is : (cs : Clauses) (w : World) → first unit p size deeper cs w ≡ (tested unit p size deeper cs w >>= ran)
  first_is tree.no_clause w = refl
  first_is (tree.clause_then (tree.clause e s) cs) w = go (λ w. first_is cs w) (expression unit p size deeper e w)
    where
      by_value : ((w : World) → first unit p size deeper cs w ≡ (tested unit p size deeper cs w >>= ran)) → (b : Bool) (w : World) →
          ((if b then (acts unit p size deeper s w >>= λ _ w. gives true w) else gives false w) >>= λ found w. if found then gives true w else first unit p
          size deeper cs w)
          ≡ ((if b then gives (Some s) w else tested unit p size deeper cs w) >>= ran)
      by_value rest true w = executed_first cs (acts unit p size deeper s w)
      by_value rest false w = rest w

      go : ((w : World) → first unit p size deeper cs w ≡ (tested unit p size deeper cs w >>= ran)) → (r : Evaluation Value) →
          ((r >>= λ v w. if is_true v then (acts unit p size deeper s w >>= λ _ w. gives true w) else gives false w) >>= λ found w. if found then gives true w
          else first unit p size deeper cs w)
          ≡ ((r >>= λ v w. if is_true v then gives (Some s) w else tested unit p size deeper cs w) >>= ran)
      go rest (gives v w) = by_value rest (is_true v) w
      go rest (ends ending system turns) = refl

module _ (unit : ProgramUnit) (s : Processes) (p : Name) (q : Process) (cs : Clauses) (position : Position) where
  abbrev After : Bool → World → Evaluation Asks
  After found w = if found then gives (goes q.work) w else turn w (gives (again cs position (is_quiet cs) q.work))

  executed : (body : Evaluation (Unit {0})) → IsExecuted s p q body (kernel unit s p q ((body >>= λ _ w. gives true w) >>= After))
  executed (gives done w) = refl
  executed (ends ending system turns) = refl

  failed : (n : ℕ) (w : World) → w.turns ≡ n → IsFailed s p q cs position w n
      (kernel unit s p q (turn_from n w (gives (again cs position (is_quiet cs) q.work))))
  failed zero w e = refl
  failed (suc n) w e = refl

  attempted : (r : Evaluation (Option Acts)) → IsAttempt unit s p q cs position r
      (kernel unit s p q ((r >>= ran unit p q.size (below unit p q.size s.world)) >>= After))
  attempted (gives None w) = failed w.turns w refl
  attempted (gives (Some body) w) = executed (acts unit p q.size (below unit p q.size s.world) body w)
  attempted (ends ending system turns) = refl

pub attempts_execute : AttemptsExecute
attempts_execute unit s p q cs position found e =
    let deeper : Acts → World → Evaluation (Unit {0}) = below unit p q.size s.world in
    let Is : Stepped → Type 0 = IsAttempt unit s p q cs position (tested unit p q.size deeper cs s.world) in
    subst (λ x. Is (step_of unit s p x)) (sym found)
    (subst (λ x. Is (kernel unit s p q (local_step unit p q.size x q.work s.world))) (sym e)
    (subst (λ r. Is (kernel unit s p q (r >>= After unit s p q cs position))) (sym (first_is unit p q.size deeper cs s.world))
    (attempted unit s p q cs position (tested unit p q.size deeper cs s.world))))

-- ---- in an order of steps

-- the steps behind those that lead to a state begin there
module _ (unit : ProgramUnit) (behind : List Name) (s : Processes) where
  along : (before : List Name) (first : Processes) → permitted unit before first ≡ at s → permitted unit (before ++ behind) first ≡ permitted unit behind s
  along [] first e = let same : first ≡ s = cc in ap (permitted unit behind) same
  along (p ∷ before) first e = by_test (λ t f. along before t f) (may_step first p) e
    where
      onward_along : ((t : Processes) → permitted unit before t ≡ at s → permitted unit (before ++ behind) t ≡ permitted unit behind s) → (x : Stepped)
          → onward x before (permitted unit before) ≡ at s → onward x (before ++ behind) (permitted unit (before ++ behind)) ≡ permitted unit behind s
      onward_along rest (went t next quiet) e = rest t e
      onward_along rest (ended ending system turns) e = absurd (never before e)
        where
          never : (names : List Name) → onward (ended ending system turns) names (permitted unit names) ≡ at s → ⊥
          never [] e = absurd (cc)
          never (r ∷ names) e = absurd (cc)

      by_test : ((t : Processes) → permitted unit before t ≡ at s → permitted unit (before ++ behind) t ≡ permitted unit behind s) → (b : Bool)
          → (if b then onward (step unit first p) before (permitted unit before) else nowhere) ≡ at s →
          (if b then onward (step unit first p) (before ++ behind) (permitted unit (before ++ behind)) else nowhere) ≡ permitted unit behind s
      by_test rest true e = onward_along rest (step unit first p) e
      by_test rest false e = absurd (cc)

pub attempts_are_one_step : AttemptsAreOneStep
attempts_are_one_step unit system bound before behind s p q cs position e found standing =
    along unit (p ∷ behind) s before (start unit system bound) e
    ∙ ap (λ b. if b then onward (step unit s p) behind (permitted unit behind) else nowhere) may
  where
    may : may_step s p ≡ true
    may = ap is_running_process found ∙ ap is_running standing
