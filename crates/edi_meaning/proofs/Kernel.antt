-- What the kernel makes of what a local step gave. A fact about steps needs a line for each of these.
use Rattle.std.proofs.Common.{◌≡◌, ℕ, zero, suc, ◌+◌, ◌-◌, Bool, true, false, if◌then◌else◌, List, [], ◌∷◌, length, Option, Some, None, refl, sym, subst, ap}
use Rattle.std.proofs.Common.{◌∙◌}
use Rattle.std.specs.Prelude.{⊤, nat_lt}
use Rattle.std.specs.List.{list_any}
use Rattle.edi_calls.specs.Forks.{most_processes, equal_share}
use Rattle.edi_calls.specs.declared.kinds.Cause.TheVariants as cause
use Rattle.edi_calls.specs.Names.{Name, find, without}
use Rattle.edi_calls.specs.Outcome as outcome
use Rattle.edi_calls.specs.Outcome.{Ending}
use Rattle.edi_calls.specs.Ready.{parent_of, stays, joins, freed}
use Rattle.edi_calls.specs.State.{Traced}
use Rattle.edi_unit.specs.Tree.{Clauses, ProgramUnit}
use Rattle.edi_meaning.specs.Store.{shape, room}
use Rattle.edi_meaning.specs.Evaluation.{World, Evaluation, gives, ends}
use Rattle.edi_meaning.specs.Step.{Position, Work, Standing, ready, at_when, waiting, Asks, goes, arrives, again, forks, leaves, Process, Processes, Stepped}
use Rattle.edi_meaning.specs.Step.{went, ended, back, exceeds, fork_taken, awaits, one_less, notified, local_step, kernel}
use Rattle.edi_meaning.specs.Step.{step_of, step}
use Rattle.edi_meaning.specs.Permitted.{may_step, Led, at, nowhere, onward, permitted}
use Rattle.edi_meaning.proofs.Lasting.{IsOver, Gives}
use Rattle.edi_calls.proofs.Names.{some_is, no_some}

-- what holds of either holds of the one that a test takes
pub if_either : {A : Type 0} (P : A → Type 0) (b : Bool) (x y : A) → P x → P y → P (if b then x else y)
if_either P true x y h k = h
if_either P false x y h k = k

-- the state without a process that has ended
abbrev pub rest_of : Processes → Name → World → Processes
rest_of s p w = record { live = without s.live p; world = record w { store = without w.store p } }

-- P of every step of p that the kernel makes of a local step, of which D tells what it asks and E its end
pub record Handles (unit : ProgramUnit) (s : Processes) (p : Name) (q : Process) (D : Asks → World → Type 0) (E : Ending → Traced → ℕ → Type 0)
    (P : Stepped → Type 0) : Type 0 where
  pub of_end : (ending : Ending) (system : Traced) (turns : ℕ) → E ending system turns → P (ended ending system turns)
  pub of_goes : (work : List Work) (w : World) → D (goes work) w → P (went (back s p (record q { work = work; standing = ready }) w) stays false)
  pub of_arrives : (cs : Clauses) (position : Position) (work : List Work) (w : World) → D (arrives cs position work) w →
      P (went (back s p (record q { work = work; standing = at_when cs position }) w) (joins (p ∷ [])) false)
  pub of_again : (cs : Clauses) (position : Position) (quiet : Bool) (work : List Work) (w : World) → D (again cs position quiet work) w →
      P (went (back s p (record q { work = work; standing = at_when cs position }) w) (joins (p ∷ [])) quiet)
  -- a fork that a limit forbids, or for which no turn is left; and one that is made
  pub of_no_fork : (bs : List ℕ) (line : ℕ) (work : List Work) (w : World) (ending : Ending) → IsOver ending w.turns → D (forks bs line work) w
      → P (ended ending w.system w.turns)
  pub of_fork : (bs : List ℕ) (line : ℕ) (work : List Work) (w : World) (n share : ℕ) → w.turns ≡ suc n → D (forks bs line work) w
      → P (fork_taken unit s p q bs work w (suc n) share)
  -- the end of a process for which nobody waits; and of one for which its parent waits
  pub of_leaves : (w : World) → ((y : Process) (n : ℕ) → find (without s.live p) (parent_of p) ≡ Some y → y.standing ≡ waiting n → ⊥) → D leaves w
      → P (went (rest_of s p w) (joins []) false)
  pub of_awaited : (w : World) (y : Process) (n : ℕ) → find (without s.live p) (parent_of p) ≡ Some y → y.standing ≡ waiting n → D leaves w →
      P (went (back (rest_of s p w) (parent_of p) (record y { standing = awaits (n - 1) }) (rest_of s p w).world) (freed (n - 1) (parent_of p)) false)

module _ (unit : ProgramUnit) (s : Processes) (p : Name) (q : Process) (D : Asks → World → Type 0) (E : Ending → Traced → ℕ → Type 0) (P : Stepped → Type 0)
    (h : Handles unit s p q D E P) where
  taken : (bs : List ℕ) (line : ℕ) (work : List Work) (w : World) (n share : ℕ) → w.turns ≡ n → D (forks bs line work) w
      → P (fork_taken unit s p q bs work w n share)
  taken bs line work w zero share e d = h.of_no_fork bs line work w outcome.turns e d
  taken bs line work w (suc n) share e d = h.of_fork bs line work w n share e d

  -- who is found and does not wait is not waited for
  idle : (y : Process) (standing : Standing) → find (without s.live p) (parent_of p) ≡ Some y → y.standing ≡ standing → ((n : ℕ) → standing ≡ waiting n → ⊥) →
      (x : Process) (n : ℕ) → find (without s.live p) (parent_of p) ≡ Some x → x.standing ≡ waiting n → ⊥
  idle y standing e g other x n f h = other n (sym g ∙ ap (λ z. z.standing) (some_is (sym e ∙ f)) ∙ h)

  less : (w : World) (y : Process) (standing : Standing) → find (without s.live p) (parent_of p) ≡ Some y → y.standing ≡ standing → D leaves w
      → P (one_less (rest_of s p w) (parent_of p) y standing)
  less w y ready e g d = h.of_leaves w (idle y ready e g (λ n f. absurd (cc))) d
  less w y (at_when cs position) e g d = h.of_leaves w (idle y (at_when cs position) e g (λ n f. absurd (cc))) d
  less w y (waiting n) e g d = h.of_awaited w y n e g d

  telling : (w : World) (y : Option Process) → find (without s.live p) (parent_of p) ≡ y → D leaves w → P (notified (rest_of s p w) (parent_of p) y)
  telling w None e d = h.of_leaves w (λ y n f g. no_some (find (without s.live p) (parent_of p)) e f) d
  telling w (Some y) e d = less w y y.standing e refl d

  pub kernel_handles : (r : Evaluation Asks) → Gives D E r → P (kernel unit s p q r)
  kernel_handles (ends ending system turns) d = h.of_end ending system turns d
  kernel_handles (gives (goes work) w) d = h.of_goes work w d
  kernel_handles (gives (arrives cs position work) w) d = h.of_arrives cs position work w d
  kernel_handles (gives (again cs position quiet work) w) d = h.of_again cs position quiet work w d
  kernel_handles (gives (forks bs line work) w) d =
      let share = equal_share (room q.size (shape w.store p)) (length bs) in
      if_either P (nat_lt most_processes (length s.live + length bs)) _ _ (h.of_no_fork bs line work w (outcome.failed cause.ProcessLimit line) tt d)
      (if_either P (list_any (exceeds unit share) bs) _ _ (h.of_no_fork bs line work w (outcome.failed cause.VariableLimit line) tt d)
      (taken bs line work w w.turns share refl d))
  kernel_handles (gives leaves w) d = telling w (find (without s.live p) (parent_of p)) refl d

-- what is true of the kernel's answer for the process that p names is true of the step of p
pub of_process : (unit : ProgramUnit) (s : Processes) (p : Name) (q : Process) (P : Stepped → Type 0) → find s.live p ≡ Some q
    → P (kernel unit s p q (local_step unit p q.size q.standing q.work s.world)) → P (step unit s p)
of_process unit s p q P found h = subst (λ x. P (step_of unit s p x)) (sym found) h

-- ---- along permitted steps

-- K of the state that a step leaves
abbrev pub After : (Processes → Type 0) → Stepped → Type 0
After K (went t next quiet) = K t
After K (ended ending system turns) = ⊤

module _ (unit : ProgramUnit) (K : Processes → Type 0) (kept : (s : Processes) (p : Name) → K s → After K (step unit s p)) where
  onward_keeps : (t : Processes) (x : Stepped) (names : List Name) (go : Processes → Led) → After K x → ((u : Processes) → K u → go u ≡ at t → K t)
      → onward x names go ≡ at t → K t
  onward_keeps t (went u next quiet) names go h k e = k u h e
  onward_keeps t (ended ending system turns) [] go h k e = absurd (cc)
  onward_keeps t (ended ending system turns) (r ∷ rs) go h k e = absurd (cc)

  tested_keeps : (t : Processes) (b : Bool) (x : Led) → (x ≡ at t → K t) → (if b then x else nowhere) ≡ at t → K t
  tested_keeps t true x k e = k e
  tested_keeps t false x k e = absurd (cc)

  -- what each step keeps is kept along permitted steps
  pub permitted_keep : (names : List Name) (s t : Processes) → K s → permitted unit names s ≡ at t → K t
  permitted_keep [] s t h e = subst K (at_same e) h
    where
      at_same : at s ≡ at t → s ≡ t
      at_same e = cc
  permitted_keep (p ∷ ps) s t h e =
      tested_keeps t (may_step s p) (onward (step unit s p) ps (permitted unit ps))
      (onward_keeps t (step unit s p) ps (permitted unit ps) (kept s p h) (λ u k. permitted_keep ps u t k)) e
