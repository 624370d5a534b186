-- What a selection comes to, step by step.
use Rattle.std.proofs.Common.{◌≡◌, ◌⊎◌, inl, inr, ℕ, zero, suc, ◌+◌, ◌-◌, ◌%◌, ◌<◌, ◌≤◌, false, List, [], ◌∷◌, ◌++◌}
use Rattle.std.proofs.Common.{sym, ap, ◌∙◌, arith}
use Rattle.edi_calls.specs.Choice.{Choices, choice}
use Rattle.edi_calls.specs.Names.{Name}
use Rattle.edi_calls.specs.Outcome as outcome
use Rattle.edi_calls.specs.Outcome.{Ending, Outcome, outcome_of}
use Rattle.edi_calls.specs.Ready.{stays, joins, take_next, taking_at}
use Rattle.edi_calls.specs.State.{Traced}
use Rattle.edi_unit.specs.Tree.{ProgramUnit}
use Rattle.edi_meaning.specs.Step.{Processes, Stepped, went, ended, step}
use Rattle.edi_meaning.specs.Select.{Selected, unfinished, finished, stepped_first, go_on, after_step, select}

-- ---- selections, step by step

-- how a selection ended: so, with this system and so many turns left
pub record IsEnd (wanted : Ending) (system : Traced) (left : ℕ) (ending : Ending) (end : Traced) (turns : ℕ) : Type 0 where
  pub ending_is : ending ≡ wanted
  pub system_is : end ≡ system
  pub turns_are : turns ≡ left

-- however far a selection goes from here, if it ends it ends so
abbrev pub EndsSo : ProgramUnit → Choices → (fuel : ℕ) → Processes → Name → (others : List Name) → Ending → Traced → (left : ℕ) → Type 0
EndsSo unit choices fuel s p others wanted system left =
    (marks : List Name) (drawn : ℕ) (ending : Ending) (end : Traced) (turns all : ℕ) (order : List Name)
    → select unit choices fuel s marks p others drawn ≡ finished ending end turns all order → IsEnd wanted system left ending end turns

-- what is behind the first step
behind_first : (p : Name) (selected : Selected) (ending : Ending) (end : Traced) (turns all : ℕ) (order : List Name)
    → stepped_first p selected ≡ finished ending end turns all order → (more : List Name) × (selected ≡ finished ending end turns all more)
behind_first p unfinished ending end turns all order h = absurd (cc)
behind_first p (finished e s t d o) ending end turns all order h = (o, same h) where
  same : finished e s t d (p ∷ o) ≡ finished ending end turns all order → finished e s t d o ≡ finished ending end turns all o
  same h = cc

module _ (unit : ProgramUnit) (choices : Choices) (wanted : Ending) (system : Traced) (left : ℕ) where
  pub nothing : (s : Processes) (p : Name) (others : List Name) → EndsSo unit choices zero s p others wanted system left
  nothing s p others marks drawn ending end turns all order h = absurd (cc)

  -- the step of a selection
  stepped : (fuel : ℕ) (s : Processes) (p : Name) (others : List Name) (r : Stepped) → step unit s p ≡ r
      → ((marks : List Name) (drawn : ℕ) (ending : Ending) (end : Traced) (turns all : ℕ) (order : List Name)
      → after_step choices (select unit choices fuel) p others marks drawn r ≡ finished ending end turns all order → IsEnd wanted system left ending end
      turns)
      → EndsSo unit choices (suc fuel) s p others wanted system left
  stepped fuel s p others r is next marks drawn ending end turns all order h =
      let now = sym (ap (λ r. stepped_first p (after_step choices (select unit choices fuel) p others marks drawn r)) is) ∙ h in
      let rest = behind_first p _ ending end turns all order now in
      next marks drawn ending end turns all rest.0 rest.1

  pub goes : (fuel : ℕ) (s t : Processes) (p : Name) (others : List Name) → step unit s p ≡ went t stays false
      → EndsSo unit choices fuel t p others wanted system left → EndsSo unit choices (suc fuel) s p others wanted system left
  goes fuel s t p others is next =
      stepped fuel s p others (went t stays false) is (λ marks drawn ending end turns all order h. next [] drawn ending end turns all order h)

  -- one process is ready behind the step
  pub one_ready : (fuel : ℕ) (s t : Processes) (p q : Name) (others more : List Name) → step unit s p ≡ went t (joins more) false → others ++ more ≡ q ∷ []
      → EndsSo unit choices fuel t q [] wanted system left → EndsSo unit choices (suc fuel) s p others wanted system left
  one_ready fuel s t p q others more is list_is next =
      stepped fuel s p others (went t (joins more) false) is (λ marks drawn ending end turns all order h.
      next [] drawn ending end turns all order
      (sym (ap (λ ps. go_on (take_next choices drawn ps) (select unit choices fuel t []) t drawn) list_is) ∙ h))

  -- two processes are, and the choice takes one of them
  pub two_ready : (fuel : ℕ) (s t : Processes) (p q r : Name) (others more : List Name) → step unit s p ≡ went t (joins more) false
      → others ++ more ≡ q ∷ r ∷ [] → EndsSo unit choices fuel t q (r ∷ []) wanted system left → EndsSo unit choices fuel t r (q ∷ []) wanted system left
      → EndsSo unit choices (suc fuel) s p others wanted system left
  two_ready fuel s t p q r others more is list_is one other =
      stepped fuel s p others (went t (joins more) false) is (λ marks drawn ending end turns all order h.
      taken (choice choices (drawn + 1) % 2) (omega arith) drawn ending end turns all order
      (sym (ap (λ ps. go_on (take_next choices drawn ps) (select unit choices fuel t []) t drawn) list_is) ∙ h))
    where
      taken : (index : ℕ) → index < 2 → (drawn : ℕ) (ending : Ending) (end : Traced) (turns all : ℕ) (order : List Name)
          → go_on (taking_at (q ∷ r ∷ []) index (drawn + 1)) (select unit choices fuel t []) t drawn ≡ finished ending end turns all order
          → IsEnd wanted system left ending end turns
      taken zero less drawn ending end turns all order h = one [] (drawn + 1) ending end turns all order h
      taken (suc zero) less drawn ending end turns all order h = other [] (drawn + 1) ending end turns all order h
      taken (suc (suc index)) less drawn ending end turns all order h = absurd (omega (arith, less))

  pub over : (fuel : ℕ) (s : Processes) (p : Name) (others : List Name) → step unit s p ≡ ended wanted system left
      → EndsSo unit choices (suc fuel) s p others wanted system left
  over fuel s p others is =
      stepped fuel s p others (ended wanted system left) is (λ marks drawn ending end turns all order h.
      let same = end_of h in
      record { ending_is = sym same.0; system_is = sym same.1; turns_are = sym same.2 })
    where
      end_of : {e f : Ending} {s t : Traced} {a b c d : ℕ} {o p : List Name} → finished e s a c o ≡ finished f t b d p → (e ≡ f) × (s ≡ t) × (a ≡ b)
      end_of h = (cc, cc, cc)

-- ---- turns

-- as many turns are left as are needed, and so many more, and it comes to its end; or fewer are, and it ends for want of them
abbrev pub Balance : Ending → (left turns needed : ℕ) → Type 0
Balance wanted left turns needed =
    ((wanted ≡ outcome.done) × (turns ≡ needed + left)) ⊎ ((wanted ≡ outcome.turns) × (left ≡ 0) × (turns < needed))

one_less : (wanted : Ending) (left turns needed : ℕ) → Balance wanted left (suc turns) needed → 1 ≤ needed → Balance wanted left turns (needed - 1)
one_less wanted left turns needed (inl (w, e)) some = inl (w, omega (arith, e, some))
one_less wanted left turns needed (inr (w, l, less)) some = inr (w, l, omega (arith, less, some))

-- a step that takes a turn: it is there, or the selection ends
pub takes_turn : (unit : ProgramUnit) (choices : Choices) (wanted : Ending) (system : Traced) (left fuel : ℕ) (s : ℕ → Processes) (p : Name)
    (others : List Name)
    (turns needed : ℕ) → 1 ≤ needed → Balance wanted left turns needed → step unit (s 0) p ≡ ended outcome.turns system 0
    → ((t : ℕ) → Balance wanted left t (needed - 1) → EndsSo unit choices (suc fuel) (s (suc t)) p others wanted system left)
    → EndsSo unit choices (suc fuel) (s turns) p others wanted system left
takes_turn unit choices wanted system left fuel s p others zero needed some (inl (w, e)) none next = absurd (omega (arith, e, some))
takes_turn unit choices wanted system left fuel s p others zero needed some (inr (w, l, less)) none next =
    over unit choices wanted system left fuel (s 0) p others
    (none ∙ ap (λ e. ended e system 0) (sym w) ∙ ap (λ n. ended wanted system n) (sym l))
takes_turn unit choices wanted system left fuel s p others (suc turns) needed some b none next = next turns (one_less wanted left turns needed b some)
