-- A step that ends the program ends it as the program itself may, or by its turns; so no end is bad.
use Rattle.std.proofs.Common.{◌≡◌, ℕ, zero, suc, ◌+◌, Bool, true, false, if◌then◌else◌, List, [], ◌∷◌, ◌++◌, Option, Some, None, refl, sym, subst}
use Rattle.std.specs.Prelude.{⊤}
use Rattle.edi_calls.specs.Choice.{Choices}
use Rattle.edi_calls.specs.Names.{Name, find}
use Rattle.edi_calls.specs.Outcome as outcome
use Rattle.edi_calls.specs.Outcome.{Ending}
use Rattle.edi_calls.specs.Ready.{Next, stays, joins, Taking, nobody, taking, take_next}
use Rattle.edi_calls.specs.State.{Traced}
use Rattle.edi_unit.specs.Tree.{ProgramUnit}
use Rattle.edi_meaning.specs.Step.{Process, Processes, Stepped, went, ended, step_of, step, start}
use Rattle.edi_meaning.specs.Permitted.{may_step, over, nowhere, onward, permitted}
use Rattle.edi_meaning.specs.Select.{Selected, unfinished, finished, stepped_first, marked, is_standstill, go_on, after_next, after_step, select}
use Rattle.edi_meaning.specs.Bad.{IsNoBad}
use Rattle.edi_meaning.specs.NeverBad.{PermittedIsNeverBad, SelectionIsNeverBad}
use Rattle.edi_meaning.proofs.Lasting.{IsOwn}
use Rattle.edi_meaning.proofs.Work.{Falls, standing_size, work_size, step_falls}

own_no_bad : (e : Ending) → IsOwn e → IsNoBad e
own_no_bad outcome.done h = tt
own_no_bad (outcome.halted line) h = tt
own_no_bad (outcome.failed c line) h = tt
own_no_bad outcome.turns h = tt
own_no_bad outcome.standstill h = tt
own_no_bad (outcome.bad address) h = h

abbrev StepNoBad : Stepped → Type 0
StepNoBad (went t next quiet) = ⊤
StepNoBad (ended ending system turns) = IsNoBad ending

falls_no_bad : (size t : ℕ) (p : Name) (x : Stepped) → Falls size t p x → StepNoBad x
falls_no_bad size t p (went s next quiet) h = tt
falls_no_bad size t p (ended ending system turns) h = own_no_bad ending h

-- a step of any process, also of one that does not live
step_no_bad : (unit : ProgramUnit) (s : Processes) (p : Name) → StepNoBad (step unit s p)
step_no_bad unit s p = of_found (find s.live p) refl
  where
    of_found : (x : Option Process) → find s.live p ≡ x → StepNoBad (step unit s p)
    of_found None e = subst (λ (x : Option Process). StepNoBad (step_of unit s p x)) (sym e) tt
    of_found (Some q) e = falls_no_bad (standing_size q.standing + work_size q.work) s.world.turns p (step unit s p) (step_falls unit s p q e)

-- ---- along permitted steps

module _ (unit : ProgramUnit) (ending : Ending) (end : Traced) (turns : ℕ) where
  abbrev NeverOver : List Name → Type 0
  NeverOver names = (s : Processes) → permitted unit names s ≡ over ending end turns → IsNoBad ending

  onward_no_bad : (x : Stepped) (names : List Name) → StepNoBad x → NeverOver names → onward x names (permitted unit names) ≡ over ending end turns
      → IsNoBad ending
  onward_no_bad (went t next quiet) names h k e = k t e
  onward_no_bad (ended other system left) [] h k e = let by : other ≡ ending = (cc) in subst IsNoBad by h
  onward_no_bad (ended other system left) (r ∷ rs) h k e = absurd (cc)

  permitted_no_bad : (names : List Name) → NeverOver names
  permitted_no_bad [] s e = absurd (cc)
  permitted_no_bad (p ∷ ps) s e = tested (may_step s p) (permitted_no_bad ps) e
    where
      tested : (b : Bool) → NeverOver ps → (if b then onward (step unit s p) ps (permitted unit ps) else nowhere) ≡ over ending end turns → IsNoBad ending
      tested false k e = absurd (cc)
      tested true k e = onward_no_bad (step unit s p) ps (step_no_bad unit s p) k e

pub permitted_is_never_bad : PermittedIsNeverBad
permitted_is_never_bad unit order s ending end turns e = permitted_no_bad unit ending end turns order s e

-- ---- along a selection

abbrev EndNoBad : Selected → Type 0
EndNoBad unfinished = ⊤
EndNoBad (finished ending end turns drawn order) = IsNoBad ending

first_no_bad : (p : Name) (r : Selected) → EndNoBad r → EndNoBad (stepped_first p r)
first_no_bad p unfinished h = tt
first_no_bad p (finished ending end turns drawn order) h = h

module _ (unit : ProgramUnit) (choices : Choices) where
  abbrev MoreNoBad : (Name → List Name → ℕ → Selected) → Type 0
  MoreNoBad more = (p : Name) (others : List Name) (drawn : ℕ) → EndNoBad (more p others drawn)

  taken_no_bad : (t : Taking) (more : Name → List Name → ℕ → Selected) (s : Processes) (drawn : ℕ) → MoreNoBad more → EndNoBad (go_on t more s drawn)
  taken_no_bad nobody more s drawn h = tt
  taken_no_bad (taking p others d) more s drawn h = h p others d

  next_no_bad : (next : Next) (more : Name → List Name → ℕ → Selected) (s : Processes) (p : Name) (others : List Name) (drawn : ℕ) → MoreNoBad more →
      EndNoBad (after_next choices more s p others drawn next)
  next_no_bad stays more s p others drawn h = h p others drawn
  next_no_bad (joins ps) more s p others drawn h = taken_no_bad (take_next choices drawn (others ++ ps)) more s drawn h

  tested_no_bad : (b : Bool) (next : Next) (more : Name → List Name → ℕ → Selected) (s : Processes) (p : Name) (others : List Name) (drawn : ℕ)
      → MoreNoBad more →
      EndNoBad (if b then finished outcome.standstill s.world.system s.world.turns drawn [] else after_next choices more s p others drawn next)
  tested_no_bad true next more s p others drawn h = tt
  tested_no_bad false next more s p others drawn h = next_no_bad next more s p others drawn h

  stepped_no_bad : (x : Stepped) (more : Processes → List Name → Name → List Name → ℕ → Selected) (p : Name) (others marks : List Name) (drawn : ℕ)
      → StepNoBad x →
      ((s : Processes) (marks : List Name) → MoreNoBad (more s marks)) → EndNoBad (after_step choices more p others marks drawn x)
  stepped_no_bad (ended ending system turns) more p others marks drawn h k = h
  stepped_no_bad (went s next quiet) more p others marks drawn h k =
      tested_no_bad (is_standstill quiet (marked quiet p marks) (p ∷ others)) next (more s (marked quiet p marks)) s p others drawn (k s (marked quiet p marks))

  select_no_bad : (n : ℕ) (s : Processes) (marks : List Name) → MoreNoBad (select unit choices n s marks)
  select_no_bad zero s marks p others drawn = tt
  select_no_bad (suc n) s marks p others drawn =
      first_no_bad p (after_step choices (select unit choices n) p others marks drawn (step unit s p))
      (stepped_no_bad (step unit s p) (select unit choices n) p others marks drawn (step_no_bad unit s p) (select_no_bad n))

pub selection_is_never_bad : SelectionIsNeverBad
selection_is_never_bad unit system bound choices ending end turns drawn order e =
    subst EndNoBad e.1 (select_no_bad unit choices e.0 (start unit system bound) [] [] [] 0)
