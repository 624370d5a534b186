-- A selection that has ended stays as it is, however many steps it is allowed more. So an execution has one order of steps.
use Rattle.std.proofs.Common.{◌≡◌, ◌⊎◌, inl, inr, ℕ, zero, suc, ◌<◌, ◌≤◌, Bool, true, false, if◌then◌else◌, List, [], ◌∷◌, ◌++◌, refl, sym, ap, ◌∙◌, arith}
use Rattle.std.proofs.lemmas.Bool.{cases_lt}
use Rattle.edi_calls.specs.Choice.{Choices}
use Rattle.edi_calls.specs.Names.{Name}
use Rattle.edi_calls.specs.Outcome as outcome
use Rattle.edi_calls.specs.Outcome.{Ending}
use Rattle.edi_calls.specs.Ready.{Next, stays, joins, Taking, nobody, taking, take_next}
use Rattle.edi_calls.specs.State.{State, Traced}
use Rattle.edi_unit.specs.Tree.{ProgramUnit}
use Rattle.edi_meaning.specs.Step.{Processes, Stepped, went, ended, step, start}
use Rattle.edi_meaning.specs.Select.{Selected, unfinished, finished, stepped_first, marked, is_standstill, go_on, after_next, after_step, select, Ends}

abbrev EndsIn : Selected → Type 0
EndsIn r = (ending : Ending) × (end : Traced) × (turns : ℕ) × (drawn : ℕ) × (order : List Name) × (r ≡ finished ending end turns drawn order)

before_first : (p : Name) (r : Selected) → EndsIn (stepped_first p r) → EndsIn r
before_first p unfinished e = let none : unfinished ≡ finished e.0 e.1 e.2 e.3 e.4 = e.5 in absurd (cc)
before_first p (finished ending end turns drawn order) e = (ending, end, turns, drawn, order, refl)

module _ (unit : ProgramUnit) (choices : Choices) where
  abbrev Settles : ℕ → ℕ → Type 0
  Settles n k =
      (s : Processes) (marks : List Name) (p : Name) (others : List Name) (drawn : ℕ) → EndsIn (select unit choices n s marks p others drawn) →
      select unit choices k s marks p others drawn ≡ select unit choices n s marks p others drawn

  on_settled : (n k : ℕ) → Settles n k → (x : Taking) (s : Processes) (marks : List Name) (drawn : ℕ) →
      EndsIn (go_on x (select unit choices n s marks) s drawn) →
      go_on x (select unit choices k s marks) s drawn ≡ go_on x (select unit choices n s marks) s drawn
  on_settled n k h nobody s marks drawn e = refl
  on_settled n k h (taking q rest d) s marks drawn e = h s marks q rest d e

  next_settled : (n k : ℕ) → Settles n k → (next : Next) (s : Processes) (marks : List Name) (p : Name) (others : List Name) (drawn : ℕ) →
      EndsIn (after_next choices (select unit choices n s marks) s p others drawn next) →
      after_next choices (select unit choices k s marks) s p others drawn next ≡ after_next choices (select unit choices n s marks) s p others drawn next
  next_settled n k h stays s marks p others drawn e = h s marks p others drawn e
  next_settled n k h (joins ps) s marks p others drawn e = on_settled n k h (take_next choices drawn (others ++ ps)) s marks drawn e

  tested_settled : (n k : ℕ) → Settles n k → (still : Bool) (next : Next) (s : Processes) (marks : List Name) (p : Name) (others : List Name) (drawn : ℕ) →
      EndsIn (if still then finished outcome.standstill s.world.system s.world.turns drawn [] else after_next choices
      (select unit choices n s marks) s p others drawn next) →
      (if still then finished outcome.standstill s.world.system s.world.turns drawn [] else after_next choices
      (select unit choices k s marks) s p others drawn next)
      ≡ (if still then finished outcome.standstill s.world.system s.world.turns drawn [] else after_next choices
      (select unit choices n s marks) s p others drawn next)
  tested_settled n k h true next s marks p others drawn e = refl
  tested_settled n k h false next s marks p others drawn e = next_settled n k h next s marks p others drawn e

  stepped_settled : (n k : ℕ) → Settles n k → (x : Stepped) (marks : List Name) (p : Name) (others : List Name) (drawn : ℕ) →
      EndsIn (after_step choices (select unit choices n) p others marks drawn x) →
      after_step choices (select unit choices k) p others marks drawn x ≡ after_step choices (select unit choices n) p others marks drawn x
  stepped_settled n k h (ended ending system turns) marks p others drawn e = refl
  stepped_settled n k h (went s next quiet) marks p others drawn e =
      tested_settled n k h (is_standstill quiet (marked quiet p marks) (p ∷ others)) next s (marked quiet p marks) p others drawn e

  settled : (n k : ℕ) → n ≤ k → Settles n k
  settled zero k le s marks p others drawn e = let none : unfinished ≡ finished e.0 e.1 e.2 e.3 e.4 = e.5 in absurd (cc)
  settled (suc n) zero le s marks p others drawn e = absurd (omega (arith, le))
  settled (suc n) (suc k) le s marks p others drawn e =
      ap (stepped_first p) (stepped_settled n k (settled n k (omega (arith, le))) (step unit s p) marks p others drawn
      (before_first p (after_step choices (select unit choices n) p others marks drawn (step unit s p)) e))

-- TWO ENDS OF A SELECTION ARE ONE.
pub ends_once : (unit : ProgramUnit) (system : State) (bound : ℕ) (choices : Choices) (a b : Ending) (x y : Traced) (t u c d : ℕ) (o q : List Name) →
    Ends unit system bound choices a x t c o → Ends unit system bound choices b y u d q → finished a x t c o ≡ finished b y u d q
ends_once unit system bound choices a b x y t u c d o q h k = go (cases_lt h.0 k.0)
  where
    go : (h.0 < k.0) ⊎ (k.0 ≤ h.0) → finished a x t c o ≡ finished b y u d q
    go (inl l) = sym h.1 ∙ sym (settled unit choices h.0 k.0 (omega (arith, l)) (start unit system bound) [] [] [] 0 (a, x, t, c, o, h.1)) ∙ k.1
    go (inr l) = sym h.1 ∙ settled unit choices k.0 h.0 l (start unit system bound) [] [] [] 0 (b, y, u, d, q, k.1) ∙ k.1
