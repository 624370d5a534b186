-- The choices determine a walk: more steps end as fewer do.
use Rattle.std.proofs.Common.{◌≡◌, ℕ, zero, suc, ◌≤◌, ◌⊎◌, inl, inr, List, [], ◌∷◌, ◌++◌, refl, sym, ap, ◌∙◌, arith}
use Rattle.std.specs.Prelude.{⊤}
use Rattle.edi_calls.specs.State.{Traced}
use Rattle.edi_calls.specs.Choice.{Choices}
use Rattle.edi_calls.specs.Names.{Name}
use Rattle.edi_calls.specs.Outcome.{Ending}
use Rattle.edi_calls.specs.Ready.{Taking, nobody, taking, take_next}
use Rattle.edi_unit.specs.Tree.{ProgramUnit}
use Rattle.edi_meaning.specs.Step.{Processes, Stepped, went, ended, step, start}
use Rattle.edi_meaning.specs.Select.{Selected, unfinished, finished, stepped_first}
use Rattle.edi_walk.specs.Walk.{joining, behind_step, taken_step, walked}
use Rattle.edi_walk.specs.Laws.{WalksAreDetermined, AreOne}

-- the two are one, where the first has ended
abbrev Same : Selected → Selected → Type 0
Same unfinished r = ⊤
Same (finished ending end turns drawn order) r = r ≡ finished ending end turns drawn order

first_same : (p : Name) (one other : Selected) → Same one other → Same (stepped_first p one) (stepped_first p other)
first_same p unfinished other h = tt
first_same p (finished ending end turns drawn order) other h = ap (stepped_first p) h

module _ (unit : ProgramUnit) (choices : Choices) where
  abbrev MoreSame : (one other : Processes → List Name → ℕ → Selected) → Type 0
  MoreSame one other = (s : Processes) (listed : List Name) (d : ℕ) → Same (one s listed d) (other s listed d)

  behind_same : (one other : Processes → List Name → ℕ → Selected) → MoreSame one other → (p : Name) (others : List Name) (drawn : ℕ) (x : Stepped) →
      Same (behind_step one p others drawn x) (behind_step other p others drawn x)
  behind_same one other h p others drawn (ended ending system turns) = refl
  behind_same one other h p others drawn (went s next quiet) = h s (others ++ joining p next) drawn

  taken_same : (one other : Processes → List Name → ℕ → Selected) → MoreSame one other → (s : Processes) (before : ℕ) (t : Taking) →
      Same (taken_step unit one s before t) (taken_step unit other s before t)
  taken_same one other h s before nobody = refl
  taken_same one other h s before (taking p others drawn) =
      first_same p (behind_step one p others drawn (step unit s p)) (behind_step other p others drawn (step unit s p))
      (behind_same one other h p others drawn (step unit s p))

  more_same : (n k : ℕ) → n ≤ k → MoreSame (walked unit choices n) (walked unit choices k)
  more_same zero k le s listed d = tt
  more_same (suc n) zero le s listed d = absurd (omega (arith, le))
  more_same (suc n) (suc k) le s listed d =
      taken_same (walked unit choices n) (walked unit choices k) (more_same n k (omega (arith, le))) s d (take_next choices d listed)

parts : (a b : Ending) (x y : Traced) (t t' d d' : ℕ) (o o' : List Name) → finished a x t d o ≡ finished b y t' d' o' → AreOne a b x y t t' d d' o o'
parts a b x y t t' d d' o o' e = record { ending = cc; end = cc; left = cc; draws = cc; names = cc }

is_same : (one other : Selected) (a b : Ending) (x y : Traced) (t t' d d' : ℕ) (o o' : List Name) → Same one other → one ≡ finished a x t d o →
    other ≡ finished b y t' d' o' → finished a x t d o ≡ finished b y t' d' o'
is_same unfinished other a b x y t t' d d' o o' h e f = absurd (cc)
is_same (finished ending end turns drawn order) other a b x y t t' d d' o o' h e f = sym e ∙ sym h ∙ f

pub walks_are_determined : WalksAreDetermined
walks_are_determined unit system bound choices before a b x y t t' d d' o o' e f = go (either e.0 f.0)
  where
    first : Processes
    first = start unit system bound

    either : (n k : ℕ) → (n ≤ k) ⊎ (k ≤ n)
    either zero k = inl (omega arith)
    either (suc n) zero = inr (omega arith)
    either (suc n) (suc k) = elim (either n k) [ inl h ↦ inl (omega (arith, h)) | inr h ↦ inr (omega (arith, h)) ]

    go : ((e.0 ≤ f.0) ⊎ (f.0 ≤ e.0)) → AreOne a b x y t t' d d' o o'
    go (inl le) = parts a b x y t t' d d' o o'
        (is_same _ _ a b x y t t' d d' o o' (more_same unit choices e.0 f.0 le first ([] ∷ []) before) e.1 f.1)
    go (inr le) = parts a b x y t t' d d' o o'
        (sym (is_same _ _ b a y x t' t d' d o' o (more_same unit choices f.0 e.0 le first ([] ∷ []) before) f.1 e.1))
