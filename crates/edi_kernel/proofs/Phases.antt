-- Marks that the end of a critical phase takes away, noted where the process pauses.
use Rattle.std.proofs.Common.{◌≡◌, ℕ, zero, suc, Bool, true, false, ◌||◌, inl, inr, None, refl, sym, ap, ◌∙◌}
use Rattle.std.specs.Prelude.{nat_eq}
use Rattle.edi_machine.specs.declared.ends.TurnKind.TheVariants as kind
use Rattle.edi_machine.specs.declared.ends.StepEnd.{StepEnd}
use Rattle.edi_machine.specs.declared.ends.StepEnd.TheVariants as end
use Rattle.edi_machine.proofs.Telling.{StaysHeld, ended, never_both, went}
use Rattle.edi_kernel.specs.Stretch.{cleared_by, cleared_of, clears_after, noted_after, pause_of}

pub or_false : (b : Bool) → b ≡ (b || false)
or_false true = refl
or_false false = refl

pub or_true : (b : Bool) → true ≡ (b || true)
or_true true = refl
or_true false = refl

or_other : (a b : Bool) → (a || b) ≡ (b || a)
or_other true b = or_true b
or_other false b = or_false b

-- an activity that began in a phase, and is in none any more, has lost the marks
over : (noted phase : Bool) → (noted || phase) ≡ true → cleared_by noted phase 0 ≡ true
over true phase e = refl
over false true e = refl
over false false e = absurd (cc)

module _ (noted phase : Bool) (before after : ℕ) (began : before ≡ 1 → (noted || phase) ≡ true) where
  -- what is noted tells, where the process pauses and else with `held`, whether marks were taken away
  pub notes : (e : StepEnd) (left : ℕ) → StaysHeld e before after → cleared_of (pause_of e left) (noted_after e noted phase before) phase after
      ≡ (cleared_by noted phase before || clears_after e before after)
  notes end.On left (inl same) =
      ap (cleared_by noted phase) same ∙ or_false (cleared_by noted phase before)
      ∙ ap (λ (b : Bool). cleared_by noted phase before || b) (sym (went before after same))
  notes end.On left (inr gone) =
      ap (cleared_by noted phase) gone.1 ∙ over noted phase (began gone.0) ∙ or_true (cleared_by noted phase before)
      ∙ ap (λ (b : Bool). cleared_by noted phase before || b) (sym (ended before after gone.0 gone.1))
  notes (end.Turn k) zero h = or_other _ (cleared_by noted phase before)
  notes (end.Turn kind.Enter) (suc n) h = or_true _
  notes (end.Turn kind.End) (suc n) h = or_true _
  notes (end.Turn kind.Loop) (suc n) h = or_true _
  notes (end.Turn kind.ProgramEnd) (suc n) h = or_false _
  notes (end.Turn kind.Arrive) (suc n) h = or_false _
  notes (end.Turn (kind.Again marks)) (suc n) h = or_false _
  notes (end.Turn (kind.Fork at)) (suc n) h = or_false _
  notes (end.Turn kind.Exit) (suc n) h = or_false _
  notes (end.Fail cause line) left h = or_false _
  notes (end.Bad at) left h = or_false _
  notes end.Fault left h = or_false _

  none_is_one : (n : ℕ) → n ≡ 0 → n ≡ 1 → (noted || phase) ≡ true
  none_is_one zero e f = absurd (cc)
  none_is_one (suc n) e f = absurd (cc)

  -- an activity that goes on and is in a phase began in it
  pub stays_in : (e : StepEnd) (left : ℕ) → StaysHeld e before after → pause_of e left ≡ None → after ≡ 1
      → (noted_after e noted phase before || phase) ≡ true
  stays_in end.On left (inl same) none one = began (sym same ∙ one)
  stays_in end.On left (inr gone) none one = none_is_one after gone.1 one
  stays_in (end.Turn k) zero h none one = absurd (cc)
  stays_in (end.Turn kind.Enter) (suc n) h none one = refl
  stays_in (end.Turn kind.End) (suc n) h none one = refl
  stays_in (end.Turn kind.Loop) (suc n) h none one = refl
  stays_in (end.Turn kind.ProgramEnd) (suc n) h none one = absurd (cc)
  stays_in (end.Turn kind.Arrive) (suc n) h none one = absurd (cc)
  stays_in (end.Turn (kind.Again marks)) (suc n) h none one = absurd (cc)
  stays_in (end.Turn (kind.Fork at)) (suc n) h none one = absurd (cc)
  stays_in (end.Turn kind.Exit) (suc n) h none one = absurd (cc)
  stays_in (end.Fail cause line) left h none one = absurd (cc)
  stays_in (end.Bad at) left h none one = absurd (cc)
  stays_in end.Fault left h none one = absurd (cc)

-- where the process goes on from, no marks were taken away
pub begins : (held : ℕ) → cleared_by false (nat_eq held 1) held ≡ false
begins held = never_both held
