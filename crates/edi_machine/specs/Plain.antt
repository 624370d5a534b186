-- Words of contracts. How a plain instruction ends: its process stays in its frame, and no turn is due but that of a loop's end or of a `when`.
-- And how one of the loop ends: it may also go to another frame.
use Rattle.std.specs.Prelude.{◌≡◌, ℕ, zero, suc, Bool, true, false}
use Rattle.edi_machine.specs.declared.activity.Activity.{Activity}
use Rattle.edi_machine.specs.declared.ends.TurnKind.{TurnKind}
use Rattle.edi_machine.specs.declared.ends.TurnKind.TheVariants as kind
use Rattle.edi_machine.specs.declared.ends.StepEnd.{StepEnd}
use Rattle.edi_machine.specs.declared.ends.StepEnd.TheVariants as end

-- the turns that may be due after a plain instruction where so many are left
abbrev pub may_be_due : (turns_left : ℕ) → TurnKind → Bool
may_be_due zero k = false
may_be_due (suc n) kind.Loop = true
may_be_due (suc n) kind.Arrive = true
may_be_due (suc n) k = false

-- how it may end
abbrev pub is_plain : (turns_left : ℕ) → StepEnd → Bool
is_plain turns_left (end.Turn k) = may_be_due turns_left k
is_plain turns_left end.Fault = false
is_plain turns_left answer = true

pub record Plainly (turns_left : ℕ) (answer : StepEnd) (old new : Activity) : Type 0 where
  pub plain : is_plain turns_left answer ≡ true
  pub same_base : new.base ≡ old.base
  pub same_end : new.end ≡ old.end
  pub same_segment : new.segment ≡ old.segment

-- the turns that may be due after an instruction of the loop where so many are left
abbrev pub may_follow : (turns_left : ℕ) → TurnKind → Bool
may_follow zero k = false
may_follow (suc n) kind.Enter = true
may_follow (suc n) kind.End = true
may_follow (suc n) k = may_be_due (suc n) k

-- how it may end
abbrev pub is_looped : (turns_left : ℕ) → StepEnd → Bool
is_looped turns_left (end.Turn k) = may_follow turns_left k
is_looped turns_left answer = is_plain turns_left answer

pub record Looped (turns_left : ℕ) (answer : StepEnd) (old new : Activity) : Type 0 where
  pub looped : is_looped turns_left answer ≡ true
  pub same_segment : new.segment ≡ old.segment
