-- Definition. Which object outside a call uses, and two states of a system one right after the other.
use Rattle.std.specs.Prelude.{◌≡◌, ℕ, Bool, true, ◌||◌, ◌==◌, not, false, List, ◌∷◌, ◌++◌}
use Rattle.edi_calls.specs.declared.ends.Outside.{Outside}
use Rattle.edi_calls.specs.declared.ends.Outside.TheVariants as outside
use Rattle.edi_calls.specs.Calls.{answered, call}
use Rattle.edi_calls.specs.State.{State, newest}

-- The objects that the call of a number uses: `accept` the input, `display` the terminal, `print` the printer, and the seven calls of
-- files the drive.
abbrev pub uses : (number : ℕ) → Outside → Bool
uses number outside.Input = number == 1
uses number outside.Terminal = number == 2
uses number outside.Printer = number == 3
uses number outside.Drive = not (number == 1 || number == 2 || number == 3)

-- An object that fails may have done what was asked of it. The input has not: a byte is taken only by an answer.
abbrev pub may_have_done : Outside → Bool
may_have_done outside.Input = false
may_have_done outside.Terminal = true
may_have_done outside.Printer = true
may_have_done outside.Drive = true

-- a call that uses this object is answered in the one state, and leaves the other
pub record Asks (outside : Outside) (before next : State) : Type 0 where
  pub number : ℕ
  pub arguments : List ℕ
  pub answer : List ℕ
  pub is : call number arguments before ≡ answered answer next
  pub uses_it : uses number outside ≡ true

-- In this past of a system, which began in the first state and has the last state first, the one state is followed by the other.
pub record IsFollowed (system : State) (past : List State) (before next : State) : Type 0 where
  pub later : List State
  pub earlier : List State
  pub is : past ≡ later ++ next ∷ earlier
  pub last : newest system earlier ≡ before
