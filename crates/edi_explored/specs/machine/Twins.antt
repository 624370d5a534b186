-- Words of contracts. Machines that differ in nothing but what was printed and the turns that are left; and in what was shown, where that is
-- not told.
use Rattle.std.specs.Prelude.{◌≡◌, ◌⊎◌, Bool}
use Rattle.edi_calls.specs.Outcome as outcome
use Rattle.edi_calls.specs.Outcome.{Ending}
use Rattle.edi_target.specs.Mach.{Machine, Stepped, went, ended}
use Rattle.edi_kernel.specs.Stints as stints
use Rattle.edi_explored.specs.machine.Alike.{SameShown, Alike}

pub record Twin (told : Bool) (m q : Machine) : Type 0 where
  pub memory : q.memory ≡ m.memory
  pub activities : q.activities ≡ m.activities
  pub system : Alike told m.system q.system
  pub marks : q.marks ≡ m.marks

-- the same ending; or one of the two is cut by its turns
abbrev pub EndsAlike : Bool → Ending → Machine → Ending → Machine → Type 0
EndsAlike told e m f q = ((f ≡ e) × SameShown told m.system.shown q.system.shown) ⊎ ((e ≡ outcome.turns) ⊎ (f ≡ outcome.turns))

abbrev pub SteppedTwins : Bool → Stepped → Stepped → Type 0
SteppedTwins told (went m next) (went q other) = (other ≡ next) × Twin told m q
SteppedTwins told (went m next) (ended ending q) = ending ≡ outcome.turns
SteppedTwins told (ended ending m) (went q next) = ending ≡ outcome.turns
SteppedTwins told (ended ending m) (ended other q) = EndsAlike told ending m other q

abbrev pub StintedTwins : Bool → stints.Stint → stints.Stint → Type 0
StintedTwins told stints.unfinished stints.unfinished = Unit {0}
StintedTwins told (stints.switched m ps) (stints.switched q qs) = (qs ≡ ps) × Twin told m q
StintedTwins told (stints.over ending m) (stints.over other q) = EndsAlike told ending m other q
StintedTwins told (stints.over ending m) other = ending ≡ outcome.turns
StintedTwins told one (stints.over ending m) = ending ≡ outcome.turns
StintedTwins told one other = ⊥
