-- Words of contracts. The levels of an evaluation are only a measure: any number of them that is at least the turns left is enough.
use Rattle.std.specs.Prelude.{◌≡◌, ℕ, ◌≤◌}
use Rattle.edi_calls.specs.Names.{Name}
use Rattle.edi_unit.specs.Values.{is_true}
use Rattle.edi_unit.specs.Tree.{Expression, Place, Arguments, Clauses, ProgramUnit}
use Rattle.edi_meaning.specs.Evaluation.{World, gives, ◌>>=◌}
use Rattle.edi_meaning.specs.Whole.{arguments, assigned, expression, first, levels_of, whole_arguments, whole_assignment, whole_condition, whole_first}

-- with so many levels each evaluation to the end is what it is with as many as turns are left
pub record AreEnough (unit : ProgramUnit) (p : Name) (size levels : ℕ) (w : World) : Type 0 where
  pub of_arguments : (es : Arguments) → arguments unit p size (levels_of unit p size levels) es w ≡ whole_arguments unit p size es w
  pub of_assignment : (v : Place) (e : Expression) → assigned unit p size (levels_of unit p size levels) v e w ≡ whole_assignment unit p size v e w
  pub of_condition : (e : Expression) →
      (expression unit p size (levels_of unit p size levels) e w >>= λ v w. gives (is_true v) w) ≡ whole_condition unit p size e w
  pub of_first : (cs : Clauses) → first unit p size (levels_of unit p size levels) cs w ≡ whole_first unit p size cs w

abbrev pub LevelsAreEnough : Type 0
LevelsAreEnough = (unit : ProgramUnit) (p : Name) (size levels : ℕ) (w : World) → w.turns ≤ levels → AreEnough unit p size levels w
