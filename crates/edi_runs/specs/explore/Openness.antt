-- Words of contracts. What the code keeps of open uses, as plain data.
use Rattle.std.specs.Prelude.{◌≡◌, true, false, List, map, Result, Ok, Err, ℕ}
use Rattle.edi_calls.specs.State.{State}
use Rattle.edi_lex.specs.declared.symbol.Mark.{Mark}
use Rattle.edi_lex.specs.declared.fault.LexFault.{LexFault}
use Rattle.edi_tree.specs.Tree.{Program}
use Rattle.edi_grammar.specs.derivation.Faults.{IsTheTree}
use Rattle.edi_unit.specs.Tree.{ProgramUnit}
use Rattle.edi_sights.specs.named.Views.{names_view}
use Rattle.edi_disjoint.specs.declared.openly.OpenUse as code_use
use Rattle.edi_disjoint.specs.Footprints.{Variable}
use Rattle.edi_disjoint.specs.Openly.{use_of}
use Rattle.edi_disjoint.specs.steps.Inner.{InnerStepsKeep}
use Rattle.edi_runs.specs.declared.explore.openness.OpenNames as code_names
use Rattle.edi_runs.specs.declared.explore.openness.Openness as code_openness
use Rattle.edi_runs.specs.explore.Orders.{AreUsedOpenly, OpenName, name_in}

abbrev pub variable_used : code_use.OpenUse → Variable
variable_used one = (use_of one).variable

abbrev pub open_of : code_names.OpenNames → List OpenName
open_of openly = map (name_in (names_view openly.names)) (map variable_used openly.uses.items)

-- by what is known of the symbols: they are those of this tree
abbrev pub IsTreeOf : Result (List Mark × ℕ) LexFault → Program → Type 0
IsTreeOf (Err fault) tree = ⊥
IsTreeOf (Ok known) tree = IsTheTree known.0 tree

-- What is told of a text with this unit: where nothing is used so, inner steps keep to themselves; else the variables are those that are used so.
pub record IsOpenness (text : List ℕ) (unit : ProgramUnit) (openly : code_openness.Openness) : Type 0 where
  pub keep : openly.none ≡ true → (system : State) → InnerStepsKeep unit system
  pub names : openly.none ≡ false → AreUsedOpenly text (open_of openly.names)
