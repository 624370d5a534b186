-- Variables, parts, arguments and assignments in one record.
use Rattle.std.proofs.Common.{ℕ}
use Rattle.edi_unit.specs.Tree.{Acts}
use Rattle.edi_meaning.specs.Evaluation.{World, Evaluation}
use Rattle.edi_follows.specs.places.Coded.{Coded}
use Rattle.edi_follows.specs.places.Scene.{Scene}
use Rattle.edi_follows.specs.places.Constructs.{Places}
use Rattle.edi_follows.proofs.places.Whole.{load_does, assign_does}
use Rattle.edi_follows.proofs.places.Roots.{place_does}
use Rattle.edi_follows.proofs.places.PartSteps.{no_part_does, field_does}
use Rattle.edi_follows.proofs.places.Elements.{index_does}
use Rattle.edi_follows.proofs.places.Arguments.{no_argument_does}
use Rattle.edi_follows.proofs.places.Passing.{value_does, variable_does}
use Rattle.edi_follows.proofs.places.Procedures.{procedure_does}

pub places : (g : Coded) (s : Scene) (deeper : Acts → World → Evaluation (Unit {0})) (bound : ℕ) → Places g s deeper bound
places g s deeper bound = record {
  load = load_does g s deeper bound;
  place = place_does g s deeper bound;
  no_part = no_part_does g s deeper bound;
  field_then = field_does g s deeper bound;
  index_then = index_does g s deeper bound;
  no_argument = no_argument_does g s deeper bound;
  value_then = value_does g s deeper bound;
  variable_then = variable_does g s deeper bound;
  procedure_then = procedure_does g s deeper bound;
  assign = assign_does g s deeper bound;
}
