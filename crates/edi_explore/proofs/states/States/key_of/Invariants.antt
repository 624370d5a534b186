use Rattle.std.proofs.Common.{◌≡◌, Some}
use Rattle.std.specs.Prelude.{slice_get}
use Rattle.edi_explore.specs.declared.offline.Place.{Place}
use Rattle.edi_explore.specs.Systems.{IsPlaceOf}
use Rattle.edi_explore.specs.States.{AddsParts, ArePartsBelow}
use Rattle.edi_explore.proofs.states.States.key_of.Given as goal

-- the parts of the processes at slots below this one
abbrev pub invariant-loop-slot : goal.invariant-loop-slot
invariant-loop-slot l = record {
  parts : ArePartsBelow l.slot l.self.processes.keys l.parts.items l.kernel;
  adds : AddsParts l.fn.self l.self;
  place : (place : Place) × (slice_get l.self.places.keys l.place ≡ Some place) × IsPlaceOf l.asks l.calls place;
}
