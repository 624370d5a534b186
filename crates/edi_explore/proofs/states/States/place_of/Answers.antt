-- The number is that of an equal place.
use Rattle.std.proofs.Common.{◌≡◌, sym, subst, refl, Some}
use Rattle.std.specs.Prelude.{slice_get}
use Rattle.edi_explore.specs.declared.offline.Place.{Place}
use Rattle.edi_explore.specs.contracts.offline.PlacePartialEq.TheImpl as place
use Rattle.edi_explore.specs.States.{Follows, IsSamePlace}
use Rattle.edi_explore.proofs.Growing.{follows_insert, follows_same, for_ok, same_ok}
use Rattle.edi_explore.proofs.Equal.{place_same}
use Rattle.edi_explore.proofs.states.States.place_of.Goals as goal

pub returns-clause-adds : goal.returns-clause-adds
returns-clause-adds c = for_ok c.as_number.result (record {
  processes = follows_same c.args.self.now.processes.keys;
  places = subst (Follows c.args.self.now.places.keys) (sym c.in_ok-number.ensures.keys)
      (follows_insert (place.ghosts).eq c.args.self.now.places.keys c.args.place);
  rest = refl;
})

pub returns-clause-there : goal.returns-clause-there
returns-clause-there c =
    same_ok (λ number. (other : Place) × (slice_get c.insert_full.new.self.keys number ≡ Some other) × IsSamePlace c.args.place other) c.as_number.result
    c.in_ok-number.number c.as_number.ensures
    (c.in_ok-number.ensures.stored.0, c.in_ok-number.ensures.stored.1, place_same c.args.place c.in_ok-number.ensures.stored.0 c.in_ok-number.ensures.stored.2)
