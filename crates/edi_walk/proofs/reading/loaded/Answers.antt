use Rattle.std.proofs.Common.{subst}
use Rattle.edi_unit.specs.View.{place_of}
use Rattle.edi_walk.specs.Reads.{ReadsPlace}
use Rattle.edi_walk.proofs.ReadParts.{load_stops, loaded_so}
use Rattle.edi_walk.proofs.reading.loaded.Goals as goal

pub returns-in-Ok : goal.returns-in-Ok
returns-in-Ok c = record {
  exact =
      loaded_so c.args.here.now (place_of c.args.place.now) c.in-Ok.target c.ordinal_at.result c.ordinal_at.ensures.exact c.ordinal_at.ensures.err
      (subst (λ r. ReadsPlace (place_of c.args.place.now) r c.args.here.now) c.in-Ok.is c.requires.read);
}

pub returns-in-Err : goal.returns-in-Err
returns-in-Err c = record {
  exact =
      load_stops c.args.here.now (place_of c.args.place.now) c.in-Err.hurdle
      (subst (λ r. ReadsPlace (place_of c.args.place.now) r c.args.here.now) c.in-Err.is c.requires.read);
}
