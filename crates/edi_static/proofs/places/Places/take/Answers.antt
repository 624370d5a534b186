use Rattle.std.proofs.Common.{[], ap}
use Rattle.std.specs.Option.{option_map_or}
use Rattle.edi_static.proofs.Listed.{listed-taken}
use Rattle.edi_static.proofs.places.Places.take.Goals as goal

pub returns : goal.returns
returns c = record {
  taken = ap (λ places. option_map_or (λ places. places.items) places []) c.remove.ensures.value;
  left = listed-taken c.args.self.now (record { lists = c.remove.new.self }) c.args.name.now c.remove.ensures.updates;
}
