use Rattle.std.proofs.Common.{◌<◌, length, refl, arith}
use Rattle.edi_walk.specs.Data.{location_of, value_of}
use Rattle.edi_walk.proofs.Entries.{instance_put, words_set}
use Rattle.edi_walk.proofs.memory.put_in.Goals as goal

pub returns : goal.returns
returns c =
    let is = c.args.instances.now.items in
    let depth = c.args.location.now.spot.depth in
    let within : depth < length is = omega (arith, c.if-depth-len.false, c.len.ensures, c.args.instances.now.ok.0) in
    record {
      exact = λ h.
          instance_put is depth c.index_mut.result.now _ (location_of c.args.location.now) (value_of c.args.value) refl within c.index_mut.ensures.value refl refl
          refl (c.put_cell.ensures.exact h);
      needed = words_set is depth c.index_mut.result.now _ within c.index_mut.ensures.value refl;
    }
