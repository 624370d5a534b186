use Rattle.std.proofs.Common.{refl, sym, ap, ◌∙◌}
use Rattle.std.specs.Prelude.{slice_get}
use Rattle.std.proofs.lemmas.Option.{slice_get_read}
use Rattle.edi_walk.proofs.Entries.{instance_there}
use Rattle.edi_walk.proofs.memory.Memory.instance.Goals as goal

pub returns : goal.returns
returns c =
    let x = c.in_ok-instance.instance.now in
    let found = c.in_ok-instance.ensures.lookup in
    record {
      exact =
          sym (ap (λ is. slice_get is c.args.depth) c.in_ok-instances.ensures.exact)
          ∙ instance_there c.in_ok-instances.instances.now c.args.depth x
          (slice_get_read c.in_ok-instances.instances.now _ c.args.depth x refl found.3.0 found.1);
    }
