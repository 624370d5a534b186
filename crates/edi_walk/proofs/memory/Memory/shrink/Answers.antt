use Rattle.std.proofs.Common.{◌-◌, sym, ap, ◌∙◌, length, take}
use Rattle.std.specs.Prelude.{map}
use Rattle.std.proofs.lemmas.List.{take-map, length-map}
use Rattle.edi_calls.specs.Names.{with_at}
use Rattle.edi_walk.specs.Memory.{instance_of, store_of}
use Rattle.edi_walk.proofs.Entries.{stands_found, stands_with}
use Rattle.edi_walk.proofs.memory.Memory.shrink.Goals as goal

pub returns : goal.returns
returns c =
    let entries = c.args.self.now.entries.items in
    let name = c.args.name.now in
    let entry = c.index_mut.result.now in
    record {
      exact = λ h.
          stands_with name c.in-Some.place entries entry c.pop.new.self c.in-Some.ensures.exact c.index_mut.ensures.value c.pop.ensures.name
          ∙ ap (with_at (store_of c.args.self.now) name)
          (ap (map instance_of) (c.pop.ensures.exact ∙ ap (λ n. take (n - 1) entry.instances.items) (sym (length-map entry.instances.items instance_of)))
          ∙ sym (take-map instance_of (length (map instance_of entry.instances.items) - 1) entry.instances.items)
          ∙ ap (λ is. take (length is - 1) is)
          (sym (stands_found name c.in-Some.place entries entry c.in-Some.ensures.exact c.index_mut.ensures.value)));
    }
