use Rattle.std.proofs.Common.{subst, sym, ap, ◌∙◌}
use Rattle.edi_calls.specs.Names.{with_at}
use Rattle.edi_walk.specs.Data.{location_of, value_of}
use Rattle.edi_walk.specs.Memory.{instances_put, StandsAt, store_of}
use Rattle.edi_walk.proofs.Entries.{stands_found, stands_with}
use Rattle.edi_walk.proofs.memory.Memory.put.Goals as goal

pub returns : goal.returns
returns c =
    let entries = c.args.self.now.entries.items in
    let name = c.args.location.now.spot.name.items in
    let stands = subst (λ n. StandsAt n c.in-Some.place entries) c.deref.ensures.value c.in-Some.ensures.exact in
    let entry = c.index_mut.result.now in
    record {
      exact = λ h.
          stands_with name c.in-Some.place entries entry c.put.new.self
          stands c.index_mut.ensures.value c.put.ensures.name
          ∙ ap (with_at (store_of c.args.self.now) name)
          (c.put.ensures.exact h
          ∙ ap (λ is. instances_put is (location_of c.args.location.now) (value_of c.args.value))
          (sym (stands_found name c.in-Some.place entries entry stands c.index_mut.ensures.value)));
    }
