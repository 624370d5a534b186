use Rattle.std.proofs.Common.{[], refl, sym, ap, ◌∙◌}
use Rattle.std.specs.Prelude.{map, unwrap_or}
use Rattle.edi_walk.specs.Memory.{instance_of}
use Rattle.edi_walk.proofs.Entries.{stands_found}
use Rattle.edi_walk.proofs.memory.Memory.instances.Goals as goal

pub returns-in-Some-clause-exact : goal.returns-in-Some-clause-exact
returns-in-Some-clause-exact c =
    ap (map instance_of) c.deref.ensures.value
    ∙ sym (stands_found c.args.name.now c.in-Some.place c.args.self.now.entries.items c.index.result.now c.in-Some.ensures.exact c.index.ensures)

pub returns-in-None-clause-none : goal.returns-in-None-clause-none
returns-in-None-clause-none c none = ap (λ x. unwrap_or x []) (c.in-None.ensures.none refl)
