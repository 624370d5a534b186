use Rattle.std.proofs.Common.{ap, ◌∙◌}
use Rattle.std.specs.Prelude.{map}
use Rattle.edi_unit.specs.Need.{slot_at, slot_type}
use Rattle.edi_unit.specs.View.{block_of, unit_of}
use Rattle.edi_meaning.specs.Store.{now, reached, shape}
use Rattle.edi_walk.specs.Memory.{instance_of, store_of}
use Rattle.edi_walk.proofs.Named.{named_seen}
use Rattle.edi_walk.proofs.evaluation.Evaluation.named.Goals as goal

pub returns-clause-exact : goal.returns-clause-exact
returns-clause-exact c =
    let self = c.args.self.now in
    let i = c.in-Some-instance.instance.now in
    let store = store_of self.memory in
    named_seen (unit_of self.unit.now) self.name.items self.size c.args.levels c.args.variable store (c.in-Some.process.now, c.in-Some.depth) (instance_of i) _
    (c.in-Some.ensures.exact ∙ ap (λ p. reached (shape store) c.args.levels (now (shape store) p)) c.deref.ensures.value) c.in-Some-instance.ensures.exact
    c.in_ok-at.ensures.exact
    (c.type_of-of.ensures.exact
    ∙ ap slot_type (c.slot.ensures.exact ∙ ap (λ bs. slot_at (map block_of bs) i.block 0 c.args.variable) c.items.ensures.exact))
