use Rattle.std.proofs.Common.{refl}
use Rattle.edi_disk.specs.Use.{cached_slot}
use Rattle.edi_disk.proofs.View as view
use Rattle.edi_disk.proofs.cache.Cache.hold.Goals as goal

pub invariant_of-self : goal.invariant_of-self
invariant_of-self c =
    view.kept_hold c.self.inside.slots c.self.inside.order c.self.invariant c.args.n c.vacate-slot.result c.vacate-slot.new.order c.vacate-slot.ensures
    (rw c.self.view_is c.requires)
    (cached_slot c.args.n c.args.bytes.now c.args.unwritten) refl

pub returns : goal.returns
returns c =
    rw (← c.self.view_is)
    (view.view_hold c.self.inside.slots c.self.inside.order c.self.invariant c.args.n c.vacate-slot.result c.vacate-slot.new.order c.vacate-slot.ensures
    (rw c.self.view_is c.requires)
    (cached_slot c.args.n c.args.bytes.now c.args.unwritten) refl)
