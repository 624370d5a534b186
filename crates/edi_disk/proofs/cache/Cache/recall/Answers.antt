use Rattle.std.proofs.Common.{refl, ap}
use Rattle.edi_disk.specs.declared.cache.Slot.{Slot}
use Rattle.edi_disk.specs.Slots.{slot_at}
use Rattle.edi_disk.proofs.View as view
use Rattle.edi_disk.proofs.cache.Cache.recall.Goals as goal

pub returns-in_default-clause-absent : goal.returns-in_default-clause-absent
returns-in_default-clause-absent c = λ _. (rw (← c.self.view_is) (view.absent _ _ c.self.invariant c.args.n c.in_default.ensures.none), refl)

pub returns-in_default-clause-bound : goal.returns-in_default-clause-bound
returns-in_default-clause-bound c = rw (← c.self.view_is) (view.bound _ _ c.self.invariant)

pub invariant_of-self : goal.invariant_of-self
invariant_of-self c = view.kept_moved c.self.inside.slots c.self.inside.order c.self.invariant c.args.n c.in-Some.slot c.to_back.new.self
    c.in-Some.ensures.in_use c.in-Some.ensures.number c.to_back.ensures.exact c.to_back.ensures.sound

pub returns-clause-found : goal.returns-clause-found
returns-clause-found c = λ _.
    rw (← c.self.view_is) (
      slot_at c.self.inside.slots c.in-Some.slot,
      view.found _ _ c.self.invariant _ _ _ c.in-Some.ensures.in_use c.in-Some.ensures.number c.to_back.ensures.exact c.to_back.ensures.sound,
      ap (λ (p : Slot). p.bytes) (view.read c.self.inside.slots c.self.inside.order c.self.invariant c.in-Some.slot _ c.in-Some.ensures.within),
      view.view_moved c.self.inside.slots c.self.inside.order c.self.invariant c.args.n c.in-Some.slot c.to_back.new.self c.in-Some.ensures.in_use
          c.in-Some.ensures.number c.to_back.ensures.exact c.to_back.ensures.sound,
    )

pub returns-clause-bound : goal.returns-clause-bound
returns-clause-bound c = rw (← c.self.view_is) (view.bound _ _ c.self.invariant)
