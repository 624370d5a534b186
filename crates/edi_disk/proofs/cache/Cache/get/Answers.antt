use Rattle.std.proofs.Common.{sym, ◌∙◌, ◌<◌, rules}
use Rattle.edi_disk.proofs.View as view
use Rattle.edi_disk.proofs.cache.Cache.get.Goals as goal

pub offset_bounds-self-inside-slot : goal.offset_bounds-self-inside-slot
offset_bounds-self-inside-slot c =
    let within : c.in_ok-slot.slot < 16 = view.slot_within c.self.inside.slots c.self.inside.order c.self.invariant c.args.i c.in_ok-slot.slot
    (sym c.nth.ensures.exact ∙ c.in_ok-slot.was) in
    search rules

pub bounds-self-inside-slot : goal.bounds-self-inside-slot
bounds-self-inside-slot c = view.slot_within c.self.inside.slots c.self.inside.order c.self.invariant c.args.i c.in_ok-slot.slot
    (sym c.nth.ensures.exact ∙ c.in_ok-slot.was)

pub returns : goal.returns
returns c = rw (← c.self.view_is) (view.got c.self.inside.slots c.self.inside.order c.self.invariant c.args.i c.in_ok-slot.slot _
    (sym c.nth.ensures.exact ∙ c.in_ok-slot.was))
