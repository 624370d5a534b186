use Rattle.std.proofs.Common.{◌≤◌, length, sym, ◌∙◌, arith, lit<}
use Rattle.edi_ring.specs.Lists.{list_at}
use Rattle.edi_disk.proofs.Order as order
use Rattle.edi_disk.proofs.cache.vacate.Goals as goal

pub to_back-requires : goal.to_back-requires
to_back-requires c =
    let first = order.first_in (list_at c.args.order.now 0) c.unwrap-first.result (sym c.front.ensures.exact ∙ c.unwrap-first.ensures) in
    (lit< tt, (c.requires.sound.in_range 0 c.unwrap-first.result first, order.is_home c.args.order.now c.unwrap-first.result c.requires.sound.as_many first))

pub returns : goal.returns
returns c =
    let full : 16 ≤ length (list_at c.args.order.now 0) = omega (arith, c.len-used.ensures.exact) in
    order.vacates_first c.args.order.now c.to_back.new.self c.unwrap-first.result c.requires c.to_back.ensures.sound full
    (sym c.front.ensures.exact ∙ c.unwrap-first.ensures) c.to_back.ensures.exact
