use Rattle.std.proofs.Common.{refl, arith}
use Rattle.edi_unit.specs.View.{unit_of}
use Rattle.edi_walk.proofs.Onward.{start_holds}
use Rattle.edi_walk.proofs.walker.Walker.start.Goals as goal

pub returns-clause-exact : goal.returns-clause-exact
returns-clause-exact c system =
    let first = c.in_ok-first.first in
    start_holds (unit_of c.args.unit.now) c.args.bound _ first c.new-name.result system refl c.in_ok-live.ensures.exact c.in_ok-listed.ensures.exact
    c.new-name.ensures.items c.in_ok-first.ensures.named c.in_ok-first.ensures.size.0 c.in_ok-first.ensures.size.1 c.in_ok-first.ensures.work
    c.in_ok-first.ensures.size.2 c.new-memory.ensures.exact refl (omega (arith, c.ranges.bound.fits)) c.new-frames.ensures.items
