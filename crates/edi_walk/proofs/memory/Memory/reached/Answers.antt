use Rattle.std.proofs.Common.{◌-◌, ◌+◌, sym, ap, ◌∙◌, arith}
use Rattle.edi_meaning.specs.Store.{shape, instances}
use Rattle.edi_walk.specs.Memory.{instance_of, store_of}
use Rattle.edi_walk.proofs.Entries.{reached_one, frame_there}
use Rattle.edi_walk.proofs.memory.Memory.reached.Goals as goal

pub loop-level-preserved : goal.loop-level-preserved
loop-level-preserved c =
    let store = store_of c.args.self.now in
    let i = c.in_ok-instance.instance.now in
    let k = c.loop-level._level in
    sym (reached_one (shape store) (c.args.levels - k) (c.args.levels - (k + 1)) (c.loop-level.process.now, c.loop-level.depth)
    (c.deref-process.result.now, i.parent.depth) (omega (arith, c.loop-level-test.true))
    (ap (λ f. f.parent) (frame_there (instances store c.loop-level.process.now) c.loop-level.depth (instance_of i) c.in_ok-instance.ensures.exact)
    ∙ ap (λ p. (p, i.parent.depth)) (sym c.deref-process.ensures.value)))
    ∙ c.loop-level.invariant
