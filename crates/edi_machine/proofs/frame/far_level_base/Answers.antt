use Rattle.std.proofs.Common.{◌≡◌, suc, ◌+◌, ◌-◌, sym, ap, ◌∙◌, arith}
use Rattle.edi_target.specs.Memory.{level}
use Rattle.edi_machine.proofs.frame.far_level_base.Goals as goal

pub loop-preserved : goal.loop-preserved
loop-preserved c =
    let left : c.args.count - c.loop.counter ≡ suc (c.args.count - (c.loop.counter + 1)) = omega arith in
    ap (level c.args.store.now (c.args.count - (c.loop.counter + 1))) c.get-at.ensures.exact
    ∙ ap (λ n. level c.args.store.now n c.loop.at) (sym left)
    ∙ c.loop.invariant
