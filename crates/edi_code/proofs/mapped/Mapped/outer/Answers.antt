use Rattle.std.proofs.Common.{◌≡◌, ℕ, suc, ◌+◌, ◌-◌, ◌<◌, List, ap, sym, ◌∙◌, arith}
use Rattle.edi_unit.specs.Tree.{Block}
use Rattle.edi_unit.specs.Need.{block_at}
use Rattle.edi_unit.specs.Need as spec
use Rattle.edi_code.proofs.mapped.Mapped.outer.Goals as goal

one_step : (blocks : List Block) (b up levels level : ℕ) → level < levels → up ≡ (block_at blocks b).up → spec.outer blocks b (levels - level) ≡ spec.outer
    blocks up (levels - (level + 1))
one_step blocks b up levels level more same =
    let next : levels - level ≡ suc (levels - (level + 1)) = omega arith in
    ap (spec.outer blocks b) next ∙ ap (λ u. spec.outer blocks u (levels - (level + 1))) (sym same)

pub loop-level-preserved : goal.loop-level-preserved
loop-level-preserved c =
    λ unit mapped.
    sym (one_step unit.blocks c.loop-level.found c.up-found.result c.args.levels c.loop-level._level c.loop-level-test.true
    (c.up-found.ensures.exact unit mapped)) ∙ c.loop-level.invariant unit mapped
