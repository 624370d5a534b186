use Rattle.std.proofs.Common.{◌≡◌, ℕ, suc, ◌+◌, ◌-◌, ◌<◌, List, ap, sym, ◌∙◌, arith}
use Rattle.edi_target.specs.Memory as memory
use Rattle.edi_debug.proofs.running.level.Goals as goal

one_step : (store : List ℕ) (levels level base next : ℕ) → level < levels → next ≡ memory.word store base →
    memory.level store (levels - level) base ≡ memory.level store (levels - (level + 1)) next
one_step store levels level base next more same =
    let count : levels - level ≡ suc (levels - (level + 1)) = omega arith in
    ap (λ k. memory.level store k base) count ∙ ap (memory.level store (levels - (level + 1))) (sym same)

pub loop-level-preserved : goal.loop-level-preserved
loop-level-preserved c = record {
  exact =
      sym (one_step c.args.kernel.now.store c.args.levels c.loop-level._level c.loop-level.found c.from-found.result c.loop-level-test.true
      (c.from-found.ensures ∙ c.word_at.ensures.exact ∙ ap (memory.word c.args.kernel.now.store) c.from.ensures))
      ∙ c.loop-level.invariant.exact;
}
