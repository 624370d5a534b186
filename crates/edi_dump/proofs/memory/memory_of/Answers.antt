use Rattle.std.proofs.Common.{◌≡◌, IfOk, arith, subst}
use Rattle.std.proofs.lemmas.List.{take_all}
use Rattle.edi_dump.proofs.memory.memory_of.Goals as goal

pub returns : goal.returns
returns c = record {
  exact =
      subst (λ xs. IfOk c.first_words.result (λ words. words.items ≡ xs))
      (take_all 65536 c.args.kernel.now.store (omega (arith, c.word-first.ensures.whole.long)))
      c.first_words.ensures.exact;
}
