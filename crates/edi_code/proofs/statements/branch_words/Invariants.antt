use Rattle.std.proofs.Common.{◌≡◌, ◌<◌, ◌++◌, drop, length}
use Rattle.std.specs.Prelude.{All}
use Rattle.edi_code.specs.Scope.{blocks_in}
use Rattle.edi_code.specs.InScope.{branch_words_in}
use Rattle.edi_code.proofs.statements.branch_words.Given as goal

abbrev pub invariant-loop-branch : goal.invariant-loop-branch
invariant-loop-branch l = record {
  there : All (λ n. n < length (blocks_in l.scope)) (drop l.branch-index l.branch-items);
  words : l.words.items ++ branch_words_in l.scope (drop l.branch-index l.branch-items) ≡ branch_words_in l.scope l.branch-items;
}
