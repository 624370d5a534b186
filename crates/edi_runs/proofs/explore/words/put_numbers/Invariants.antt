use Rattle.std.proofs.Common.{◌≡◌, ◌++◌, drop}
use Rattle.edi_runs.specs.explore.Lines.{numbers_text}
use Rattle.edi_runs.proofs.explore.words.put_numbers.Given as goal

abbrev pub invariant-loop-number : goal.invariant-loop-number
invariant-loop-number l = record {
  text : l.out.items ++ numbers_text (drop l.number-index l.numbers) ≡ l.fn.out.items ++ numbers_text l.numbers;
}
