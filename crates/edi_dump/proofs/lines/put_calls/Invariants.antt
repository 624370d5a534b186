use Rattle.std.proofs.Common.{◌≡◌, ◌++◌, true, drop}
use Rattle.edi_dump.specs.Text.{calls_text}
use Rattle.edi_dump.specs.Views.{known_in, memory_in, words_in}
use Rattle.edi_dump.proofs.lines.put_calls.Given as goal

abbrev pub invariant-loop-call : goal.invariant-loop-call
invariant-loop-call l = record {
  text :
      l.out.items ++ calls_text (known_in l.scene) (words_in l.scene) (memory_in l.scene) l.newest (drop l.call-index l.calls)
      ≡ l.fn.out.items ++ calls_text (known_in l.scene) (words_in l.scene) (memory_in l.scene) true l.calls;
}
