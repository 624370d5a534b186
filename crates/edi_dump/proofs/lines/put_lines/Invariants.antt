use Rattle.std.proofs.Common.{◌≡◌, ◌++◌, drop, map}
use Rattle.std.specs.Prelude.{flat_map}
use Rattle.edi_waits.specs.Left.{told_end}
use Rattle.edi_dump.specs.Text.{end_text}
use Rattle.edi_dump.specs.Views.{known_in, memory_in, words_in}
use Rattle.edi_dump.proofs.lines.put_lines.Given as goal

abbrev pub invariant-loop-process : goal.invariant-loop-process
invariant-loop-process l = record {
  text :
      l.out.items ++ flat_map (end_text (known_in l.scene) (words_in l.scene) (memory_in l.scene)) (map told_end (drop l.process-index l.processes))
      ≡ l.fn.out.items ++ flat_map (end_text (known_in l.scene) (words_in l.scene) (memory_in l.scene)) (map told_end l.processes);
}
