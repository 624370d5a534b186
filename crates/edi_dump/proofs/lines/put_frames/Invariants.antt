use Rattle.std.proofs.Common.{◌≡◌, ◌++◌, drop}
use Rattle.std.specs.Prelude.{flat_map}
use Rattle.edi_dump.specs.Text.{frame_text}
use Rattle.edi_dump.specs.Views.{known_in, memory_in, words_in}
use Rattle.edi_dump.proofs.lines.put_frames.Given as goal

abbrev pub invariant-loop-frame : goal.invariant-loop-frame
invariant-loop-frame l = record {
  text :
      l.out.items ++ flat_map (frame_text (known_in l.scene) (words_in l.scene) (memory_in l.scene)) (drop l.frame-index l.frames)
      ≡ l.fn.out.items ++ flat_map (frame_text (known_in l.scene) (words_in l.scene) (memory_in l.scene)) l.frames;
}
