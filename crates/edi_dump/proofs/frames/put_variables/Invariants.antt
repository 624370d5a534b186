use Rattle.std.proofs.Common.{◌≡◌, ◌++◌, drop}
use Rattle.edi_dump.specs.Frames.{variables_text}
use Rattle.edi_dump.specs.Views.{program_of}
use Rattle.edi_dump.proofs.frames.put_variables.Given as goal

abbrev pub invariant-loop-name : goal.invariant-loop-name
invariant-loop-name l = record {
  text : l.out.items ++ variables_text (program_of l.known) l.memory (drop l.name-index l.names) l.left l.rest
      ≡ l.fn.out.items ++ variables_text (program_of l.known) l.memory l.names l.variables l.words;
}
