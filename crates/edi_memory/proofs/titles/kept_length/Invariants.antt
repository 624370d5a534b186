use Rattle.std.proofs.Common.{◌≡◌, take}
use Rattle.edi_calls.specs.State.{without_blanks}
use Rattle.edi_memory.proofs.titles.kept_length.Given as goal

abbrev pub invariant-loop-index : goal.invariant-loop-index
invariant-loop-index l = take l.kept l.title ≡ without_blanks (take l.index l.title)
