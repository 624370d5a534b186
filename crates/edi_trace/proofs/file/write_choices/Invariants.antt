use Rattle.std.proofs.Common.{◌≡◌, take}
use Rattle.edi_trace.specs.Lines.{written}
use Rattle.edi_trace.proofs.file.write_choices.Given as goal

abbrev pub invariant-loop-value : goal.invariant-loop-value
invariant-loop-value l = l.bytes.items ≡ written (take l.value-index l.used)
