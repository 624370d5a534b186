use Rattle.std.proofs.Common.{sym}
use Rattle.edi_syntax.proofs.Once.{no_tree}
use Rattle.edi_syntax.proofs.laws.printed_programs_are_read_again.Goals as goal

pub returns : goal.returns
returns c = record {
  one = λ tree other known scans it. sym (it.one tree scans);
  no_fault = λ tree known f scans shallow is. no_tree known.0 known.1 f tree is scans shallow;
}
