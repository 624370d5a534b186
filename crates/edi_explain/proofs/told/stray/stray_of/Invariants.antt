use Rattle.std.proofs.Common.{◌≤◌, ◌-◌, length}
use Rattle.edi_lex.specs.declared.fault.LexFault.{LexFault}
use Rattle.edi_explain.proofs.told.Strays.{Comes}
use Rattle.edi_explain.proofs.told.stray.stray_of.Given as goal

abbrev pub invariant-loop-at : goal.invariant-loop-at
invariant-loop-at l = record {
  small : l.at ≤ length l.bytes;
  goes : (f : LexFault) × Comes l.bytes f l.at;
}

abbrev pub decreases-loop-at : goal.decreases-loop-at
decreases-loop-at l = length l.bytes - l.at
