use Rattle.std.proofs.Common.{◌≡◌, drop, length}
use Rattle.edi_code.specs.Aimed.{AreThere, aimed}
use Rattle.edi_code.proofs.jumps.aim_all.Given as goal

abbrev pub invariant-loop-start : goal.invariant-loop-start
invariant-loop-start l = record {
  there : AreThere (drop l.start-index l.starts) (length l.out.items);
  left : aimed l.target (drop l.start-index l.starts) l.out.items ≡ aimed l.target l.starts l.fn.out.items;
}
