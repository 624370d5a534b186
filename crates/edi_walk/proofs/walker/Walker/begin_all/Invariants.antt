use Rattle.std.proofs.Common.{◌≡◌, drop}
use Rattle.edi_walk.proofs.Births.{BegunTo}
use Rattle.edi_walk.proofs.walker.Walker.begin_all.Given as goal

abbrev pub invariant-loop-number : goal.invariant-loop-number
invariant-loop-number l = record {
  at : l.i ≡ l.number-index;
  free : l.self.evaluation.frames ≡ l.initial.self.evaluation.frames;
  begun : BegunTo l.fork l.number-index (drop l.number-index l.branches) l.branches l.initial.self l.self;
}
