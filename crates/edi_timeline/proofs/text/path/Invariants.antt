use Rattle.std.proofs.Common.{◌≡◌, ◌++◌, ◌-◌}
use Rattle.edi_timeline.specs.Told.{path_in}
use Rattle.edi_timeline.proofs.text.path.Given as goal

abbrev pub invariant-loop-level : goal.invariant-loop-level
invariant-loop-level l = record {
  path : l.path.items ++ path_in l.rows (l.most - l._level) l.at ≡ path_in l.rows l.most l.row;
}
