use Rattle.std.proofs.Common.{◌≡◌, ◌≤◌, ◌++◌, take, drop, length}
use Rattle.edi_told.specs.Told.{WhereTold}
use Rattle.edi_image.specs.Formatted.{new_catalogue}
use Rattle.edi_catalog.proofs.formatting.write_catalogue.Given as goal

abbrev pub invariant-loop-n : goal.invariant-loop-n
invariant-loop-n g l = record {
  told : WhereTold (g.D.Drive.contents l.initial.drive) (g.D.Drive.contents l.drive)
      (λ old new. 33 ≤ length old → new ≡ take l.n (new_catalogue l.count) ++ drop l.n old);
  count : g.D.Drive.count l.drive ≡ g.D.Drive.count l.initial.drive;
  later : g.D.Drive.faults l.initial.drive ≤ g.D.Drive.faults l.drive;
}
