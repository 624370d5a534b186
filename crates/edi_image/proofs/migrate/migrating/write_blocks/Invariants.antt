use Rattle.std.proofs.Common.{◌≡◌, ◌≤◌, ◌++◌, take, drop}
use Rattle.std.specs.Prelude.{length}
use Rattle.edi_told.specs.Told.{WhereTold}
use Rattle.edi_image.proofs.migrate.migrating.write_blocks.Given as goal

abbrev pub invariant-loop-n : goal.invariant-loop-n
invariant-loop-n g l = record {
  told : WhereTold (g.D.Drive.contents l.initial.drive) (g.D.Drive.contents l.drive)
      (λ old new. length l.blocks ≤ length old → new ≡ take l.n l.blocks ++ drop l.n old);
  count : g.D.Drive.count l.drive ≡ g.D.Drive.count l.initial.drive;
  later : g.D.Drive.faults l.initial.drive ≤ g.D.Drive.faults l.drive;
}
