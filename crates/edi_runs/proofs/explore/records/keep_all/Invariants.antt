use Rattle.std.proofs.Common.{◌≡◌, ◌≤◌, ◌+◌, drop, map}
use Rattle.edi_told.specs.Told.{WhereTold}
use Rattle.edi_runs.specs.explore.Records.{records_from}
use Rattle.edi_runs.specs.explore.Told.{reached_of}
use Rattle.edi_runs.proofs.explore.Keeping.{Continues}
use Rattle.edi_runs.proofs.explore.records.keep_all.Given as goal

abbrev pub invariant-loop-found : goal.invariant-loop-found
invariant-loop-found g l = record {
  told : WhereTold (g.F.Files.contents l.fn.files) (g.F.Files.contents l.files)
      (Continues (records_from l.name 1 (map reached_of l.endings)) (records_from l.name (l.number + 1) (map reached_of (drop l.found-index l.endings))));
  number : l.number ≡ l.found-index;
  later : g.F.Files.faults l.fn.files ≤ g.F.Files.faults l.files;
}
