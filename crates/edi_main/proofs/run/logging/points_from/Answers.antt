-- The points of a file.
use Rattle.std.proofs.Common.{◌∙◌}
use Rattle.edi_statuses.specs.Outside.{still_told}
use Rattle.edi_runs.specs.watch.Watchable.{program_in}
use Rattle.edi_main.specs.steps.OnFiles.{files_only}
use Rattle.edi_main.proofs.run.PointsRead.{no_fault, points_step}
use Rattle.edi_main.proofs.run.logging.points_from.Goals as goal

pub returns-clause-reads : goal.returns-clause-reads
returns-clause-reads g c =
    let fetched = c.in_ok-bytes.ensures.fetched in
    points_step (files_only (still_told (g.F.Files.contents c.args.files.now) (g.F.Files.contents c.fetch.new.files))) (program_in c.args.watched.now)
    c.args.name.now c.deref.result.now fetched.0 c.points_of.result fetched.1 (c.deref.ensures.value ∙ fetched.2) c.points_of.ensures.exact

pub returns-clause-only : goal.returns-clause-only
returns-clause-only g c = record {
  unchanged = c.in_ok-bytes.ensures.only.unchanged;
  later = c.in_ok-bytes.ensures.only.later;
  cause = no_fault (program_in c.args.watched.now) c.deref.result.now c.points_of.result _ c.points_of.ensures.exact;
}
