use Rattle.edi_timeline.proofs.Telling.{told_adds, told_counts, told_goes, goes_more, told_seats}
use Rattle.edi_timeline.proofs.laws.timelines_grow.Goals as goal

pub returns : goal.returns
returns c = record { adds = told_adds; counts = told_counts; going = told_goes; goes = goes_more; seats = told_seats }
