use Rattle.edi_runs.proofs.explore.Runs.{found_are_among_all, runs_end_as_told, runs_show_as_told}
use Rattle.edi_runs.proofs.explore.laws.runs_end_as_told.Goals as goal

pub returns : goal.returns
returns c = record { runs = runs_end_as_told; shows = runs_show_as_told; found = found_are_among_all }
