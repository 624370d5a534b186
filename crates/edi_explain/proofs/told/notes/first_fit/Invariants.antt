use Rattle.std.proofs.Common.{◌≡◌, drop}
use Rattle.edi_explain.specs.told.Notes.{first_fit}
use Rattle.edi_explain.specs.told.Tables.{rows_of, seen_of}
use Rattle.edi_explain.proofs.told.notes.first_fit.Given as goal

abbrev pub invariant-loop-row : goal.invariant-loop-row
invariant-loop-row l = first_fit (rows_of (drop l.row-index l.table)) (seen_of l.seen) ≡ first_fit (rows_of l.table) (seen_of l.seen)
