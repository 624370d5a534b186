use Rattle.std.proofs.Common.{◌≡◌, drop}
use Rattle.edi_explain.specs.told.Notes.{note_beside}
use Rattle.edi_explain.specs.told.Tables.{rows_beside}
use Rattle.edi_explain.proofs.told.notes.note_beside.Given as goal

abbrev pub invariant-loop-row : goal.invariant-loop-row
invariant-loop-row l = note_beside (rows_beside (drop l.row-index l.table)) l.word ≡ note_beside (rows_beside l.table) l.word
