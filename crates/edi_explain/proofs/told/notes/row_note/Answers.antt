use Rattle.std.proofs.Common.{◌∙◌, ap}
use Rattle.std.specs.Prelude.{unwrap_or}
use Rattle.edi_explain.specs.told.Notes as spec
use Rattle.edi_explain.specs.told.Tables.{seen_of}
use Rattle.edi_explain.proofs.told.notes.row_note.Goals as goal

pub returns : goal.returns
returns c = record {
  exact = c.first_fit.ensures.exact ∙ ap (λ o. unwrap_or o (spec.first_fit spec.note_rows (seen_of c.args.seen.now))) c.in_default.ensures.exact;
}
