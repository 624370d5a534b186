use Rattle.std.proofs.Common.{◌∙◌, sym, take}
use Rattle.edi_calls.specs.State.{is_title, without_blanks}
use Rattle.edi_image.specs.migrate.OldEntries.{old_fields_fit, old_record_in}
use Rattle.edi_image.proofs.EntryParts.{no_fields}
use Rattle.edi_image.proofs.migrate.old.record_in.Goals as goal

pub returns-then-not-fields_fit : goal.returns-then-not-fields_fit
returns-then-not-fields_fit c =
    no_fields (is_title (without_blanks (take 12 c.args.bytes.now))) (old_fields_fit c.args.count c.args.bytes.now) (old_record_in c.args.bytes.now)
    (sym c.fields_fit.ensures ∙ c.if-not-fields_fit.true)
