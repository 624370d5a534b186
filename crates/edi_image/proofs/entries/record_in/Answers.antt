use Rattle.std.proofs.Common.{◌∙◌, ap, sym, take}
use Rattle.edi_calls.specs.State.{is_title, without_blanks}
use Rattle.edi_image.specs.Titles.{title_from}
use Rattle.edi_image.specs.Entries.{fields_fit, record_in}
use Rattle.edi_image.proofs.EntryParts.{no_title, no_fields}
use Rattle.edi_image.proofs.entries.record_in.Goals as goal

pub returns-then-not-fields_fit : goal.returns-then-not-fields_fit
returns-then-not-fields_fit c =
    no_fields (is_title (without_blanks (take 24 c.args.bytes.now))) (fields_fit c.args.count c.args.bytes.now) (record_in c.args.bytes.now)
    (sym c.fields_fit.ensures ∙ c.if-not-fields_fit.true)

pub returns-in-None : goal.returns-in-None
returns-in-None c =
    no_title (is_title (without_blanks (take 24 c.args.bytes.now))) (fields_fit c.args.count c.args.bytes.now)
    (without_blanks (take 24 c.args.bytes.now)) (record_in c.args.bytes.now)
    (c.in-None.ensures.exact ∙ ap title_from c.split_at.ensures.front)
