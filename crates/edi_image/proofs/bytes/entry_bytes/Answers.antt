use Rattle.std.proofs.Common.{◌∙◌, ap, rules}
use Rattle.edi_image.specs.Titles.{with_blanks}
use Rattle.edi_image.specs.Records.{FileRecord}
use Rattle.edi_image.specs.Bytes.{bytes_of_record}
use Rattle.edi_image.proofs.EntryBytes.{entry_made}
use Rattle.edi_image.proofs.bytes.entry_bytes.Goals as goal

pub returns : goal.returns
unfolding bytes_of_record
returns c =
    entry_made _ _ _ _ _ _ (c.copy_from_slice.ensures.after ∙ c.characters.ensures ∙ ap (λ (r : FileRecord). with_blanks 24 r.title) c.file.view_is)
    (search rules) c.split_at_mut-title.ensures.back
    (c.copy_from_slice-2.ensures.after ∙ c.field_bytes.ensures) c.split_at_mut-fields.ensures.back
