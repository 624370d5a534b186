use Rattle.std.proofs.Common.{◌∙◌, ap}
use Rattle.edi_image.specs.Bytes.{field_bytes}
use Rattle.edi_image.proofs.EntryBytes.{fields_made, fields_are}
use Rattle.edi_image.proofs.bytes.field_bytes.Goals as goal

pub returns : goal.returns
returns c =
    fields_made _ _ _ _ _ _ _ _ _ _ _ _ c.file.inside.length c.two-first_high.ensures.high c.two-first_high.ensures.low c.two-second_high.ensures.high
    c.two-second_high.ensures.low c.two-long_high.ensures.high c.two-long_high.ensures.low c.two-short_high.ensures.high
    c.two-short_high.ensures.low
    ∙ fields_are c.file.inside.title c.file.inside.kind c.file.inside.protected c.file.inside.first_map c.file.inside.second_map c.file.inside.length
    _ _ _ c.kind_number.ensures c.flag.ensures c.second_number.ensures
    ∙ ap field_bytes c.file.view_is
