use Rattle.std.proofs.Common.{◌≡◌, drop}
use Rattle.std.specs.List.{list_any}
use Rattle.std.specs.Str.{bytes_eq}
use Rattle.edi_image.specs.Stored.{titles_of}
use Rattle.edi_image.proofs.stored.has_title.Given as goal

abbrev pub invariant-loop-file : goal.invariant-loop-file
invariant-loop-file l =
    list_any (bytes_eq l.title) (titles_of l.files) ≡ list_any (bytes_eq l.title) (titles_of (drop l.file-index l.files))
