-- Words of contracts. The bytes of an entry.
use Rattle.std.specs.Prelude.{ℕ, ◌/◌, ◌%◌, ◌^◌, if◌then◌else◌, List, ◌∷◌, ◌++◌, replicate, slice_index_or, Option, Some, None}
use Rattle.edi_calls.specs.declared.kinds.FileKind.{FileKind}
use Rattle.edi_calls.specs.declared.kinds.FileKind.TheVariants as kind
use Rattle.edi_image.specs.Build.{two}
use Rattle.edi_image.specs.Titles.{with_blanks}
use Rattle.edi_image.specs.Records.{FileRecord}

abbrev pub kind_number : FileKind → ℕ
kind_number kind.Text = 1
kind_number kind.Code = 2

-- The fields behind the title: the kind, whether the file is protected, its first map, its second map or 0, its length.
abbrev pub field_bytes : FileRecord → List ℕ
field_bytes r =
    kind_number r.kind ∷ (if r.protected then 1 else 0)
    ∷ (two (slice_index_or r.maps 0 0) ++ (two (slice_index_or r.maps 1 0) ++ (two (r.length / 2 ^ 16) ++ two (r.length % 2 ^ 16))))

-- the entry of a file
unfoldable pub bytes_of_record : FileRecord → List ℕ
bytes_of_record r = with_blanks 24 r.title ++ (field_bytes r ++ replicate 30 0)

-- the entry of a slot; that of a free one is all zeros
abbrev pub bytes_of_slot : Option FileRecord → List ℕ
bytes_of_slot None = replicate 64 0
bytes_of_slot (Some r) = bytes_of_record r
