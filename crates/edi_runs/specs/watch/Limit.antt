-- Words of contracts. How many bytes of a file of points decide how it is read.
use Rattle.std.specs.Prelude.{◌≡◌, ℕ, List, take}
use Rattle.edi_tree.specs.Tree.{Program}
use Rattle.edi_debug.specs.Points.{read_of}

-- 64 lines of 257 bytes, and one byte
abbrev pub most_fetched : ℕ
most_fetched = 16449

-- So many first bytes are read as all are.
abbrev pub FirstBytesDecide : Type 0
FirstBytesDecide = (tree : Program) (bytes : List ℕ) → read_of tree (take most_fetched bytes) ≡ read_of tree bytes
