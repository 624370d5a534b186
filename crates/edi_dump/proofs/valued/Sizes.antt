-- A number that is not in the table has no words.
use Rattle.std.proofs.Common.{◌≡◌, ℕ, ◌≤◌, List, [], length, arith}
use Rattle.std.proofs.lemmas.List.{get_or_past}
use Rattle.edi_unit.specs.Types.{Shape, shape_size, size, type_sizes}
use Rattle.edi_unit.proofs.Entries.{length-entries}

pub size_past : (types : List Shape) (t : ℕ) → length types ≤ t → size types t ≡ 0
unfolding size
size_past types t past = get_or_past (type_sizes types) t 0 (omega (arith, past, length-entries shape_size 0 [] types))
