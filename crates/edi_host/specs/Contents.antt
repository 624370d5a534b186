-- Definition. The contents of a folder: bytes by name.
use Rattle.std.specs.Prelude.{ℕ, List}
use Rattle.std.specs.Ordering.{nat_cmp}
use Rattle.std.specs.Cmp.Lexicographic.{slice_cmp}
use Rattle.std.specs.FinMap as map

-- the bytes of each file, by the bytes of its name
abbrev pub Contents : Type 0
Contents = map.FinMap (slice_cmp nat_cmp) (List ℕ)
