-- Words of contracts. What the code keeps of a log.
use Rattle.std.specs.Prelude.{◌≡◌, ◌≤◌, ◌++◌, ℕ, List, length}
use Rattle.std.specs.Vec.{vec_capacity}
use Rattle.edi_debug.specs.stops.Kept.{Kept, most_logged}
use Rattle.edi_debug.specs.declared.log.Log.TheInside.{Inside}

abbrev pub kept_of : Inside → Kept
kept_of inside = record { bytes = inside.bytes.items; full = inside.full }

abbrev pub is_log : Inside → Type 0
is_log inside = (length inside.bytes.items ≤ most_logged) × (most_logged ≤ vec_capacity inside.bytes)

-- what was logged stays in front of what is
pub record Grows (old new : Kept) : Type 0 where
  pub more : List ℕ
  pub is : new.bytes ≡ old.bytes ++ more
