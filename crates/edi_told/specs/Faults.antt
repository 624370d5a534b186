-- Definition. Counts of faults. A count never falls, and stands still at its last value.
use Rattle.std.specs.Prelude.{ℕ, ◌+◌, ◌-◌, ◌^◌, ◌≤◌, min}

-- the count is greater after the call than before it, or it stands at its last value
abbrev pub CountRose : ℕ → ℕ → Type 0
CountRose before now = min (before + 1) (2 ^ 64 - 1) ≤ now
