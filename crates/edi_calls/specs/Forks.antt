-- Definition. What bounds a fork: how many processes may live at once, and the room that each branch gets. The meaning of
-- programs and the machine share these.
use Rattle.std.specs.Prelude.{ℕ, ◌/◌}

-- as many processes as may live at once, waiting ones included
abbrev pub most_processes : ℕ
most_processes = 32

-- the share of each of n branches in a room of so many words
abbrev pub equal_share : (room n : ℕ) → ℕ
equal_share room n = room / n
