-- Words of contracts. Segments of memory, and the equal shares that the branches of a process get of its room.
use Rattle.std.specs.Prelude.{ℕ, ◌+◌, ◌-◌, ◌*◌, ◌/◌, ◌<◌, ◌≤◌}
use Rattle.edi_store.specs.declared.segment.Segment.{Segment}

-- how many words each of n children gets
abbrev pub share_size : Segment → ℕ → ℕ
share_size room n = (room.last - room.first) / n

-- the segment of child i of n, which begins i shares after the first word of the room
abbrev pub share_of : Segment → ℕ → ℕ → Segment
share_of room n i = record {
  first = room.first + i * share_size room n;
  last = room.first + i * share_size room n + share_size room n;
}

-- every word of one segment is a word of the other
abbrev pub IsWithin : Segment → Segment → Type 0
IsWithin inner outer = (outer.first ≤ inner.first) × (inner.first ≤ inner.last) × (inner.last ≤ outer.last)

-- the share of an earlier child ends before that of a later one begins
abbrev pub SharesAreApart : Type 0
SharesAreApart = (room : Segment) (n i j : ℕ) → i < j → (share_of room n i).last ≤ (share_of room n j).first
