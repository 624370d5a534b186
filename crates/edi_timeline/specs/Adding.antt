-- Definition. A stint after others: its number, its process, where it begins. And what is told of stints after one more.
use Rattle.std.specs.Prelude.{◌≡◌, ℕ, zero, suc, ◌+◌, ◌≤◌, Bool, true, false, ◌&&◌, not, nat_le, if◌then◌else◌, List, [], ◌∷◌, ◌++◌, length, take, slice_get, ⊤}
use Rattle.std.specs.Prelude.{Option, Some, None}
use Rattle.edi_calls.specs.Names.{Name}
use Rattle.edi_calls.specs.Outcome.{Ending}
use Rattle.edi_calls.specs.Ready.{child}
use Rattle.edi_timeline.specs.Stints.{Start, begin, join, at, End, arrives, waits, tries, forks, ends, over, Stint, ending_by}
use Rattle.edi_timeline.specs.Text.{most_lines}
use Rattle.edi_timeline.specs.Told.{meant}
use Rattle.edi_timeline.specs.Timelines.{Told}
use Rattle.edi_timeline.specs.declared.entry.Seat.{Seat}
use Rattle.edi_timeline.specs.declared.entry.Place.{Place}
use Rattle.edi_timeline.specs.declared.entry.Said.{Said}
use Rattle.edi_timeline.specs.declared.entry.Came.{Came}
use Rattle.edi_timeline.specs.declared.entry.Came.TheVariants as came

-- ---- what is handed in

abbrev pub lines_in : Place → List ℕ
lines_in p = take p.many p.lines

abbrev pub said_in : Said → List ℕ
said_in s = take s.many s.characters

abbrev pub end_of : Came → End
end_of (came.Arrived p) = arrives (lines_in p)
end_of came.Waited = waits
end_of came.Tried = tries
end_of (came.Forked n) = forks n
end_of came.Ended = ends
end_of (came.Over e) = over (meant e)

-- ---- the stint, by those before it

-- the stint of this number, counted from 1
abbrev pub nth_stint : List Stint → ℕ → Option Stint
nth_stint xs zero = None
nth_stint xs (suc n) = slice_get xs n

-- where the next stint of its process begins: after an attempt that has failed where this one began
abbrev pub start_by : Start → End → Start
start_by from (arrives lines) = at lines
start_by from waits = from
start_by from tries = from
start_by from end = join

abbrev pub start_after : Option Stint → Start
start_after None = begin
start_after (Some x) = start_by x.from x.end

-- the process that this stint bore
abbrev pub process_after : Option Stint → (fork branch : ℕ) → Name
process_after None fork branch = []
process_after (Some x) fork branch = child x.process fork branch

-- the turns that were used when the last of these stints ended, of which so many were used before the first
abbrev pub used_by : ℕ → List Stint → ℕ
used_by used [] = used
used_by used (x ∷ xs) = used_by x.last xs

-- THE STINT that comes after these
abbrev pub stint_after : List Stint → Seat → End → (used : ℕ) → (shown : List ℕ) → Stint
stint_after xs s end used shown = record {
  process = process_after (nth_stint xs s.born) s.fork s.branch;
  first = suc (used_by 0 xs);
  last = used;
  from = start_after (nth_stint xs s.before);
  end = end;
  shown = shown;
}

-- ---- the timeline with it

-- one more that ends the run so, if it does, and is not told
abbrev pub counted : Told → Option Ending → Told
counted t ending = record t { count = suc t.count; ending = ending }

-- so many more that are not told, of which the last ends the run so, if it does
abbrev pub skipped : Told → (many : ℕ) → Option Ending → Told
skipped t many ending = record t { count = many + t.count; ending = ending }

-- A STINT MORE: it is told where there is room for it. Else it is only counted, and tells how it ends the run.
abbrev pub added : Told → Seat → Came → (used : ℕ) → Said → Told
added t s c used said =
    if nat_le most_lines t.count then counted t (ending_by (end_of c))
    else record {
      stints = t.stints ++ stint_after t.stints s (end_of c) used (said_in said) ∷ [];
      count = suc t.count;
      ending = ending_by (end_of c);
    }

-- ---- what is asked of it

abbrev pub ends_run : End → Bool
ends_run (over e) = true
ends_run end = false

-- none of these has ended the run
abbrev pub is_going : List Stint → Bool
is_going [] = true
is_going (x ∷ xs) = not (ends_run x.end) && is_going xs

-- a stint may bear a process where it ends by a fork; the first process was born by none
abbrev pub is_fork : End → Bool
is_fork (forks n) = true
is_fork end = false

abbrev pub bears : Option Stint → Bool
bears None = true
bears (Some x) = is_fork x.end

abbrev pub is_at : Start → Bool
is_at (at lines) = true
is_at start = false

abbrev pub has_failed : Came → Bool
has_failed came.Waited = true
has_failed came.Tried = true
has_failed c = false

-- The seat leads to earlier stints. The one that bore the process is a fork, and a process whose attempt has failed stood at its `when`.
pub record SeatFits (xs : List Stint) (s : Seat) (c : Came) : Type 0 where
  pub born : s.born ≤ length xs
  pub forked : bears (nth_stint xs s.born) ≡ true
  pub before : s.before ≤ length xs
  pub stood : has_failed c ≡ true → is_at (start_after (nth_stint xs s.before)) ≡ true

abbrev pub CameFits : Came → Type 0
CameFits (came.Arrived p) = p.many ≤ 5
CameFits (came.Forked n) = n ≤ 32
CameFits c = ⊤
