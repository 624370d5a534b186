-- Helper. The row that is kept of a stint.
use Rattle.std.specs.Prelude.{ℕ, List, Option, Some, None, replicate}
use Rattle.edi_kernel.specs.declared.ends.Ending.{Ending}
use Rattle.edi_timeline.specs.Told.{numbered}
use Rattle.edi_timeline.specs.declared.rows.Row.{Row}
use Rattle.edi_timeline.specs.declared.rows.Kind.{Kind}
use Rattle.edi_timeline.specs.declared.rows.Kind.TheVariants as kind
use Rattle.edi_timeline.specs.declared.entry.Seat.{Seat}
use Rattle.edi_timeline.specs.declared.entry.Place.{Place}
use Rattle.edi_timeline.specs.declared.entry.Said.{Said}
use Rattle.edi_timeline.specs.declared.entry.Came.{Came}
use Rattle.edi_timeline.specs.declared.entry.Came.TheVariants as came

abbrev pub kind_of : Came → Kind
kind_of (came.Arrived p) = kind.Arrives
kind_of came.Waited = kind.Waits
kind_of came.Tried = kind.Tries
kind_of (came.Forked n) = kind.Forks
kind_of came.Ended = kind.Ends
kind_of (came.Over e) = kind.Over

-- the place of the row of the stint before
abbrev pub place_in : Row → Place
place_in r = record { lines = r.lines; many = r.many }

-- without lines
abbrev pub no_place : ℕ → Place
no_place many = record { lines = replicate 5 0; many = many }

-- the lines that the row keeps, and their number; of a fork the number of its branches
abbrev pub kept_place : Came → (before : Row) → Place
kept_place (came.Arrived p) before = p
kept_place came.Waited before = place_in before
kept_place came.Tried before = place_in before
kept_place (came.Forked n) before = no_place n
kept_place came.Ended before = no_place 0
kept_place (came.Over e) before = no_place 0

abbrev pub row_with : Seat → Kind → Place → (used : ℕ) → Said → Row
row_with s k p used said = record {
  used = used;
  born = s.born;
  fork = s.fork;
  before = s.before;
  lines = p.lines;
  shown = said.characters;
  branch = s.branch;
  kind = k;
  many = p.many;
  said = said.many;
}

abbrev pub row_for : List Row → Seat → Came → (used : ℕ) → Said → Row
row_for rows s c used said = row_with s (kind_of c) (kept_place c (numbered rows s.before)) used said

-- how the stint that has ended the run has ended it, where there is a row of it
abbrev pub ending_with : Came → Ending → Ending
ending_with (came.Over e) ending = e
ending_with c ending = ending

-- how the run has ended, if this stint has ended it
abbrev pub ended_with : Came → Option Ending
ended_with (came.Over e) = Some e
ended_with c = None
