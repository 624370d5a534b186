-- Computed rows. Stints that are added to the first ones of the worked examples give the next ones.
use Rattle.std.specs.Prelude.{◌≡◌, ℕ, List, [], ◌∷◌, take, replicate, refl}
use Rattle.edi_kernel.specs.declared.ends.Ending.TheVariants as ending
use Rattle.edi_timeline.specs.Rows.{lost_update, two_wait, tried}
use Rattle.edi_timeline.specs.Timelines.{told_of}
use Rattle.edi_timeline.specs.declared.entry.Seat.{Seat}
use Rattle.edi_timeline.specs.declared.entry.Place.{Place}
use Rattle.edi_timeline.specs.declared.entry.Said.{Said}
use Rattle.edi_timeline.specs.declared.entry.Came.TheVariants as came
use Rattle.edi_timeline.specs.Adding.{added}

-- a branch, counted from 1, of the first `cobegin`, which stint 1 has forked, after this stint
abbrev branch_after : (i before : ℕ) → Seat
branch_after i before = record { born = 1; fork = 1; branch = i; before = before }

-- the first process, after this stint
abbrev first_after : (before : ℕ) → Seat
first_after before = record { born = 0; fork = 0; branch = 0; before = before }

abbrev nothing : Said
nothing = record { characters = replicate 7 0; many = 0 }

-- the fork of the program, from nothing
pub row_first : added (told_of []) (first_after 0) (came.Forked 2) 2 nothing ≡ told_of (take 1 lost_update)
row_first = refl

-- branch 1 begins, and is at line 9 of the procedure that is called at line 15
pub row_begins :
    added (told_of (take 1 lost_update)) (branch_after 0 0) (came.Arrived (record { lines = 9 ∷ 15 ∷ 0 ∷ 0 ∷ 0 ∷ []; many = 2 })) 4 nothing
    ≡ told_of (take 2 lost_update)
row_begins = refl

-- it goes on from there to line 10
pub row_goes_on :
    added (told_of (take 3 lost_update)) (branch_after 0 2) (came.Arrived (record { lines = 10 ∷ 15 ∷ 7 ∷ 7 ∷ 7 ∷ []; many = 2 })) 7 nothing
    ≡ told_of (take 4 lost_update)
row_goes_on = refl

-- the program goes on behind its `cobegin`, shows `1` and a line feed, and ends
pub row_joins :
    added (told_of (take 7 lost_update)) (first_after 1) (came.Over ending.Done) 13 (record { characters = 49 ∷ 10 ∷ 7 ∷ 7 ∷ 7 ∷ 7 ∷ 7 ∷ []; many = 2 })
    ≡ told_of lost_update
row_joins = refl

pub row_waits_there : added (told_of (take 3 two_wait)) (branch_after 0 2) came.Waited 5 nothing ≡ told_of (take 4 two_wait)
row_waits_there = refl

pub row_tries_there : added (told_of (take 2 tried)) (branch_after 0 2) came.Tried 6 nothing ≡ told_of (take 3 tried)
row_tries_there = refl

-- after the attempt that failed it goes on from the place where it stood
pub row_goes_on_there : added (told_of (take 4 tried)) (branch_after 0 3) came.Ended 10 nothing ≡ told_of (take 5 tried)
row_goes_on_there = refl
