-- Definition. What is told of the stints of a run, and what a timeline keeps of them.
use Rattle.std.specs.Prelude.{◌≡◌, ◌≤◌, ◌<◌, ℕ, Bool, true, false, List, map, take, length, vec_capacity, Option}
use Rattle.std.specs.Option.{option_map}
use Rattle.edi_calls.specs.Outcome as outcome
use Rattle.edi_timeline.specs.Stints.{Stint, at, ending_of}
use Rattle.edi_timeline.specs.Text.{most_lines, kept}
use Rattle.edi_timeline.specs.Told.{AreRows, meant, numbered, place_of, start_in, stints_in}
use Rattle.edi_timeline.specs.declared.rows.Kind.{Kind}
use Rattle.edi_timeline.specs.declared.rows.Kind.TheVariants as kind
use Rattle.edi_timeline.specs.declared.timeline.Kept.{Kept}

-- the stints that are told, how many there were, and how the run has ended, if the last of all has ended it
pub record Told : Type 0 where
  pub stints : List Stint
  pub count : ℕ
  pub ending : Option outcome.Ending

-- what is told of all stints of a run
abbrev pub told_of : List Stint → Told
told_of xs = record { stints = map kept (take most_lines xs); count = length xs; ending = ending_of xs }

abbrev pub told_in : Kept → Told
told_in k = record {
  stints = stints_in k.ending k.rows.items 0 k.rows.items;
  count = k.count;
  ending = option_map meant k.ended;
}

-- a row of an attempt that has failed
abbrev pub is_failed : Kind → Bool
is_failed kind.Waits = true
is_failed kind.Tries = true
is_failed k = false

-- Below 100,000 stints each has its row. The row of an attempt that has failed has the place where its process stood before.
pub record IsTimeline (k : Kept) : Type 0 where
  pub rows : AreRows k.rows.items
  pub few : length k.rows.items ≤ 100000
  pub room : 100000 ≤ vec_capacity k.rows
  pub counted : k.count < 100000 → length k.rows.items ≡ k.count
  pub stood : (n : ℕ) → is_failed (numbered k.rows.items n).kind ≡ true →
      start_in k.rows.items (numbered k.rows.items n) ≡ at (place_of (numbered k.rows.items n))
