-- Words of contracts. The states that a search keeps as a table, as the laws of a search speak of them; and how they grow.
use Rattle.std.specs.Prelude.{◌≡◌, ℕ, ◌<◌, List, [], ◌∷◌, length, slice_get, drop, Option, Some, None}
use Rattle.std.specs.Option.{option_map}
use Rattle.edi_calls.specs.State.{State}
use Rattle.edi_kernel.specs.declared.kept.Kept.{Kept}
use Rattle.edi_explored.specs.machine.Levels.{StateTable}
use Rattle.edi_explore.specs.declared.offline.Place.{Place}
use Rattle.edi_explore.specs.declared.states.Key.{Key}
use Rattle.edi_explore.specs.declared.states.States.{States}
use Rattle.edi_explore.specs.Offline.{no_files, offline}
use Rattle.edi_explore.specs.States.{Follows, slots_of}

abbrev pub with_part : Option Kept → List Kept → List Kept
with_part None parts = parts
with_part (Some part) parts = part ∷ parts

-- the processes of these numbers
abbrev pub parts_at : List Kept → List ℕ → List Kept
parts_at kept [] = []
parts_at kept (n ∷ numbers) = with_part (slice_get kept n) (parts_at kept numbers)

abbrev pub parts_of : States → Option Key → List Kept
parts_of s None = []
parts_of s (Some key) = parts_at s.processes.keys key.parts.items

-- the system of an input that stands at a place, with nothing printed
abbrev pub system_at : List ℕ → Option Place → State
system_at input None = offline input
system_at input (Some place) = record {
  input = drop place.taken input;
  shown = place.shown.items;
  printed = [];
  slots = no_files;
  blocks = 0;
  found = None;
  buffer = option_map (λ bytes. bytes.items) place.buffer;
}

abbrev pub place_of : States → Option Key → Option Place
place_of s None = None
place_of s (Some key) = slice_get s.places.keys key.place

abbrev pub shown_in : Option Place → List ℕ
shown_in None = []
shown_in (Some place) = place.shown.items

-- what was shown in a state, where output is looked at
abbrev pub shown_at : States → ℕ → List ℕ
shown_at s v = shown_in (place_of s (slice_get s.keys.keys v))

abbrev pub table_of : States → (input : List ℕ) → StateTable
table_of s input = record {
  processes = λ v. parts_of s (slice_get s.keys.keys v);
  slots = slots_of s;
  system = λ v. system_at input (place_of s (slice_get s.keys.keys v));
}

-- the states of the one are states of the other, by the same numbers, and are there as they were, with the links
pub record Grows (old new : States) : Type 0 where
  pub processes : Follows old.processes.keys new.processes.keys
  pub places : Follows old.places.keys new.places.keys
  pub keys : Follows old.keys.keys new.keys.keys
  pub slots : (v : ℕ) → v < length old.keys.keys → slots_of new v ≡ slots_of old v
  pub links : Follows old.links.items new.links.items
