-- Words of contracts. What is kept of choices, and what it stands for.
use Rattle.std.specs.Prelude.{◌≡◌, ℕ, ◌-◌, ◌^◌, ◌<◌, ◌≤◌, min, ⊤}
use Rattle.std.specs.Vec.{vec_capacity}
use Rattle.edi_calls.specs.Choice.{Choices, listed, seeded, generated, first_choices}
use Rattle.edi_trace.specs.declared.choices.Source.{Source}
use Rattle.edi_trace.specs.declared.choices.Source.TheVariants as source
use Rattle.edi_trace.specs.declared.choices.Choices.TheInside.{Inside}
use Rattle.edi_trace.specs.Drawn.{Drawn, most_kept}

-- the choices that a source stands for
abbrev pub source_of : Source → Choices
source_of (source.List values) = listed values.items
source_of (source.Seed seed state) = seeded seed

-- after so many draws a generator has the number of so many steps; nothing is said where the count stands still
abbrev pub IsAt : Source → ℕ → Type 0
IsAt (source.List values) drawn = ⊤
IsAt (source.Seed seed state) drawn = drawn < 2 ^ 64 - 1 → state ≡ generated seed drawn

abbrev pub drawn_of : Inside → Drawn
drawn_of inside = record { source = source_of inside.source; drawn = inside.drawn }

pub record ChoicesAreKept (inside : Inside) : Type 0 where
  pub at : IsAt inside.source inside.drawn
  pub used : inside.used.items ≡ first_choices (source_of inside.source) (min inside.drawn most_kept)
  pub room : most_kept ≤ vec_capacity inside.used
