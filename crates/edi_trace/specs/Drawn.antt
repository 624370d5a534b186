-- Definition. Choices of which some were drawn.
use Rattle.std.specs.Prelude.{ℕ}
use Rattle.edi_calls.specs.Choice.{Choices}

-- choices, and how many of them were drawn; the number stands still at `u64::MAX`
pub record Drawn : Type 0 where
  pub source : Choices
  pub drawn : ℕ

-- the number of choices that are kept
abbrev pub most_kept : ℕ
most_kept = 65536
