-- Helper. The stints whose lines are written at once, from their end to their start.
use Rattle.std.specs.Prelude.{◌≡◌, ℕ, List}
use Rattle.edi_timeline.specs.Told.{numbered}
use Rattle.edi_timeline.specs.declared.rows.Row.{Row}
use Rattle.edi_timeline.specs.declared.rows.Kind.TheVariants as kind

-- Nothing was shown in it, it has not ended the run, and its process is the first one or a branch of that.
pub record IsPlain (rows : List Row) (r : Row) : Type 0 where
  pub silent : r.said ≡ 0
  pub goes_on : r.kind ≡ kind.Over → ⊥
  pub near : (numbered rows r.born).born ≡ 0
