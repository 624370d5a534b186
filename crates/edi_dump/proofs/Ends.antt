-- The text tells the end of the run.
use Rattle.std.proofs.Common.{◌≡◌, ℕ, List}
use Rattle.std.specs.Prelude.{Option}
use Rattle.edi_calls.specs.State.{State}
use Rattle.edi_target.specs.Check.{CodeParts}
use Rattle.edi_trace.specs.Drawn.{Drawn}
use Rattle.edi_kernel.specs.declared.ends.Ending.{Ending}
use Rattle.edi_kernel.specs.declared.ends.Ending.TheVariants as ending
use Rattle.edi_timeline.specs.Told.{meant}
use Rattle.edi_waits.specs.Ends.{AtEnd}
use Rattle.edi_waits.specs.Ended.{EndsOr}
use Rattle.edi_dump.specs.Frames.{Program}
use Rattle.edi_dump.specs.Text.{dump_text}
use Rattle.edi_dump.specs.Told.{TellsOr}

module _ (known : Option Program) (code : CodeParts) (s : State) (bound : ℕ) (old : Drawn) (memory : List ℕ) (xs : List AtEnd) (text : List ℕ) where
  pub tells : (e : Ending) → EndsOr code s bound old e memory xs → text ≡ dump_text known code.words memory (meant e) xs
      → TellsOr known code s bound old e text
  tells ending.Fault h is = tt
  tells ending.Done h is = record { memory = memory; processes = xs; ends = h; text_is = is }
  tells (ending.Halted line) h is = record { memory = memory; processes = xs; ends = h; text_is = is }
  tells (ending.Failed cause line) h is = record { memory = memory; processes = xs; ends = h; text_is = is }
  tells ending.Turns h is = record { memory = memory; processes = xs; ends = h; text_is = is }
  tells ending.Standstill h is = record { memory = memory; processes = xs; ends = h; text_is = is }
  tells (ending.Bad at) h is = record { memory = memory; processes = xs; ends = h; text_is = is }
