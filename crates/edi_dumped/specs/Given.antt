-- Words of contracts. What a run is given beside its code: the text of the code, or none.
use Rattle.std.specs.Prelude.{◌≡◌, ℕ, List, Option, Some, None}
use Rattle.edi_calls.specs.State.{State}
use Rattle.edi_lex.specs.Symbols.{symbols_of}
use Rattle.edi_target.specs.Check.{CodeParts}
use Rattle.edi_trace.specs.Drawn.{Drawn}
use Rattle.edi_kernel.specs.declared.ends.Ending.{Ending}
use Rattle.edi_kernel.specs.declared.state.KernelState.{KernelState}
use Rattle.edi_timed.specs.on.Timelines.{Timable, text, code}
use Rattle.edi_waits.specs.declared.births.Names.{Names}
use Rattle.edi_waits.specs.Runs.{EndsNamed}
use Rattle.edi_dump.specs.Frames.{Program}
use Rattle.edi_dump.specs.Told.{TellsOr}
use Rattle.edi_dumped.specs.Dumps.{HasProgram}

-- what is run: the text, or the code where no text is given
abbrev pub program_given : Option (List ℕ) → CodeParts → Timable
program_given None parts = code parts
program_given (Some bytes) parts = text bytes

-- what is known of it
abbrev pub IsKnown : Option (List ℕ) → Option Program → Type 0
IsKnown None known = known ≡ None
IsKnown (Some bytes) known = (program : Program) × HasProgram (symbols_of bytes) program × (known ≡ Some program)

-- after each run of this code that has ended so in this kernel, these bytes tell its end
abbrev pub Told : CodeParts → Ending → KernelState → Names → (known : Option Program) → (told : List ℕ) → Type 0
Told parts e k names known told =
    (s : State) (bound : ℕ) (old new : Drawn) → EndsNamed parts s bound old e k new names → TellsOr known parts s bound old e told
