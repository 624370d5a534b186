-- Definition. THE DUMP of a text and of a code: the text of who stands where at the end of the run that the choices select.
use Rattle.std.specs.Prelude.{◌≡◌, ℕ, List, [], ◌∷◌, ◌++◌, Option, Some, None, Result, Ok, Err}
use Rattle.edi_calls.specs.Choice.{Choices}
use Rattle.edi_calls.specs.State.{State}
use Rattle.edi_lex.specs.declared.symbol.Mark.{Mark}
use Rattle.edi_lex.specs.declared.fault.LexFault.{LexFault}
use Rattle.edi_lex.specs.Symbols.{symbols_of}
use Rattle.edi_sights.specs.named.Naming.{names_of}
use Rattle.edi_target.specs.Check.{CodeParts}
use Rattle.edi_target.specs.Mach.{Machine}
use Rattle.edi_scheme.specs.Laws.{parts_of}
use Rattle.edi_texts.specs.Texts.{HaveUnit}
use Rattle.edi_timeline.specs.Stints.{Stint}
use Rattle.edi_timed.specs.on.Timelines.{AreStintsOfCode, Timable, text, code}
use Rattle.edi_waits.specs.Ends.{AreAtEnd, AtEnd, IsSeen, has_broken}
use Rattle.edi_dump.specs.Frames.{Program}
use Rattle.edi_dump.specs.Text.{dump_text}

-- what is known of a text by its symbols: the unit and the names of its tree
abbrev pub HasProgram : Result (List Mark × ℕ) LexFault → Program → Type 0
HasProgram (Err fault) program = ⊥
HasProgram (Ok symbols) program = (has : HaveUnit symbols program.unit) × (program.names ≡ names_of has.tree)

-- the code that runs a program, and what is known of this: of a code file nothing
abbrev pub IsRunBy : Timable → CodeParts → (known : Option Program) → Type 0
IsRunBy (text bytes) parts known = (program : Program) × HasProgram (symbols_of bytes) program × (parts ≡ parts_of program.unit) × (known ≡ Some program)
IsRunBy (code own) parts known = (parts ≡ own) × (known ≡ None)

-- THE TEXT TELLS THE END of the run of a code, from the state with no file open: in its machine these processes stand, and that of the last stint
-- has ended it.
pub record TellsEnd (parts : CodeParts) (known : Option Program) (system : State) (bound : ℕ) (choices : Choices) (told : List ℕ) : Type 0 where
  pub earlier : List Stint
  pub last : Stint
  pub run : AreStintsOfCode parts system bound choices (earlier ++ last ∷ [])
  pub seen : Machine
  pub is_seen : IsSeen parts.words run.ending run.machine seen last.process
  pub processes : List AtEnd
  pub are : AreAtEnd seen (has_broken run.ending last.process) processes
  pub text_is : told ≡ dump_text known parts.words seen.memory run.ending processes

-- THE DUMP of a program on a system: it tells the end of the run of the program's code.
abbrev pub IsDumpOf : Timable → State → (bound : ℕ) → Choices → (told : List ℕ) → Type 0
IsDumpOf program system bound choices told =
    (parts : CodeParts) × (known : Option Program) × IsRunBy program parts known × TellsEnd parts known system bound choices told
