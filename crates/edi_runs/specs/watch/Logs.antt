-- Definition. The program of a text, and THE LOG of a text: that of the execution which the choices select.
use Rattle.std.specs.Prelude.{◌≡◌, ℕ, List, Result, Ok, Err}
use Rattle.edi_calls.specs.Choice.{Choices}
use Rattle.edi_calls.specs.Names.{Name}
use Rattle.edi_calls.specs.Outcome.{Ending}
use Rattle.edi_calls.specs.State.{State, Traced, fresh}
use Rattle.edi_lex.specs.declared.symbol.Mark.{Mark}
use Rattle.edi_lex.specs.declared.fault.LexFault.{LexFault}
use Rattle.edi_lex.specs.Symbols.{symbols_of}
use Rattle.edi_tree.specs.Tree.{Program}
use Rattle.edi_grammar.specs.derivation.Faults.{IsTheTree}
use Rattle.edi_unit.specs.Tree.{ProgramUnit}
use Rattle.edi_meaning.specs.Select as selection
use Rattle.edi_texts.specs.Texts.{IsUnit}
use Rattle.edi_debug.specs.stops.Stops.{Watched, log_of}

-- by what is known of the symbols: they are those of this program
abbrev pub AreOfTree : Result (List Mark × ℕ) LexFault → Program → Type 0
AreOfTree (Err fault) tree = ⊥
AreOfTree (Ok known) tree = IsTheTree known.0 tree

-- the text is that of this program
abbrev pub IsTreeOf : List ℕ → Program → Type 0
IsTreeOf text tree = AreOfTree (symbols_of text) tree

-- These bytes are the log of the execution of the text on a system, from the state with no file open, that the choices select.
pub record IsLogOf (text : List ℕ) (system : State) (bound : ℕ) (choices : Choices) (points : List Watched) (log : List ℕ) : Type 0 where
  pub unit : ProgramUnit
  pub unit_is : IsUnit text unit
  pub ending : Ending
  pub end : Traced
  pub turns : ℕ
  pub drawn : ℕ
  pub order : List Name
  pub selected : selection.Ends unit (fresh system) bound choices ending end turns drawn order
  pub log_is : log ≡ log_of unit (fresh system) bound order points
