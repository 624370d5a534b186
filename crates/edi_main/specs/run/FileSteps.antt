-- Words of contracts. The commands that run the program of a file: its form, and the steps from the bytes of the file to its unit and its code.
use Rattle.std.specs.Prelude.{◌≡◌, ◌⊎◌, ℕ, List, Option, Some, None, Result, Ok, Err}
use Rattle.edi_compile.specs.Compiled.{IsFrontOf}
use Rattle.edi_lex.specs.Limit as texts
use Rattle.edi_scheme.specs.Laws.{parts_of}
use Rattle.edi_target.specs.Limit as codes
use Rattle.edi_target.specs.Check.{CodeParts}
use Rattle.edi_unit.specs.Tree.{ProgramUnit}
use Rattle.edi_unit.specs.View.{unit_of}
use Rattle.edi_unit.specs.declared.units.Unit.{Unit}
use Rattle.edi_words.specs.Words as words
use Rattle.edi_words.specs.Words.{Account, Command, Options}
use Rattle.edi_statuses.specs.declared.status.Status.{Status}
use Rattle.edi_statuses.specs.declared.status.Status.TheVariants as status
use Rattle.edi_statuses.specs.Steps.{Accepts, stops}
use Rattle.edi_main.specs.steps.Loaded.{LoadStep}
use Rattle.edi_main.specs.declared.run.files.Form.{Form}
use Rattle.edi_main.specs.declared.run.files.Form.TheVariants as form

-- ---- the commands

-- a text is for `run`, a code file for `exec`
abbrev pub command_with : Form → (file : List ℕ) → Options → Command
command_with form.Text file o = words.run file o
command_with form.Code file o = words.exec file o

-- so where an account of the run is kept
abbrev pub account_with : Form → (file : List ℕ) → Account → Options → Command
account_with form.Text file account o = words.run_with file account o
account_with form.Code file account o = words.exec_with file account o

-- with an account, or without one
abbrev pub command_for : Form → (account : Option Account) → (file : List ℕ) → Options → Command
command_for f None file o = command_with f file o
command_for f (Some account) file o = account_with f file account o

-- as many bytes as decide what the file is
abbrev pub limit_of : Form → ℕ
limit_of form.Text = texts.most_fetched
limit_of form.Code = codes.most_fetched

-- the text of a file, if it has one
abbrev pub text_given : Form → (bytes : List ℕ) → Option (List ℕ)
text_given form.Text bytes = Some bytes
text_given form.Code bytes = None

-- ---- the steps

-- why a command stops at a text: it is refused; and memory may run out at any text
abbrev pub TextStops : (bytes : List ℕ) → Status → Type 0
TextStops bytes s = (s ≡ status.NoMemory) ⊎ Accepts bytes (stops s)

-- the unit of a text
abbrev pub UnitStep : (bytes : List ℕ) → Result Unit Status → Type 0
UnitStep bytes (Ok unit) = IsFrontOf bytes (unit_of unit)
UnitStep bytes (Err s) = TextStops bytes s

-- the code of the unit of a text
pub record IsTextCode (bytes : List ℕ) (unit : ProgramUnit) (parts : CodeParts) : Type 0 where
  pub front : IsFrontOf bytes unit
  pub code_is : parts ≡ parts_of unit

abbrev pub TextStep : (bytes : List ℕ) → Result CodeParts Status → Type 0
TextStep bytes (Ok parts) = (unit : ProgramUnit) × IsTextCode bytes unit parts
TextStep bytes (Err s) = TextStops bytes s

-- the code of the bytes of a file, or why the command stops there
abbrev pub CodeStep : Form → (bytes : List ℕ) → Result CodeParts Status → Type 0
CodeStep form.Text bytes result = TextStep bytes result
CodeStep form.Code bytes result = LoadStep bytes result
