-- Words of contracts. Code that does what a unit means, and what is true of every accepted text.
use Rattle.std.specs.Prelude.{◌↔◌, ℕ, List}
use Rattle.edi_calls.specs.Asked.{IsFollowed}
use Rattle.edi_calls.specs.Choice.{Choices}
use Rattle.edi_calls.specs.Outcome.{Outcome}
use Rattle.edi_calls.specs.State.{State}
use Rattle.edi_tree.specs.Tree.{Program}
use Rattle.edi_unit.specs.Tree.{ProgramUnit}
use Rattle.edi_static.specs.Programs.{Resolved, Sound}
use Rattle.edi_meaning.specs.Select as source
use Rattle.edi_meaning.specs.Select.{Select}
use Rattle.edi_target.specs.Check.{CodeParts, IsSound}
use Rattle.edi_target.specs.Fetch.{fetch}
use Rattle.edi_target.specs.Mach.{Mach}
use Rattle.edi_target.specs.Moments.{ComesThrough, history_from_start}
use Rattle.edi_scheme.specs.Laws.{parts_of}
use Rattle.edi_follows.specs.Theorem.{CanBeCoded, ProcessesArePrivate}
use Rattle.edi_texts.specs.Run.{HasCallOf, IsCodeFor}
use Rattle.edi_texts.specs.Texts.{IsUnit}

-- what a taken process of the code does up to its next switch changes no word but its own
abbrev pub IsPrivateCode : CodeParts → Type 0
IsPrivateCode code = ProcessesArePrivate (fetch code.words) code.entry code.calls

-- The code does what the unit means: from every state of the system, with every bound on the turns and all choices, it has the same
-- outcome, comes through the same states of the system, and has the same calls. It passes the checks of code, and its processes are private.
pub record DoesAsMeant (unit : ProgramUnit) (code : CodeParts) : Type 0 where
  pub sound : IsSound code
  pub same : (system : State) (bound : ℕ) (choices : Choices) (outcome : Outcome) →
      Mach (fetch code.words) code.entry code.calls system bound choices outcome ↔ Select unit system bound choices outcome
  pub through : (system : State) (bound : ℕ) (choices : Choices) (moment : State) →
      ComesThrough (fetch code.words) code.entry code.calls system bound choices 0 moment ↔ source.ComesThrough unit system bound choices moment
  pub calls : (system : State) (bound : ℕ) (choices : Choices) (before next : State) →
      ((n : ℕ) × IsFollowed system (history_from_start (fetch code.words) code.entry code.calls system bound choices 0 n) before next)
      ↔ HasCallOf unit system bound choices before next
  pub is_private : IsPrivateCode code

-- the unit of every sound tree can be coded
abbrev pub SoundUnitsCanBeCoded : Type 0
SoundUnitsCanBeCoded = (tree : Program) (unit : ProgramUnit) → Sound tree → Resolved tree unit → CanBeCoded unit

-- ---- of every accepted text

-- its unit can be coded
abbrev pub TextsCanBeCoded : Type 0
TextsCanBeCoded = (text : List ℕ) (unit : ProgramUnit) → IsUnit text unit → CanBeCoded unit

-- the code of its unit is one that may be made of the text: it does what the text does
abbrev pub TextsDoAsMeant : Type 0
TextsDoAsMeant = (text : List ℕ) (unit : ProgramUnit) → IsUnit text unit → IsCodeFor text (parts_of unit)

-- and its processes are private
abbrev pub TextsArePrivate : Type 0
TextsArePrivate = (text : List ℕ) (unit : ProgramUnit) → IsUnit text unit → IsPrivateCode (parts_of unit)
