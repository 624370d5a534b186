-- Definition. THE EXPLORATION OF A TEXT: the endings that choices bring about, and whether these are all. Said of the executions of the text
-- on a system with an input, without disk and files.
use Rattle.std.specs.Prelude.{◌≡◌, ℕ, suc, ◌+◌, ◌<◌, ◌≤◌, Bool, true, false, List, [], ◌∷◌, length, slice_get, Contains, Option, Some, is_some, ⊤}
use Rattle.edi_calls.specs.Choice.{Choices, listed}
use Rattle.edi_calls.specs.Names.{Name}
use Rattle.edi_calls.specs.Outcome as outcome
use Rattle.edi_calls.specs.Outcome.{Ending, Outcome}
use Rattle.edi_calls.specs.State.{Traced}
use Rattle.edi_unit.specs.Tree.{ProgramUnit}
use Rattle.edi_meaning.specs.Select.{Ends}
use Rattle.edi_texts.specs.Run.{IsRunOf}
use Rattle.edi_texts.specs.Texts.{IsUnit}
use Rattle.edi_scheme.specs.Laws.{parts_of}
use Rattle.edi_explored.specs.Moves.{moves_of, moves_selected}
use Rattle.edi_explored.specs.Reached.{AreAll, AreAllBelow, AreAllShown, AreAllShownBelow}
use Rattle.edi_waits.specs.Waits.{StandsSo, Waiting}
use Rattle.edi_explore.specs.declared.ends.Verdict.{Verdict}
use Rattle.edi_explore.specs.declared.ends.Verdict.TheVariants as verdict
use Rattle.edi_explore.specs.Offline.{offline}
pub use Rattle.edi_explore.specs.Choices.{AreChoices, most_choices, most_turns, turn_limit}
use Rattle.edi_runs.specs.explore.Orders.{OrdersOfSteps, SaysLongest, TellsOrders, speaks}

-- ---- what is found

-- an ending, with choices that bring it about, the turns and the moves that this takes, and all that is shown by then; and who waits where, if it is
-- a standstill
pub record Reached : Type 0 where
  pub ending : Ending
  pub choices : List ℕ
  pub turns : ℕ
  pub moves : ℕ
  pub shown : List ℕ
  pub waits : List Waiting

-- the endings in the order in which they were found, whether these are all, how many states were met, choices that say why a stint was cut, if the
-- verdict is that one was, how many moves an execution makes at most, if that was found, and what is said of every order of steps
pub record Findings : Type 0 where
  pub endings : List Reached
  pub verdict : Verdict
  pub states : ℕ
  pub cut : List ℕ
  pub longest : Option ℕ
  pub orders : OrdersOfSteps

abbrev pub endings_in : List Reached → List Ending
endings_in [] = []
endings_in (one ∷ found) = one.ending ∷ endings_in found

-- each with all that is shown
abbrev pub shown_endings_in : List Reached → List (Ending × List ℕ)
shown_endings_in [] = []
shown_endings_in (one ∷ found) = (one.ending, one.shown) ∷ shown_endings_in found

-- An ending that is found: no bound has cut the execution, and no instruction was without a meaning.
abbrev pub IsFound : Ending → Type 0
IsFound outcome.done = ⊤
IsFound (outcome.halted line) = ⊤
IsFound (outcome.failed why line) = ⊤
IsFound outcome.turns = ⊥
IsFound outcome.standstill = ⊤
IsFound (outcome.bad address) = ⊥

-- WHO WAITS WHERE: with these choices the code of the text stands still in a machine in which these processes stand at a `when`, at these lines,
-- and no others do. After another ending nobody is told.
pub record StandsStill (text input choices : List ℕ) (waits : List Waiting) : Type 0 where
  pub unit : ProgramUnit
  pub unit_is : IsUnit text unit
  pub stands : StandsSo (parts_of unit) (offline input) most_turns (record { source = listed choices; drawn = 0 }) waits

abbrev pub AreTold : Ending → (text input choices : List ℕ) → List Waiting → Type 0
AreTold outcome.standstill text input choices waits = StandsStill text input choices waits
AreTold ending text input choices waits = waits ≡ []

-- THESE CHOICES BRING IT ABOUT: the execution of the text that they select ends so, after so many turns and moves, with this shown. After the end
-- of the list each choice is 0.
pub record IsReachedBy (text input : List ℕ) (one : Reached) : Type 0 where
  pub outcome : Outcome
  pub run : IsRunOf text (offline input) most_turns (listed one.choices) outcome
  pub ending_is : outcome.ending ≡ one.ending
  pub turns_is : outcome.turns ≡ one.turns
  pub moves_is : moves_selected run.unit (offline input) most_turns (listed one.choices) outcome run.run ≡ one.moves
  pub shown_is : outcome.shown ≡ one.shown
  pub found : IsFound one.ending
  pub few : length one.choices ≤ most_choices
  pub small : AreChoices one.choices
  pub told : AreTold one.ending text input one.choices one.waits

-- the same is shown, where output is looked at
abbrev pub ShowSame : (asks : Bool) → (shown other : List ℕ) → Type 0
ShowSame true shown other = shown ≡ other
ShowSame false shown other = ⊤

-- No ending is found twice. Where output is looked at, one with other output is another ending.
abbrev pub AreDistinct : (asks : Bool) → List Reached → Type 0
AreDistinct asks found =
    (i j : ℕ) (a b : Reached) → slice_get found i ≡ Some a → slice_get found j ≡ Some b → a.ending ≡ b.ending → ShowSame asks a.shown b.shown → i ≡ j

-- ---- whether they are all

-- THESE ARE ALL ENDINGS of the text: whatever the choices are, and whatever the bound on the turns, its execution ends in one of these ways, or
-- the bound cuts it. An execution that goes on for ever is cut by each bound: that there is none is not said.
pub record AreAllOf (text input : List ℕ) (endings : List Ending) : Type 0 where
  pub unit : ProgramUnit
  pub unit_is : IsUnit text unit
  pub all : AreAll unit (offline input) endings

-- These are all endings of the executions that have fewer moves.
pub record AreAllOfBelow (moves : ℕ) (text input : List ℕ) (endings : List Ending) : Type 0 where
  pub unit : ProgramUnit
  pub unit_is : IsUnit text unit
  pub below : AreAllBelow moves unit (offline input) endings

-- These are all endings, each with all that is shown by then: no execution ends otherwise or shows anything else.
pub record AreAllShownOf (text input : List ℕ) (endings : List (Ending × List ℕ)) : Type 0 where
  pub unit : ProgramUnit
  pub unit_is : IsUnit text unit
  pub all : AreAllShown unit (offline input) endings

-- so of the executions that have fewer moves
pub record AreAllShownOfBelow (moves : ℕ) (text input : List ℕ) (endings : List (Ending × List ℕ)) : Type 0 where
  pub unit : ProgramUnit
  pub unit_is : IsUnit text unit
  pub below : AreAllShownBelow moves unit (offline input) endings

-- what a verdict says
abbrev pub Says : Verdict → (text input : List ℕ) → List Ending → Type 0
Says verdict.All text input endings = AreAllOf text input endings
Says (verdict.Full moves) text input endings = AreAllOfBelow moves text input endings
Says (verdict.Many moves) text input endings = AreAllOfBelow moves text input endings
Says (verdict.Cut moves) text input endings = AreAllOfBelow moves text input endings
Says (verdict.Unrecorded moves) text input endings = AreAllOfBelow moves text input endings
Says (verdict.NoMemory moves) text input endings = AreAllOfBelow moves text input endings

-- what it says where output is looked at
abbrev pub SaysShown : Verdict → (text input : List ℕ) → List (Ending × List ℕ) → Type 0
SaysShown verdict.All text input endings = AreAllShownOf text input endings
SaysShown (verdict.Full moves) text input endings = AreAllShownOfBelow moves text input endings
SaysShown (verdict.Many moves) text input endings = AreAllShownOfBelow moves text input endings
SaysShown (verdict.Cut moves) text input endings = AreAllShownOfBelow moves text input endings
SaysShown (verdict.Unrecorded moves) text input endings = AreAllShownOfBelow moves text input endings
SaysShown (verdict.NoMemory moves) text input endings = AreAllShownOfBelow moves text input endings

-- ---- whether they are shortest ones

-- NO EXECUTION OF THE TEXT OF FEWER MOVES ENDS SO, whatever its choices and its bound; with the same output, where output is looked at.
pub record IsFewest (asks : Bool) (text input : List ℕ) (one : Reached) : Type 0 where
  pub unit : ProgramUnit
  pub unit_is : IsUnit text unit
  pub fewest : (bound : ℕ) (choices : Choices) (end : Traced) (turns drawn : ℕ) (order : List Name) →
      Ends unit (offline input) bound choices one.ending end turns drawn order → ShowSame asks end.now.shown one.shown →
      one.moves ≤ moves_of unit (offline input) bound choices (length order)

-- So of what is found. Where the search has gone on after something was lacking, or memory ran out, it is said of endings of so few moves.
abbrev pub IsShortest : Verdict → (asks : Bool) → (text input : List ℕ) → Reached → Type 0
IsShortest (verdict.Cut moves) asks text input one = one.moves ≤ moves → IsFewest asks text input one
IsShortest (verdict.Unrecorded moves) asks text input one = one.moves ≤ moves → IsFewest asks text input one
IsShortest (verdict.NoMemory moves) asks text input one = one.moves ≤ moves → IsFewest asks text input one
IsShortest _ asks text input one = IsFewest asks text input one

-- `Full` is answered only where one state more was met than may be kept beside the first.
abbrev pub IsFullOnlyAt : (most : ℕ) → Verdict → (states : ℕ) → Type 0
IsFullOnlyAt most (verdict.Full moves) states = most < states
IsFullOnlyAt most _ states = ⊤

-- `Many` is answered only where output is looked at, and as many endings were found as may be told.
abbrev pub IsManyOnlyAt : (shown : Option ℕ) → Verdict → (found : ℕ) → Type 0
IsManyOnlyAt shown (verdict.Many moves) found = (most : ℕ) × (shown ≡ Some most) × (most ≤ found)
IsManyOnlyAt shown _ found = ⊤

-- this bound on its turns cuts the execution of the text that these choices select, after so many moves and with so many choices drawn
pub record IsCutAt (bound : ℕ) (text input choices : List ℕ) (moves drawn : ℕ) : Type 0 where
  pub outcome : Outcome
  pub run : IsRunOf text (offline input) bound (listed choices) outcome
  pub cut : outcome.ending ≡ turn_limit
  pub moved : moves_selected run.unit (offline input) bound (listed choices) outcome run.run ≡ moves
  pub draws : outcome.draws ≡ drawn

-- A PROCESS GOES ON FOR MORE THAN SO MANY TURNS in the execution of the text that these choices select: behind the first so many turns it has these
-- and wants one more, and in them no other process is taken, nor is it taken again, since there is neither a move nor a choice in them.
pub record IsCutBy (turns : ℕ) (text input choices : List ℕ) : Type 0 where
  pub before : ℕ
  pub moves : ℕ
  pub drawn : ℕ
  pub begins : IsCutAt before text input choices moves drawn
  pub goes_on : IsCutAt (before + turns) text input choices moves drawn
  pub few : length choices ≤ most_choices
  pub small : AreChoices choices

-- `Cut` is answered only with such choices.
abbrev pub IsCutOnlyBy : (turns : ℕ) → Verdict → (text input choices : List ℕ) → Type 0
IsCutOnlyBy turns (verdict.Cut moves) text input choices = IsCutBy turns text input choices
IsCutOnlyBy turns _ text input choices = ⊤

-- THE EXPLORATION: what was found of a text with an input, where so many states may be kept, and a process may take so many turns at once. With
-- a number, endings with other output are others, and so many are told at most; with none, output is not looked at.
pub record IsExplorationOf (text input : List ℕ) (most_states most_stint : ℕ) (shown : Option ℕ) (findings : Findings) : Type 0 where
  pub reached : (one : Reached) → Contains findings.endings one → IsReachedBy text input one
  pub distinct : AreDistinct (is_some shown) findings.endings
  pub says : Says findings.verdict text input (endings_in findings.endings)
  pub says_shown : is_some shown ≡ true → SaysShown findings.verdict text input (shown_endings_in findings.endings)
  pub shortest : (one : Reached) → Contains findings.endings one → IsShortest findings.verdict (is_some shown) text input one
  pub full : IsFullOnlyAt most_states findings.verdict findings.states
  pub bounded : findings.states ≤ suc most_states
  pub many : IsManyOnlyAt shown findings.verdict (length findings.endings)
  pub few : (most : ℕ) → shown ≡ Some most → length findings.endings ≤ most
  pub cut : IsCutOnlyBy most_stint findings.verdict text input findings.cut
  pub longest : SaysLongest findings.longest text input
  pub orders : TellsOrders (speaks findings.verdict shown (endings_in findings.endings)) findings.orders text input (endings_in findings.endings)
