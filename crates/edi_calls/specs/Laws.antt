-- Words of contracts. Laws of the ten calls.
use Rattle.std.specs.Prelude.{◌≡◌, ◌⊎◌, ◌↔◌, ℕ, ◌≤◌, true, false, List, [], ◌∷◌, ◌++◌, length, map, replicate, Some}
use Rattle.edi_calls.specs.State.{State, character, is_title, title_of, find_file}
use Rattle.edi_calls.specs.SoundState.{IsState}
use Rattle.edi_calls.specs.Calls.{call, close, answered, answer_words, text_file}
use Rattle.edi_calls.specs.Ends.{IsTorn}
use Rattle.edi_calls.specs.Asked.{uses}
use Rattle.edi_calls.specs.declared.ends.Outside.TheVariants as outside

-- input is only taken, shown and printed bytes only follow those before them, and the numbers of slots and blocks stay
pub record GoesOn (before after : State) : Type 0 where
  pub input : (taken : List ℕ) × (before.input ≡ taken ++ after.input)
  pub shown : (more : List ℕ) × (after.shown ≡ before.shown ++ more)
  pub printed : (more : List ℕ) × (after.printed ≡ before.printed ++ more)
  pub slots : length after.slots ≡ length before.slots
  pub blocks : after.blocks ≡ before.blocks

abbrev pub EachCallGoesOn : Type 0
EachCallGoesOn = (number : ℕ) (words answer : List ℕ) (before after : State)
    → call number words before ≡ answered answer after → GoesOn before after

-- each of the ten calls has as many answer words as the table says
abbrev pub AnswersFit : Type 0
AnswersFit = (number : ℕ) (words answer : List ℕ) (before after : State) → 1 ≤ number → number ≤ 10
    → call number words before ≡ answered answer after → length answer ≡ answer_words number

-- what every state keeps is kept by each call
abbrev pub StatesStaySound : Type 0
StatesStaySound = (number : ℕ) (words answer : List ℕ) (before after : State) → IsState before
    → call number words before ≡ answered answer after → IsState after

-- a file that was closed under a title is the text file of that title, with the bytes that were written
abbrev pub ClosedFilesAreFound : Type 0
ClosedFilesAreFound = (words title bytes : List ℕ) (before after : State) → IsState before → title_of words ≡ Some title
    → before.buffer ≡ Some bytes → close words before ≡ answered (1 ∷ []) after
    → find_file after.slots title ≡ Some (text_file title bytes)

-- of the input, the bytes shown, the bytes printed and the slots at most one is another: the other three are as before
pub data ChangesOnePart (before after : State) : Type 0 where
  only_input : after.shown ≡ before.shown → after.printed ≡ before.printed → after.slots ≡ before.slots → ChangesOnePart before after
  only_shown : after.input ≡ before.input → after.printed ≡ before.printed → after.slots ≡ before.slots → ChangesOnePart before after
  only_printed : after.input ≡ before.input → after.shown ≡ before.shown → after.slots ≡ before.slots → ChangesOnePart before after
  only_slots : after.input ≡ before.input → after.shown ≡ before.shown → after.printed ≡ before.printed → ChangesOnePart before after

-- so does each call that is answered
abbrev pub EachCallChangesOnePart : Type 0
EachCallChangesOnePart = (number : ℕ) (words answer : List ℕ) (before after : State)
    → call number words before ≡ answered answer after → ChangesOnePart before after

-- two states that differ at most in their found files and buffers
pub record IsSameOutside (one other : State) : Type 0 where
  pub input : other.input ≡ one.input
  pub shown : other.shown ≡ one.shown
  pub printed : other.printed ≡ one.printed
  pub slots : other.slots ≡ one.slots
  pub blocks : other.blocks ≡ one.blocks

-- so a call that was to be answered and was failed by an object outside leaves, but for the found file and the buffer, the
-- state before it, or the whole state that it was to leave; one that uses the input leaves the state before it
abbrev pub TornIsBeforeOrBehind : Type 0
TornIsBeforeOrBehind = (number : ℕ) (words answer : List ℕ) (before next after : State)
    → call number words before ≡ answered answer next → IsTorn before next after
    → IsSameOutside before after ⊎ ((uses number outside.Input ≡ false) × IsSameOutside next after)

-- the title that words spell is t exactly where their characters are those of t, which is a title, and blanks behind them
abbrev pub TitlesAreSpelled : Type 0
TitlesAreSpelled = (words title : List ℕ) → (title_of words ≡ Some title)
    ↔ ((is_title title ≡ true) × ((blanks : ℕ) × (map character words ≡ title ++ replicate blanks 32)))
