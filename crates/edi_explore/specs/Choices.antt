-- Definition. THE CHOICES of an execution that is recorded.
use Rattle.std.specs.Prelude.{ℕ, ◌<◌, List, All}
use Rattle.edi_calls.specs.Outcome as outcome

-- the turns that it may have, and its choices
abbrev pub most_turns : ℕ
most_turns = 1000000000

abbrev pub most_choices : ℕ
most_choices = 65536

-- a choice that a file of choices may have
abbrev pub IsChoice : ℕ → Type 0
IsChoice choice = choice < 256

abbrev pub AreChoices : List ℕ → Type 0
AreChoices choices = All IsChoice choices

-- how an execution ends that its bound cuts
abbrev pub turn_limit : outcome.Ending
turn_limit = outcome.turns
