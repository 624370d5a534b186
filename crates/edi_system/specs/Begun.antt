-- Definition. The state of a system whose files are these, in which nothing is open.
use Rattle.std.specs.Prelude.{ℕ, List, length, None}
use Rattle.edi_calls.specs.State.{State}
use Rattle.edi_image.specs.Image.{slots_of}

-- the state over a drive with these blocks, an input with these bytes left, and a terminal and a printer that have taken these, with no
-- file open
abbrev pub state_begun : (blocks : List (List ℕ)) → (input shown printed : List ℕ) → State
state_begun blocks input shown printed = record {
  input = input;
  shown = shown;
  printed = printed;
  slots = slots_of blocks;
  blocks = length blocks;
  found = None;
  buffer = None;
}
