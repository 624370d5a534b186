-- Definition. The system of a program whose choices are all followed: an input, no disk, and no file.
use Rattle.std.specs.Prelude.{ℕ, List, [], Option, None, replicate}
use Rattle.edi_calls.specs.State.{File, State}

-- slots without files
abbrev pub no_files : List (Option File)
no_files = replicate 256 None

-- the system with this input and nothing else
abbrev pub offline : List ℕ → State
offline input = record { input = input; shown = []; printed = []; slots = no_files; blocks = 0; found = None; buffer = None }
