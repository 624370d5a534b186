-- Definition. What stands at a code address. The machine is defined over any such function; the words of a code are the one that
-- is meant.
use Rattle.std.specs.Prelude.{ℕ, ◌+◌, List, drop, Option, Some, None}
use Rattle.edi_target.specs.Op.{Instruction}
use Rattle.edi_target.specs.Decode.{decode}

-- the instruction that stands at an address of these words, and the address behind it
abbrev pub fetch : List ℕ → ℕ → Option (Instruction × ℕ)
fetch words at = elim (decode (drop at words)) [ None ↦ None | Some found ↦ Some (found.0, at + found.1) ]
