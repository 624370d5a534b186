-- Words of contracts. Where instructions start.
use Rattle.std.specs.Prelude.{◌≡◌, ◌↔◌, ℕ, ◌<◌, true, List, length, Some}
use Rattle.edi_target.specs.Op.{Instruction}
use Rattle.edi_target.specs.Check.{starts_of, is_start}
use Rattle.edi_target.specs.Fetch.{fetch}

-- an instruction starts at the first address, and where one that is read ends, if there are words left
pub data StartsAt (words : List ℕ) : ℕ → Type 0 where
  at_first : 0 < length words → StartsAt words 0
  behind : (at next : ℕ) (op : Instruction) → StartsAt words at → fetch words at ≡ Some (op, next) → next < length words → StartsAt words next

-- these are the starts that a check finds in its one pass
abbrev pub StartsAreThese : Type 0
StartsAreThese = (words : List ℕ) (at : ℕ) → (is_start (starts_of words) at ≡ true) ↔ StartsAt words at
